-- The items of a list, whoever has it.
use Rattle.std.specs.Prelude.{List}
use Rattle.fz_model.specs.declared.listed.Owner.{Owner}
use Rattle.fz_model.specs.declared.listed.Owner.TheVariants.{One, Many}

abbrev pub items_of : {T : Type 0} → Owner T → List T
items_of (One items) = items.items
items_of (Many items) = items.value.items
