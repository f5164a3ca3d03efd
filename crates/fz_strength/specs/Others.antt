-- What has no line of its own.
use Rattle.std.specs.Prelude.{ℤ, List, []}
use Rattle.fz_spec.specs.declared.shape.Shape.{Shape}
use Rattle.fz_spec.specs.Constraints.{Argument, HoldsAs, terms_among}
use Rattle.fz_strength.specs.declared.cost.Cost.TheVariants.{Linear}
use Rattle.fz_strength.specs.declared.event.Event.TheVariants.{Fixed}
use Rattle.fz_strength.specs.Domains.{Within}
use Rattle.fz_strength.specs.Events.{AllFixed, waits_for}
use Rattle.fz_strength.specs.Meanings.{Meaning}

-- The line of any constraint: where one number is left of each of its terms, it is true.
abbrev pub RestsOnceFixed : Shape → List Argument → List (List (ℤ × ℤ)) → Type 0
RestsOnceFixed shape arguments ds = AllFixed ds (terms_among arguments) → (a : List ℤ) → Within ds a → HoldsAs shape arguments a

-- what a shape says of its arguments
abbrev pub otherwise : Shape → List Argument → Meaning
otherwise shape arguments = record {
  truth = λ a. HoldsAs shape arguments a;
  line = λ ds. RestsOnceFixed shape arguments ds;
  waits = waits_for Fixed (terms_among arguments);
  terms = terms_among arguments;
  truths = [];
  cost = Linear;
}
