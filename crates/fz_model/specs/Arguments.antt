-- What the arguments of constraints mean.
use Rattle.fz_model.specs.declared.constraint.Argument.{Argument}
use Rattle.fz_model.specs.declared.constraint.Argument.TheVariants.{One, Numbers, Terms, Set}
use Rattle.fz_spec.specs.Constraints as meaning

abbrev pub argument_of : Argument → meaning.Argument
argument_of (One term) = meaning.One term
argument_of (Numbers numbers) = meaning.Numbers numbers
argument_of (Terms terms) = meaning.Terms terms
argument_of (Set set) = meaning.Set set.value
