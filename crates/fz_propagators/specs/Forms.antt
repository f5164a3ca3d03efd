-- What each propagator says.
use Rattle.fz_strength.specs.Sayings.{Saying}
use Rattle.fz_propagators.specs.declared.any.AnyPropagator.{AnyPropagator}
use Rattle.fz_propagators.specs.declared.any.AnyPropagator.TheVariants as forms

abbrev pub said_of : AnyPropagator → Saying
said_of (forms.Comparison comparison) = comparison
said_of (forms.ReifiedComparison comparison) = comparison
said_of (forms.Membership membership) = membership
said_of (forms.ReifiedMembership membership) = membership
said_of (forms.Linear linear) = linear
said_of (forms.ReifiedLinear linear) = linear
said_of (forms.PartneredSum sum) = sum
said_of (forms.Clause clause) = clause
said_of (forms.Arithmetic arithmetic) = arithmetic
said_of (forms.Parity parity) = parity
said_of (forms.Element element) = element
said_of (forms.VariableElement element) = element
said_of (forms.Table table) = table
said_of (forms.Regular regular) = regular
said_of (forms.AllDifferent different) = different
said_of (forms.HallIntervals intervals) = intervals
said_of (forms.Disjunctive disjunctive) = disjunctive
said_of (forms.Inverse inverse) = inverse
said_of (forms.GlobalCardinality cardinality) = cardinality
said_of (forms.Awaiting awaiting) = awaiting
