-- The decisions of a choice.
use Rattle.std.specs.Prelude.{List}
use Rattle.fz_tree.specs.declared.decision.Decision.{Decision}
use Rattle.fz_tree.specs.Choice.{pair_of}
use Rattle.fz_region.specs.declared.choice.Alternatives.{Alternatives}
use Rattle.fz_region.specs.declared.choice.Alternatives.TheVariants.{Pair, Each}
use Rattle.fz_region.specs.Each.{each_of}

abbrev pub decisions_of : Alternatives → List Decision
decisions_of (Pair decision) = pair_of decision
decisions_of (Each variable values) = each_of variable values.value
