use Rattle.fz_spec.specs.Constraints.{term_value}
use Rattle.fz_prop.proofs.Keeping.{IsKept}
use Rattle.fz_counts.specs.declared.places.Choice.TheVariants.{Without}
use Rattle.fz_counts.specs.Covers.{Takes}
use Rattle.fz_counts.proofs.mixed.remove_all.Given as goal

-- no assignment is lost that gives the term no value of the cover
abbrev pub invariant-loop-value : goal.invariant-loop-value
invariant-loop-value l = IsKept (λ a. Takes Without l.fn.cover (term_value a l.term)) l.initial.store l.store l.has_changed
