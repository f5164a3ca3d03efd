use Rattle.fz_resolve.proofs.annotations.+argument_at.Given as goal

abbrev pub decreases-argument_at : goal.decreases-argument_at
decreases-argument_at l = l.place
