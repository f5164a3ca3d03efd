use Rattle.fz_alldiff.proofs.Settling.{AreListed}
use Rattle.fz_alldiff.proofs.settled.fixed_entries.Given as goal

-- those so far
abbrev pub invariant-loop-place : goal.invariant-loop-place
invariant-loop-place l = AreListed l.terms l.store.doms l.entries.items l.place
