use Rattle.std.proofs.Common.{◌<◌, ℕ}
use Rattle.fz_alldiff.specs.Differing.{IsFixedPlace, IsDone}
use Rattle.fz_alldiff.proofs.far.next_fixed.Given as goal

-- those so far that are fixed are done
abbrev pub invariant-loop-place : goal.invariant-loop-place
invariant-loop-place l = (i : ℕ) → i < l.place → IsFixedPlace l.terms l.store.doms i → IsDone l.done i
