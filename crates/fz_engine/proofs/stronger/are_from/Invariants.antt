use Rattle.std.proofs.Common.{◌≡◌, ℕ, ◌<◌, pos}
use Rattle.std.specs.Prelude.{ℤ, ◌+ℤ◌, slice_get, Some}
use Rattle.fz_engine.proofs.stronger.are_from.Given as goal

-- those so far stand where they do
abbrev pub invariant-loop-place : goal.invariant-loop-place
invariant-loop-place l = (i : ℕ) (x : ℤ) → i < l.place → slice_get l.values i ≡ Some x → x ≡ (l.first +ℤ pos i)
