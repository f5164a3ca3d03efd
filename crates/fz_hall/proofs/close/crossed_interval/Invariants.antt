use Rattle.std.proofs.Common.{ℕ, ◌-◌, ◌*◌, ◌≤◌, ◌<◌, pos}
use Rattle.std.specs.Prelude.{◌+ℤ◌, ◌≤ℤ◌}
use Rattle.fz_hall.specs.Counts.{IsExcess, IsSeenAt}
use Rattle.fz_hall.proofs.close.crossed_interval.Given as goal

-- what is seen of the last numbers
abbrev pub invariant-loop-back : goal.invariant-loop-back
invariant-loop-back l = record {
  excess : IsExcess l.terms l.store.doms (l.fn.span.low +ℤ pos (l.width - l.back)) l.fn.span.high l.excess;
  bound : l.excess ≤ℤ pos (255 * l.back);
  seen : (v : ℕ) → (l.width - l.back) ≤ v → v < l.width → IsSeenAt l.terms l.store.doms (l.fn.span.low +ℤ pos v);
}
