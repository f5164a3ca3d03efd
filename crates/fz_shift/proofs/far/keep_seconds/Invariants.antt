use Rattle.std.specs.Prelude.{◌≤ℤ◌, ◌<ℤ◌, ◌+ℤ◌, ◌-ℤ◌, ℤ, nat_abs, pos}
use Rattle.fz_sets.specs.Sets.{IsInSet, LEAST, GREATEST}
use Rattle.fz_bits.specs.Windows.{IsBit}
use Rattle.fz_strength.specs.Domains.{dom_at}
use Rattle.fz_shift.specs.Points.{IsMade}
use Rattle.fz_shift.proofs.Leaving.{HasKept}
use Rattle.fz_shift.proofs.far.keep_seconds.Given as goal

-- the numbers below the base are kept where they are made
abbrev pub invariant-words : goal.invariant-words
invariant-words l = record {
  kept : HasKept l.plane.second (λ x. x <ℤ l.base → IsMade l.plane (λ u. IsBit l.across.base l.across.bits u) (λ w. IsBit l.first.base l.first.bits w) x) l.fn.store l.store;
  floor : LEAST ≤ℤ l.base;
  ceiling : l.base ≤ℤ (l.high +ℤ pos 64);
  most : l.high ≤ℤ GREATEST;
  high : (x : ℤ) → IsInSet (dom_at l.fn.store.doms l.plane.second) x → x ≤ℤ l.high;
}

abbrev pub decreases-words : goal.decreases-words
decreases-words l = nat_abs ((l.high +ℤ pos 64) -ℤ l.base)
