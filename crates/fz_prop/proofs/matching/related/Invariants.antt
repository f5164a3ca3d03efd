use Rattle.std.specs.Prelude.{◌≡◌}
use Rattle.fz_bits.specs.Windows.{IsBit}
use Rattle.fz_prop.proofs.Partnering.{AreMatchingBut}
use Rattle.fz_prop.proofs.matching.related.Given as goal

-- the pairs of the first numbers that are no longer left
abbrev pub invariant-numbers : goal.invariant-numbers
invariant-numbers g l = record {
  kept_base : l.kept.base ≡ l.fn.firsts.base;
  found_base : l.found.base ≡ l.fn.seconds.base;
  left_base : l.left.base ≡ l.fn.firsts.base;
  matching : AreMatchingBut (g.P.Partners.are_partners l.partners) (λ n. IsBit l.fn.firsts.base l.fn.firsts.bits n) (λ m. IsBit l.fn.seconds.base l.fn.seconds.bits m)
      (λ n. IsBit l.fn.firsts.base l.left.bits n) (λ n. IsBit l.fn.firsts.base l.kept.bits n) (λ m. IsBit l.fn.seconds.base l.found.bits m);
}

abbrev pub decreases-numbers : goal.decreases-numbers
decreases-numbers g l = l.left.bits
