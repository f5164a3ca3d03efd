use Rattle.std.specs.Prelude.{◌≡◌}
use Rattle.fz_bits.specs.Windows.{IsBit}
use Rattle.fz_alldiff.proofs.Filling.{IsFilling}
use Rattle.fz_alldiff.proofs.close.keep_free.Given as goal

-- the places so far keep to what was free at first
abbrev pub invariant-loop-term : goal.invariant-loop-term
invariant-loop-term l = record {
  base : l.left.base ≡ l.fn.free.base;
  filling : IsFilling l.terms (λ n. IsBit l.fn.free.base l.fn.free.bits n) l.initial.store l.store (λ n. IsBit l.fn.free.base l.left.bits n) l.has_fixed l.term-index;
}
