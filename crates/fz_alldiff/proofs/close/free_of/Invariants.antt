use Rattle.std.specs.Prelude.{◌≡◌}
use Rattle.fz_bits.specs.Windows.{IsBit}
use Rattle.fz_alldiff.proofs.Freeing.{AreFreeBelow, AreOpenBelow}
use Rattle.fz_alldiff.proofs.close.free_of.Given as goal

-- the numbers of the places so far aren't free, and that many of these aren't fixed
abbrev pub invariant-loop-term : goal.invariant-loop-term
invariant-loop-term l = record {
  base : l.numbers.base ≡ l.fn.span.low;
  free : AreFreeBelow l.terms l.store.doms l.fn.span.low l.fn.span.high (λ n. IsBit l.fn.span.low l.numbers.bits n) l.term-index;
  unfixed : AreOpenBelow l.terms l.store.doms l.unfixed l.term-index;
}
