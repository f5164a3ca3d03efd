use Rattle.std.proofs.Common.{◌≡◌}
use Rattle.fz_prop.specs.Told.{AreEndsOdd}
use Rattle.fz_bool.proofs.parity.pass_back.Given as goal

-- the terms before this are passed, and nothing else
abbrev pub invariant-loop-passed : goal.invariant-loop-passed
invariant-loop-passed l = record {
  told : AreEndsOdd l.terms l.ends.front l.ends.back l.ends.number l.store.doms;
  here : l.ends.back ≡ l.passed;
  other : l.ends.front ≡ l.initial.ends.front;
}
