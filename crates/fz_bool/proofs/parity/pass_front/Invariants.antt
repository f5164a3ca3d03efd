use Rattle.std.proofs.Common.{◌≡◌}
use Rattle.fz_prop.specs.Told.{AreEndsOdd}
use Rattle.fz_bool.proofs.parity.pass_front.Given as goal

-- the terms before this are passed, and nothing else
abbrev pub invariant-loop-place : goal.invariant-loop-place
invariant-loop-place l = record {
  told : AreEndsOdd l.terms l.ends.front l.ends.back l.ends.number l.store.doms;
  here : l.ends.front ≡ l.place;
  other : l.ends.back ≡ l.initial.ends.back;
}
