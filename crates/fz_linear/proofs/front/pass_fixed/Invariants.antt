use Rattle.std.proofs.Common.{◌≡◌}
use Rattle.fz_prop.specs.Told.{IsToldSum}
use Rattle.fz_linear.proofs.front.pass_fixed.Given as goal

-- the terms before this place are passed
abbrev pub invariant-loop-place : goal.invariant-loop-place
invariant-loop-place l = record {
  told : IsToldSum l.factors l.terms l.kept.front l.kept.number l.store.doms;
  here : l.kept.front ≡ l.place;
}
