use Rattle.std.specs.Prelude.{pos}
use Rattle.fz_linear.specs.Sides.{all_seen_from}
use Rattle.fz_linear.proofs.Passing.{IsPass}
use Rattle.fz_linear.proofs.pass.tighten_all.Given as goal

-- the terms so far are tightened
abbrev pub invariant-loop-i : goal.invariant-loop-i
invariant-loop-i l = IsPass (all_seen_from l.side l.factors) l.terms (pos l.slack) l.initial.store l.store l.i l.changed
