use Rattle.std.proofs.Common.{rules}
use Rattle.std.proofs.Math.Facts.{to_z-of_z}
use mir.Val.{SFits}
use mir.Syntax.{w32}
use Rattle.fz_linear.proofs.linear.Linear.new.Goals as goal

pub invariant_of-result : goal.invariant_of-result
invariant_of-result c =
    let fits : SFits w32 c.number_right-number.result = search rules in
    rw (to_z-of_z fits) (record {
      bounded = c.requires.bounded;
      same = search rules;
      few = search rules;
      fits = search rules;
      allowed = search rules;
      shaped = rw (c.deref-2.ensures.value, c.deref-3.ensures.value, to_z-of_z fits) at c.shape_of-shape.ensures;
    })
