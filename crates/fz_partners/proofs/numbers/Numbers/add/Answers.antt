use Rattle.std.proofs.Common.{w32}
use Rattle.std.proofs.Math.Facts.{to_z-of_z}
use mir.Val.{SFits}
use Rattle.fz_partners.proofs.numbers.Numbers.add.Goals as goal

pub returns-in-Some-clause-has : goal.returns-in-Some-clause-has
returns-in-Some-clause-has c = λ x.
    let fits : SFits w32 c.args.number = c.ranges.number in
    rw (c.with.ensures.base, c.in-Some.is) (rw (to_z-of_z fits) at c.with.ensures.numbers x)
