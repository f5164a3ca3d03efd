use Rattle.std.proofs.Common.{◌∙◌, rules}
use Rattle.std.proofs.Math.Facts.{to_z-of_z}
use mir.Val.{SFits}
use mir.Syntax.{w32}
use Rattle.fz_hall.proofs.interval.ends_of.Goals as goal

pub returns-clause-low : goal.returns-clause-low
returns-clause-low c =
    let fits : SFits w32 c.least_of.result = search rules in
    to_z-of_z fits ∙ c.least_of.ensures.least

pub returns-clause-high : goal.returns-clause-high
returns-clause-high c =
    let fits : SFits w32 c.greatest_of.result = search rules in
    to_z-of_z fits ∙ c.greatest_of.ensures.greatest
