use Rattle.std.proofs.Common.{rules}
use Rattle.std.proofs.Math.Facts.{to_z-of_z}
use mir.Val.{SFits}
use mir.Syntax.{w32}
use Rattle.fz_alldiff.proofs.close.taken.Goals as goal

pub returns-then-not-has-clause-missing : goal.returns-then-not-has-clause-missing
returns-then-not-has-clause-missing c = λ none is.
    let fits : SFits w32 c.args.value = search rules in
    let has = rw (to_z-of_z fits) at c.has.ensures in
    let yes = has.1 is in
    let no = c.if-not-has.true in
    cc (yes, no)

pub returns-clause-taken : goal.returns-clause-taken
returns-clause-taken c =
    let fits : SFits w32 c.args.value = search rules in
    let has = rw (to_z-of_z fits) at c.has.ensures in
    (has.0 c.if-not-has.false, rw (to_z-of_z fits) at c.without.ensures.numbers)

pub without-requires-clause-low : goal.without-requires-clause-low
without-requires-clause-low c = rw (to_z-of_z c.ranges.value) c.requires.low

pub without-requires-clause-high : goal.without-requires-clause-high
without-requires-clause-high c = rw (to_z-of_z c.ranges.value) c.requires.high

pub returns-clause-base : goal.returns-clause-base
returns-clause-base c = c.without.ensures.base
