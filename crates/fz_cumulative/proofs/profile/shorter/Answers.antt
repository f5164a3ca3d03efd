use Rattle.std.proofs.Common.{◌≡◌, ◌∙◌, rules}
use Rattle.std.specs.Prelude.{◌+ℤ◌}
use Rattle.std.specs.Int.{int_max, int_min}
use Rattle.std.proofs.Math.Facts.{to_z-of_z}
use mir.Val.{SFits}
use mir.Syntax.{w32, w64}
use Rattle.fz_cumulative.proofs.profile.shorter.Goals as goal

pub returns-clause-since : goal.returns-clause-since
returns-clause-since c =
    let since : SFits w64 c.args.stretch.since = search rules in
    let latest : SFits w32 c.args.task.latest = search rules in
    let wide : SFits w64 c.from.result = search rules in
    let most : SFits w64 c.max.result = search rules in
    let start : c.from.result ≡ c.args.task.latest = rw (to_z-of_z latest) at c.from.ensures in
    let later : c.max.result ≡ int_max c.args.stretch.since c.args.task.latest = rw (to_z-of_z since, to_z-of_z wide, start) at c.max.ensures.value in
    to_z-of_z most ∙ later

pub returns-clause-until : goal.returns-clause-until
returns-clause-until c =
    let until : SFits w64 c.args.stretch.until = search rules in
    let earliest : SFits w32 c.args.task.earliest = search rules in
    let duration : SFits w32 c.args.task.duration = search rules in
    let wide : SFits w64 c.plus.result = search rules in
    let least : SFits w64 c.min.result = search rules in
    let end : c.plus.result ≡ c.args.task.earliest +ℤ c.args.task.duration = rw (to_z-of_z earliest, to_z-of_z duration) at c.plus.ensures.sum in
    let sooner : c.min.result ≡ int_min c.args.stretch.until (c.args.task.earliest +ℤ c.args.task.duration) = rw (to_z-of_z until, to_z-of_z wide, end) at c.min.ensures.value in
    to_z-of_z least ∙ sooner
