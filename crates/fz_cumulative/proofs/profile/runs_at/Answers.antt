use Rattle.std.proofs.Common.{◌≡◌, rules, arith, ◌+ℤ◌, ◌≤ℤ◌}
use Rattle.std.proofs.lemmas.Int.{ints}
use Rattle.std.proofs.Math.Facts.{to_z-of_z}
use mir.Val.{SFits}
use mir.Syntax.{w64}
use Rattle.fz_cumulative.proofs.profile.runs_at.Goals as goal

pub returns-then-start-time : goal.returns-then-start-time
returns-then-start-time c =
    let sum : c.plus.result ≡ c.args.start +ℤ c.args.task.duration = search rules in
    let begun : c.args.start ≤ℤ c.args.time = search rules in
    let fits : SFits w64 c.plus.result = search rules in
    let tells = rw (to_z-of_z c.ranges.time, to_z-of_z fits) at c.is_before.ensures in (
      (λ before. record { begun = begun; lasting = let h = tells.0 before in omega (arith, ints, h, sum) }),
      (λ h. let l = h.lasting in tells.1 (omega (arith, ints, l, sum))),
    )
