use Rattle.std.proofs.Common.{◌≡◌, rules, arith, ◌+ℤ◌, ◌-ℤ◌}
use Rattle.std.proofs.lemmas.Int.{ints}
use Rattle.std.proofs.Math.Facts.{to_z-of_z}
use mir.Val.{SFits}
use mir.Syntax.{w64}
use Rattle.fz_strength.specs.Cumulatives.{part_at}
use Rattle.fz_cumulative.proofs.profile.passes.Goals as goal

pub returns : goal.returns
returns c =
    let part : c.part_at.result ≡ part_at c.args.time c.args.task = search rules in
    let sum : c.plus.result ≡ c.args.bound +ℤ c.part_at.result = search rules in
    let limit : c.minus.result ≡ c.plus.result -ℤ c.args.task.usage = search rules in
    let fits : SFits w64 c.minus.result = search rules in
    let tells = rw (to_z-of_z fits) at c.is_above.ensures in (
      (λ above. record { passed = let h = tells.0 above in omega (arith, ints, h, part, sum, limit) }),
      (λ h. let p = h.passed in tells.1 (omega (arith, ints, p, part, sum, limit))),
    )
