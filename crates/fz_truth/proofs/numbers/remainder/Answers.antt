use Rattle.std.proofs.Common.{◌≡◌, ℤ, rules, arith, ◌∙◌, SFits, w64}
use Rattle.std.proofs.Math.Facts.{to_z-of_z}
use Rattle.std.specs.Prelude.{◌*ℤ◌, ◌-ℤ◌, int_div, int_rem}
use Rattle.std.proofs.lemmas.Int.{ints, quot-rem}
use Rattle.fz_truth.proofs.numbers.remainder.Goals as goal

rest : (a b : ℤ) → int_rem a b ≡ a -ℤ (int_div a b *ℤ b)
rest a b = let e = quot-rem a b in omega (arith, ints, e)

pub returns : goal.returns
returns c = let is : c.truncated_remainder.result ≡ int_rem c.args.a c.args.b = search rules in
    let fits : SFits w64 c.truncated_remainder.result = search rules in to_z-of_z fits ∙ is ∙ rest c.args.a c.args.b
