use Rattle.std.proofs.Common.{rules, ◌≡◌, ◌^◌, ◌≤◌, ◌*ℤ◌, arith, of_z, to_z}
use Rattle.std.specs.Prelude.{unsigned_abs}
use Rattle.std.proofs.lemmas.Int.{unsigned_abs-mul, fits_signed_mul}
use Rattle.std.proofs.lemmas.Nat.{mul-le}
use Rattle.std.proofs.Math.Facts.{to_z-of_z}
use mir.Val.{SFits}
use mir.Syntax.{w64}
use Rattle.fz_linear.proofs.sums.product.Goals as goal

pub returns-clause-near : goal.returns-clause-near
returns-clause-near c =
    let small : unsigned_abs c.args.number ≤ 2 ^ 31 = search rules in
    let small_factor : unsigned_abs c.args.factor ≤ 2 ^ 31 = search rules in
    let factor_is : to_z w64 (of_z w64 c.from.result) ≡ c.args.factor = search rules in
    let number_is : to_z w64 (of_z w64 c.from-2.result) ≡ c.args.number = search rules in
    let fits : SFits w64 (c.args.factor *ℤ c.args.number) = fits_signed_mul w64 c.args.factor c.args.number (2 ^ 31) (2 ^ 31) small_factor small (omega arith) in
    rw (factor_is, number_is, to_z-of_z fits, unsigned_abs-mul c.args.factor c.args.number) (mul-le (unsigned_abs c.args.factor) (unsigned_abs c.args.number) (unsigned_abs c.args.factor) (2 ^ 31) (omega arith) small)
