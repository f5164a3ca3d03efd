use Rattle.std.proofs.Common.{◌≡◌, ◌<◌, ◌%◌, pos, nat_abs, rules, arith}
use Rattle.fz_plain.proofs.Divisors.{rest_multiple, multiple_rest, none_multiple, sized_multiple, zero_multiple}
use Rattle.fz_plain.proofs.divisor.is_multiple.Goals as goal

pub returns-then-divisor-eq0 : goal.returns-then-divisor-eq0
returns-then-divisor-eq0 c =
    let size : c.unsigned_abs-size.result ≡ nat_abs c.args.number = search rules in
    let none : c.args.divisor ≡ 0 = search rules in (
      (λ h. let zero : nat_abs c.args.number ≡ 0 = search rules in
          sized_multiple (pos c.args.divisor) c.args.number (rw zero (zero_multiple (pos c.args.divisor)))),
      (λ h. let zero = none_multiple c.args.number (rw none at h) in grind (arith, size, zero)),
    )

pub returns : goal.returns
returns c =
    let size : c.unsigned_abs-size.result ≡ nat_abs c.args.number = search rules in
    let some : 0 < c.args.divisor = search rules in (
      (λ h. let zero : nat_abs c.args.number % c.args.divisor ≡ 0 = search rules in rest_multiple c.args.number c.args.divisor zero),
      (λ h. let zero = multiple_rest c.args.number c.args.divisor some h in let same = rw (← size) at zero in grind (arith, same)),
    )
