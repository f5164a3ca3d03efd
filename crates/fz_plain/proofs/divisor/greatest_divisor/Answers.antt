use Rattle.std.proofs.Common.{◌≡◌, pos, nat_abs, take, get_or, rules, arith}
use Rattle.std.proofs.lemmas.List.{take_more, take_all}
use Rattle.fz_plain.proofs.Divisors.{divisor_more, itself, zero_multiple}
use Rattle.fz_plain.proofs.divisor.greatest_divisor.Goals as goal

pub loop-number-init : goal.loop-number-init
loop-number-init c = λ d. ((λ h. zero_multiple d), (λ h. tt))

pub loop-number-preserved : goal.loop-number-preserved
loop-number-preserved c = λ d.
    let ks = c.args.numbers.now in
    let i = c.loop-number.number-index in
    let size : c.unsigned_abs.result ≡ nat_abs (get_or ks i (pos 0)) = search rules in
    rw (take_more ks i (pos 0) c.loop-number-test.true)
    (divisor_more d (take i ks) (get_or ks i (pos 0)) c.loop-number.divisor c.common_divisor-divisor.result (c.loop-number.invariant d) (rw size at (c.common_divisor-divisor.ensures d)))

pub returns-clause-divides : goal.returns-clause-divides
returns-clause-divides c =
    rw (take_all c.loop-number.number-index c.args.numbers.now (omega arith)) at ((c.loop-number.invariant (pos c.loop-number.divisor)).1 (itself (pos c.loop-number.divisor)))

pub returns-clause-greatest : goal.returns-clause-greatest
returns-clause-greatest c = λ d all.
    (c.loop-number.invariant d).0 (rw (← take_all c.loop-number.number-index c.args.numbers.now (omega arith)) at all)
