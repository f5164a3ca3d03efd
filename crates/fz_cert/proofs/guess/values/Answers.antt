use Rattle.std.proofs.Common.{ℕ, suc, ◌+◌, ◌≡◌, subst, arith}
use Rattle.fz_cert.proofs.Heading.{IsSoFar, none_so_far, value_read, values_read}
use Rattle.fz_cert.proofs.guess.values.Goals as goal

pub loop-i-init : goal.loop-i-init
loop-i-init c = none_so_far c.args.count c.args.text.now c.new-values.result.items c.new-values.ensures.items

pub loop-i-preserved : goal.loop-i-preserved
loop-i-preserved c =
    let on : suc c.loop-i._i ≡ c.loop-i._i + 1 = omega arith in
    subst (λ (i : ℕ). IsSoFar c.args.count c.args.text.now c.next_value-value.result.1.now c.push.new.self.items i) on
    (value_read c.args.count c.args.text.now c.loop-i.left.now c.next_value-value.result.1.now c.loop-i.values.items c.push.new.self.items c.next_value-value.result.0 c.loop-i._i c.loop-i.invariant c.loop-i-test.true c.next_value-value.ensures.within c.next_value-value.ensures.value c.in_ok-push.ensures.items)

pub returns-clause-numbers : goal.returns-clause-numbers
returns-clause-numbers c = c.loop-i.invariant.numbers

pub returns-clause-values : goal.returns-clause-values
returns-clause-values c = let most = c.loop-i.auto._i-end in let least = c.loop-i-test.false in
    values_read c.args.count c.args.text.now c.loop-i.left.now c.loop-i.values.items c.loop-i._i c.loop-i.invariant (omega (arith, most, least))
