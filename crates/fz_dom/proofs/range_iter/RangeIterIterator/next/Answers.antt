use Rattle.std.proofs.Common.{arith, rules}
use Rattle.fz_dom.proofs.Left.{step_of_word, step_of_list, no_step, goes_on}
use Rattle.fz_dom.proofs.range_iter.RangeIterIterator.next.Goals as goal

pub returns-then-self-ne0-clause-steps : goal.returns-then-self-ne0-clause-steps
returns-then-self-ne0-clause-steps c =
    let r = c.self.inside in
    let run = c.first_run-first.ensures in
    step_of_word r.first r.base _ _ r.word c.bits_above-self-inside.result c.first_run-first.result.0 c.first_run-first.result.1 r.rest.now c.args.self.now
    c.in_default.is c.self.view_is run.first run.last run.run run.none_before run.none_after c.bits_above-self-inside.ensures (search rules) (search rules)

pub returns-then-self-ne0-clause-goes : goal.returns-then-self-ne0-clause-goes
returns-then-self-ne0-clause-goes c = goes_on _ _ c.args.self.now _ tt (returns-then-self-ne0-clause-steps c)

pub returns-in_err-range-clause-steps : goal.returns-in_err-range-clause-steps
returns-in_err-range-clause-steps c =
    let r = c.self.inside in
    let n = no_step r.first r.base r.word r.rest.now c.args.self.now c.in_default.is c.self.view_is (let t = c.if-self-ne0.false in omega arith) c.in_err-range.ensures.cases in
    rw c.from_residual.ensures (n, n)

pub returns-clause-steps : goal.returns-clause-steps
returns-clause-steps c =
    let r = c.self.inside in
    step_of_list r.first r.base r.word r.rest.now c.in_ok-range.rest.now c.args.self.now c.in_ok-range.range.now
    c.in_default.is c.self.view_is (let t = c.if-self-ne0.false in omega arith) (search rules)
