use Rattle.std.proofs.Common.{pos, arith, ◌∙◌}
use Rattle.std.proofs.lemmas.List.{take_all}
use Rattle.fz_spec.specs.declared.term.Term.{Term}
use Rattle.fz_spec.specs.declared.term.Term.TheVariants.{Num}
use Rattle.fz_strength.specs.Cumulatives.{open_tasks}
use Rattle.fz_cumulative.proofs.Reading.{length_of_tasks, tasks_one_more}
use Rattle.fz_cumulative.proofs.tasks.open_tasks.Goals as goal

pub loop-i-preserved : goal.loop-i-preserved
loop-i-preserved c =
    let ds = c.args.store.now.doms in
    let i = c.loop-i.i in
    let none : Term = Num (pos 0) in
    let here = c.loop-i-test.true in
    let least = c.min.ensures in
    let end = c.min-i-end.ensures in
    let task = c.open_task.ensures in
    let items = c.in_ok-push.ensures.items in
    let before = c.loop-i.invariant in
    let more = tasks_one_more ds c.args.starts.now c.args.durations.now c.args.usages.now i none none none
    (omega (arith, here, least, end)) (omega (arith, here, least, end)) (omega (arith, here, least, end)) in
    cc

pub returns : goal.returns
returns c =
    let ds = c.args.store.now.doms in
    let behind = c.loop-i-test.false in
    let least = c.min.ensures in
    let end = c.min-i-end.ensures in
    let long = length_of_tasks ds c.args.starts.now c.args.durations.now c.args.usages.now in
    c.loop-i.invariant ∙ take_all c.loop-i.i (open_tasks ds c.args.starts.now c.args.durations.now c.args.usages.now) (omega (arith, behind, least, end, long))
