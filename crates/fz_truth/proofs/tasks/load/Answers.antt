use Rattle.std.proofs.Common.{◌≡◌, ◌<◌, ◌^◌, ◌+◌, ◌+ℤ◌, rules, arith, length, SFits, sym, ap, ◌∙◌, subst, to_z, of_z}
use Rattle.std.specs.Int.{w128}
use Rattle.std.specs.Prelude.{ℤ}
use Rattle.std.proofs.Math.Facts.{to_z-of_z}
use Rattle.fz_spec.specs.Truth.{usage_at}
use Rattle.fz_truth.specs.Listed.{task_of, listed}
use Rattle.fz_truth.proofs.TaskLaws.{IsLoaded, load_more, load_fits}
use Rattle.fz_truth.proofs.tasks.load.Goals as goal

pub loop-i-preserved : goal.loop-i-preserved
loop-i-preserved c =
    let tasks = listed c.args.tasks in
    let used : SFits w128 c.usage_at-load.result = search rules in
    let use_is = to_z-of_z used in
    let here : c.loop-i.i < length tasks = subst (λ n. c.loop-i.i < n) c.count-i-end.ensures.all c.loop-i-test.true in
    let wide : c.loop-i.i < 2 ^ 64 = omega (arith, here, c.loop-i-test.true, c.count-i-end.type_inv) in
    let load = to_z w128 c.loop-i.load-bits in
    let time = to_z-of_z c.ranges.time in
    let before = subst (λ (t : ℤ). IsLoaded t tasks c.loop-i.i load) time c.loop-i.invariant in
    let sum = to_z-of_z (load_fits c.loop-i.i load c.usage_at-load.result before.near c.usage_at-load.ensures.near wide) in
    let total = ap (λ v. to_z w128 (of_z w128 (load +ℤ v))) use_is ∙ sum in
    let uses : c.usage_at-load.result ≡ usage_at c.args.time (task_of c.task_at.result) = search rules in
    subst (λ (t : ℤ). IsLoaded t tasks (c.loop-i.i + 1) (to_z w128 (of_z w128 (load +ℤ to_z w128 (of_z w128 c.usage_at-load.result))))) (sym time)
    (subst (λ (l : ℤ). IsLoaded c.args.time tasks (c.loop-i.i + 1) l) (sym total)
    (load_more c.args.time tasks c.loop-i.i load c.usage_at-load.result (task_of c.task_at.result) before here c.task_at.ensures uses c.usage_at-load.ensures.near))
