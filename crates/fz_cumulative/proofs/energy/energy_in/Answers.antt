use Rattle.std.proofs.Common.{◌≡◌, ◌+◌, get_or, pos, rules, drop}
use Rattle.std.specs.Prelude.{ℤ, ◌+ℤ◌, ◌*ℤ◌}
use Rattle.std.proofs.lemmas.List.{at_drop_more}
use Rattle.std.proofs.Math.Facts.{to_z-of_z}
use mir.Val.{SFits, to_z}
use mir.Syntax.{w128}
use Rattle.fz_strength.specs.declared.open_task.OpenTask.{OpenTask}
use Rattle.fz_cumulative.specs.Energies.{least_overlap, energy_in}
use Rattle.fz_cumulative.proofs.Energies.{passed_one}
use Rattle.fz_cumulative.proofs.energy.energy_in.Goals as goal

pub loop-i-preserved : goal.loop-i-preserved
loop-i-preserved c =
    let d0 : OpenTask = record { earliest = pos 0; latest = pos 0; duration = pos 0; usage = pos 0 } in
    let since = c.args.window.since in
    let until = c.args.window.until in
    let tasks = c.args.tasks.now in
    let i = c.loop-i.i in
    let task = get_or tasks i d0 in
    let total = to_z w128 c.loop-i.total-bits in
    let more = at_drop_more (energy_in since until) tasks i d0 c.loop-i-test.true in
    let one : c.use_in.result ≡ (task.usage *ℤ least_overlap since until task) = c.use_in.ensures.product in
    let fits_one : SFits w128 c.use_in.result = search rules in
    let sum : c.add-total.result ≡ (total +ℤ c.use_in.result) = rw (to_z-of_z fits_one) at c.add-total.ensures.sum in
    let fits : SFits w128 c.add-total.result = search rules in
    rw (to_z-of_z fits) (
      passed_one total c.use_in.result c.add-total.result (task.usage *ℤ least_overlap since until task) (energy_in since until (drop i tasks)) (energy_in since until (drop (i + 1) tasks)) (energy_in since until tasks)
          c.loop-i.invariant.0 more one sum,
      c.add-total.ensures.near,
    )
