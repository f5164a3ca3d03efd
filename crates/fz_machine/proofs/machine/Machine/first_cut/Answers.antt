use Rattle.std.proofs.Common.{◌≡◌, ◌∙◌, ◌+◌, suc, drop, ap, sym, arith}
use Rattle.std.specs.List.{position_from}
use Rattle.std.proofs.Math.ListN.{drop_of_length-le}
use Rattle.fz_machine.specs.Schedule.{can}
use Rattle.fz_machine.proofs.Victims.{cut_here, cut_later}
use Rattle.fz_machine.proofs.machine.Machine.first_cut.Goals as goal

pub returns-then-can_be_cut : goal.returns-then-can_be_cut
returns-then-can_be_cut g c =
    let ws = c.args.self.now.workers in
    let i = c.victims.worker in
    sym (c.victims.invariant ∙ cut_here ws i i (omega arith) (sym (rw c.slots.ensures at c.can_be_cut.ensures) ∙ c.if-can_be_cut.true))

pub victims-preserved : goal.victims-preserved
victims-preserved g c =
    let ws = c.args.self.now.workers in
    let i = c.victims.worker in
    let next : suc i ≡ i + 1 = omega arith in
    c.victims.invariant ∙ cut_later ws i i (omega arith) (sym (rw c.slots.ensures at c.can_be_cut.ensures) ∙ c.if-can_be_cut.false) ∙ ap (λ k. position_from can (i + 1) (drop k ws)) next

pub returns : goal.returns
returns g c = sym (c.victims.invariant ∙ ap (position_from can c.victims.worker) (drop_of_length-le c.args.self.now.workers (omega arith)))
