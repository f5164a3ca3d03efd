use Rattle.std.proofs.Common.{◌∙◌, ap, arith}
use Rattle.fz_strength.specs.declared.event.Event.TheVariants.{Any, Bound}
use Rattle.fz_agenda.specs.Queues.{AreAwake}
use Rattle.fz_agenda.specs.Wakes.{Waking, waiting_at, WaitsFor}
use Rattle.fz_agenda.proofs.Waking.{fixed_woken, levels_woken, whatever}
use Rattle.fz_agenda.proofs.Woken.{all_still_awake}
use Rattle.fz_agenda.proofs.wakes.Wakes.wake_fixed.Goals as goal

pub returns-clause-woken : goal.returns-clause-woken
returns-clause-woken c =
    levels_woken c.args.self.now c.args.variable 2 3 c.args.agenda.now c.wake_bound.new.agenda c.wake_listed.new.agenda (omega arith) c.wake_bound.ensures.woken
    (fixed_woken c.args.self.now c.deref.result.now c.deref-2.result.now c.args.variable 3 c.wake_bound.new.agenda c.wake_listed.new.agenda (c.deref.ensures.value ∙ ap (λ (w : Waking). w.fixed) c.self.view_is) (c.deref-2.ensures.value ∙ ap (λ (w : Waking). w.costs) c.self.view_is) (omega arith) c.wake_listed.ensures.woken)

pub returns-clause-any : goal.returns-clause-any
returns-clause-any c =
    whatever c.wake_listed.result (AreAwake c.wake_listed.new.agenda.states (waiting_at c.args.self.now Any c.args.variable))
    (all_still_awake (WaitsFor c.args.self.now c.args.variable 3) c.args.self.now.costs c.wake_bound.new.agenda c.wake_listed.new.agenda (waiting_at c.args.self.now Any c.args.variable)
    (fixed_woken c.args.self.now c.deref.result.now c.deref-2.result.now c.args.variable 3 c.wake_bound.new.agenda c.wake_listed.new.agenda (c.deref.ensures.value ∙ ap (λ (w : Waking). w.fixed) c.self.view_is) (c.deref-2.ensures.value ∙ ap (λ (w : Waking). w.costs) c.self.view_is) (omega arith) c.wake_listed.ensures.woken)
    c.in_ok-wake_bound.ensures.any)

pub returns-clause-bound : goal.returns-clause-bound
returns-clause-bound c =
    whatever c.wake_listed.result (AreAwake c.wake_listed.new.agenda.states (waiting_at c.args.self.now Bound c.args.variable))
    (all_still_awake (WaitsFor c.args.self.now c.args.variable 3) c.args.self.now.costs c.wake_bound.new.agenda c.wake_listed.new.agenda (waiting_at c.args.self.now Bound c.args.variable)
    (fixed_woken c.args.self.now c.deref.result.now c.deref-2.result.now c.args.variable 3 c.wake_bound.new.agenda c.wake_listed.new.agenda (c.deref.ensures.value ∙ ap (λ (w : Waking). w.fixed) c.self.view_is) (c.deref-2.ensures.value ∙ ap (λ (w : Waking). w.costs) c.self.view_is) (omega arith) c.wake_listed.ensures.woken)
    c.in_ok-wake_bound.ensures.bound)
