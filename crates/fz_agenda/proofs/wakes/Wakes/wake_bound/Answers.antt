use Rattle.std.proofs.Common.{◌∙◌, ap, arith}
use Rattle.fz_strength.specs.declared.event.Event.TheVariants.{Any}
use Rattle.fz_agenda.specs.Queues.{AreAwake}
use Rattle.fz_agenda.specs.Wakes.{Waking, waiting_at, WaitsFor}
use Rattle.fz_agenda.proofs.Waking.{bound_woken, levels_woken, whatever}
use Rattle.fz_agenda.proofs.Woken.{all_still_awake}
use Rattle.fz_agenda.proofs.wakes.Wakes.wake_bound.Goals as goal

pub returns-clause-woken : goal.returns-clause-woken
returns-clause-woken c =
    levels_woken c.args.self.now c.args.variable 1 2 c.args.agenda.now c.wake_any.new.agenda c.wake_listed.new.agenda (omega arith) c.wake_any.ensures.woken
    (bound_woken c.args.self.now c.deref.result.now c.deref-2.result.now c.args.variable 2 c.wake_any.new.agenda c.wake_listed.new.agenda (c.deref.ensures.value ∙ ap (λ (w : Waking). w.bound) c.self.view_is) (c.deref-2.ensures.value ∙ ap (λ (w : Waking). w.costs) c.self.view_is) (omega arith) c.wake_listed.ensures.woken)

pub returns-clause-any : goal.returns-clause-any
returns-clause-any c =
    whatever c.wake_listed.result (AreAwake c.wake_listed.new.agenda.states (waiting_at c.args.self.now Any c.args.variable))
    (all_still_awake (WaitsFor c.args.self.now c.args.variable 2) c.args.self.now.costs c.wake_any.new.agenda c.wake_listed.new.agenda (waiting_at c.args.self.now Any c.args.variable)
    (bound_woken c.args.self.now c.deref.result.now c.deref-2.result.now c.args.variable 2 c.wake_any.new.agenda c.wake_listed.new.agenda (c.deref.ensures.value ∙ ap (λ (w : Waking). w.bound) c.self.view_is) (c.deref-2.ensures.value ∙ ap (λ (w : Waking). w.costs) c.self.view_is) (omega arith) c.wake_listed.ensures.woken)
    c.in_ok-wake_any.ensures.any)
