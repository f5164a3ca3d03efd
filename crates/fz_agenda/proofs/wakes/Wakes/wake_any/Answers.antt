use Rattle.std.proofs.Common.{◌∙◌, ap, arith}
use Rattle.fz_agenda.specs.Wakes.{Waking}
use Rattle.fz_agenda.proofs.Waking.{any_woken}
use Rattle.fz_agenda.proofs.wakes.Wakes.wake_any.Goals as goal

pub returns-clause-woken : goal.returns-clause-woken
returns-clause-woken c = any_woken c.args.self.now c.deref.result.now c.deref-2.result.now c.args.variable 1 c.args.agenda.now c.wake_listed.new.agenda (c.deref.ensures.value ∙ ap (λ (w : Waking). w.any) c.self.view_is) (c.deref-2.ensures.value ∙ ap (λ (w : Waking). w.costs) c.self.view_is) (omega arith) c.wake_listed.ensures.woken
