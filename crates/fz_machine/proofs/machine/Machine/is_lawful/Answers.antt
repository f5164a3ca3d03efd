use Rattle.fz_machine.specs.Cores.{Core}
use Rattle.fz_machine.proofs.AsCode.{steal_lawful, steal_unlawful}
use Rattle.fz_machine.proofs.machine.Machine.is_lawful.Goals as goal

pub returns-then-can_be_cut : goal.returns-then-can_be_cut
returns-then-can_be_cut g c =
    let s : Core = record { workers = c.self.inside.workers.items; book = c.self.inside.book.book } in
    steal_lawful s c.args.self.now c.args.event c.in-Steal.victim c.in-Steal.thief c.deref-then-victim-thief.result.now c.deref-then-can_be_cut.result.now c.can_be_cut.result c.is_free-then-can_be_cut.result
    c.self.view_is c.in-Steal.is c.if-victim-thief.true c.deref-then-victim-thief.ensures.value c.can_be_cut.ensures c.if-can_be_cut.true c.deref-then-can_be_cut.ensures.value c.is_free-then-can_be_cut.ensures

pub returns-else-can_be_cut : goal.returns-else-can_be_cut
returns-else-can_be_cut g c =
    let s : Core = record { workers = c.self.inside.workers.items; book = c.self.inside.book.book } in
    steal_unlawful s c.args.self.now c.args.event c.in-Steal.victim c.in-Steal.thief c.deref-then-victim-thief.result.now c.can_be_cut.result
    c.self.view_is c.in-Steal.is c.if-victim-thief.true c.deref-then-victim-thief.ensures.value c.can_be_cut.ensures c.if-can_be_cut.false
