use Rattle.fz_printer.proofs.Gathering.{gathers_handed, not_filled, ready_kept, works_on}
use Rattle.fz_printer.proofs.collecting.PrinterCollect.look_up.Goals as goal

pub hand_on_if_due-requires-clause-working : goal.hand_on_if_due-requires-clause-working
hand_on_if_due-requires-clause-working g c = c.requires.works.none

pub hand_on_if_due-requires-clause-faults : goal.hand_on_if_due-requires-clause-faults
hand_on_if_due-requires-clause-faults g c = c.requires.works.room

pub returns-clause-grew : goal.returns-clause-grew
returns-clause-grew g c =
    gathers_handed c.args.self.now c.hand_on_if_due.new.printer (g.K.Sink.taken c.args.sink.now) (g.K.Sink.taken c.hand_on_if_due.new.sink) (g.K.Sink.faults c.args.sink.now) (g.K.Sink.faults c.hand_on_if_due.new.sink)
    c.requires.works.none c.requires.works.ready (not_filled c.args.self.now c.requires.more) c.hand_on_if_due.ensures.keeps c.hand_on_if_due.ensures.book c.hand_on_if_due.ensures.printed c.hand_on_if_due.ensures.taken c.hand_on_if_due.ensures.cause

pub returns-clause-works : goal.returns-clause-works
returns-clause-works g c =
    let ready = ready_kept c.args.self.now c.hand_on_if_due.new.printer c.requires.works.ready c.hand_on_if_due.ensures.keeps c.hand_on_if_due.ensures.book c.hand_on_if_due.ensures.printed in
    works_on c.hand_on_if_due.new.printer (g.K.Sink.faults c.args.sink.now) (g.K.Sink.faults c.hand_on_if_due.new.sink) c.requires.works.room (λ none. ready) c.hand_on_if_due.ensures.cause
