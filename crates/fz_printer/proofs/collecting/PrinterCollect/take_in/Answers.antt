use Rattle.fz_printer.proofs.Gathering.{gathers_told, not_filled, works_on}
use Rattle.fz_printer.proofs.collecting.PrinterCollect.take_in.Goals as goal

pub account_own-requires-clause-working : goal.account_own-requires-clause-working
account_own-requires-clause-working g c = c.requires.works.none

pub account_own-requires-clause-ready : goal.account_own-requires-clause-ready
account_own-requires-clause-ready g c = c.requires.works.ready

pub account_own-requires-clause-faults : goal.account_own-requires-clause-faults
account_own-requires-clause-faults g c = c.requires.works.room

pub offer_found-requires-clause-working : goal.offer_found-requires-clause-working
offer_found-requires-clause-working g c = c.requires.works.none

pub offer_found-requires-clause-ready : goal.offer_found-requires-clause-ready
offer_found-requires-clause-ready g c = c.requires.works.ready

pub offer_found-requires-clause-faults : goal.offer_found-requires-clause-faults
offer_found-requires-clause-faults g c = c.requires.works.room

pub returns-in-Taken-clause-grew : goal.returns-in-Taken-clause-grew
returns-in-Taken-clause-grew g c =
    gathers_told c.args.self.now c.account_own.new.self (g.K.Sink.taken c.args.sink.now) (g.K.Sink.taken c.account_own.new.sink) (g.K.Sink.faults c.args.sink.now) (g.K.Sink.faults c.account_own.new.sink)
    c.requires.works.none c.requires.works.ready (not_filled c.args.self.now c.requires.more) c.account_own.ensures.grew c.account_own.ensures.ready c.account_own.ensures.cause

pub returns-in-Taken-clause-works : goal.returns-in-Taken-clause-works
returns-in-Taken-clause-works g c =
    works_on c.account_own.new.self (g.K.Sink.faults c.args.sink.now) (g.K.Sink.faults c.account_own.new.sink) c.requires.works.room c.account_own.ensures.ready c.account_own.ensures.cause

pub returns-in-Better-clause-grew : goal.returns-in-Better-clause-grew
returns-in-Better-clause-grew g c =
    gathers_told c.args.self.now c.offer_found.new.self (g.K.Sink.taken c.args.sink.now) (g.K.Sink.taken c.offer_found.new.sink) (g.K.Sink.faults c.args.sink.now) (g.K.Sink.faults c.offer_found.new.sink)
    c.requires.works.none c.requires.works.ready (not_filled c.args.self.now c.requires.more) c.offer_found.ensures.grew c.offer_found.ensures.ready c.offer_found.ensures.cause

pub returns-in-Better-clause-works : goal.returns-in-Better-clause-works
returns-in-Better-clause-works g c =
    works_on c.offer_found.new.self (g.K.Sink.faults c.args.sink.now) (g.K.Sink.faults c.offer_found.new.sink) c.requires.works.room c.offer_found.ensures.ready c.offer_found.ensures.cause
