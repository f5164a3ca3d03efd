use Rattle.std.proofs.Common.{arith, refl, ◌∙◌}
use Rattle.fz_printer.proofs.PrintLaws.{printed_due}
use Rattle.fz_printer.proofs.printer.Printer.print_due.Goals as goal

pub returns-in-Ok-clause-grew : goal.returns-in-Ok-clause-grew
returns-in-Ok-clause-grew g c =
    let more = c.requires.within in
    let due = c.due-due.ensures.due in
    printed_due c.args.self.now c.mark_printed.new.self (g.S.Sink.taken c.args.sink.now) (g.S.Sink.taken c.print_blocks.new.sink) c.model.result.now c.recorded_from.result.now _ c.due-due.result c.mark_printed.ensures.book (record { as_found = c.mark_printed.ensures.keeps.as_found; wanted = c.mark_printed.ensures.keeps.wanted }) c.model.ensures.model c.recorded_from.ensures.recorded
    refl (omega (arith, more, due)) c.mark_printed.ensures.printed (c.mark_printed.ensures.stopped ∙ c.requires.working) c.in-Ok.ensures.taken
