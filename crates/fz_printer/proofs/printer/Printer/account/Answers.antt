use Rattle.std.proofs.Common.{refl}
use Rattle.fz_printer.proofs.PrintLaws.{unmoved}
use Rattle.fz_printer.proofs.printer.Printer.account.Goals as goal

pub returns-else-is_own-clause-grew : goal.returns-else-is_own-clause-grew
returns-else-is_own-clause-grew g c = unmoved c.args.self.now c.args.self.now (g.S.Sink.taken c.args.sink.now) refl (record { as_found = refl; wanted = refl }) refl c.requires.working
