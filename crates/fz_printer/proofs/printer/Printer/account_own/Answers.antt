use Rattle.std.proofs.Common.{refl, subst}
use Rattle.fz_book.specs.Outcomes.{IsTaken}
use Rattle.fz_printer.specs.declared.printing.Stop.TheVariants.{Memory}
use Rattle.fz_printer.proofs.PrintLaws.{stopped_there, unmoved}
use Rattle.fz_printer.proofs.printer.Printer.account_own.Goals as goal

pub returns-in-Stranger-clause-grew : goal.returns-in-Stranger-clause-grew
returns-in-Stranger-clause-grew g c =
    unmoved c.args.self.now _ (g.S.Sink.taken c.args.sink.now) (c.take_own.ensures.same (λ t. subst IsTaken c.in-Stranger.is t)) (record { as_found = refl; wanted = refl }) refl c.requires.working

pub returns-clause-grew : goal.returns-clause-grew
returns-clause-grew g c =
    stopped_there c.args.self.now _ Memory (g.S.Sink.taken c.args.sink.now) (c.take_own.ensures.same (λ t. subst IsTaken c.in-NoMemory.is t)) (record { as_found = refl; wanted = refl }) refl refl
