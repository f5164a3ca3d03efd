use Rattle.std.specs.Prelude.{option_copied}
use Rattle.std.proofs.Common.{refl}
use Rattle.fz_maker.proofs.Lines.{cert_unbegun}
use Rattle.fz_maker.proofs.certify.print_certificate.Goals as goal

pub returns-in-Err-clause-front : goal.returns-in-Err-clause-front
returns-in-Err-clause-front g c =
    cert_unbegun c.args.model.now (option_copied c.args.head) (g.S.Sink.taken c.args.sink.now) (g.S.Sink.taken c.args.sink.now) c.goal.ensures.kept c.requires.is_head c.requires.best refl
