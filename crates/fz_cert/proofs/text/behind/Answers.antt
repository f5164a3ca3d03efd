use Rattle.std.proofs.Common.{sym}
use Rattle.fz_cert.proofs.Reading.{no_front}
use Rattle.fz_cert.proofs.text.behind.Goals as goal

pub returns-else-eq-clause-none : goal.returns-else-eq-clause-none
returns-else-eq-clause-none c = λ rest at. no_front c.args.text.now c.args.piece.now c.split_at.result.0.now rest c.split_at.ensures.front (sym c.if-eq.ensures) at
