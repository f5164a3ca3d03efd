use Rattle.fz_part.specs.Texts.{IsWrong}
use Rattle.fz_part.proofs.Meeting.{some_at}
use Rattle.fz_part.proofs.refusal.refusal_in.Goals as goal

pub returns-in-Some-clause-some : goal.returns-in-Some-clause-some
returns-in-Some-clause-some c = some_at (IsWrong c.in-Some.refusal c.args.variables.now) c.args.decisions.now c.loop-decision.decision-index _ c.loop-decision-test.true c.in-Some.ensures.some
