use Rattle.std.proofs.Common.{inr}
use Rattle.fzjoin.proofs.Outcomes.{unflushed}
use Rattle.fzjoin.proofs.texts.put.Goals as goal

pub returns-in-Err-flush : goal.returns-in-Err-flush
returns-in-Err-flush g c = inr (unflushed c.args.text.now _ _ _ _ _ _ c.flush.ensures.taken c.in-Ok.ensures.taken c.in-Ok.ensures.cause c.in-Err-flush.ensures.cause)
