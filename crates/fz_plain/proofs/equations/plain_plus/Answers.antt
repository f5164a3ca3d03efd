use Rattle.std.proofs.lemmas.Result.{IfOk-weaker}
use Rattle.fz_plain.proofs.Results.{plus_plainest}
use Rattle.fz_plain.proofs.equations.plain_plus.Goals as goal

pub returns : goal.returns
returns c = IfOk-weaker c.plain_sum.result _ _ (λ o h. plus_plainest c.args.x c.args.y c.args.z o h) c.plain_sum.ensures
