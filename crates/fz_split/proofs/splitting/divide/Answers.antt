use Rattle.std.proofs.Common.{arith}
use Rattle.std.proofs.lemmas.Result.{on_ok_weaker}
use Rattle.fz_split.proofs.Covering.{as_many}
use Rattle.fz_split.proofs.splitting.divide.Goals as goal

pub division-requires-clause-size : goal.division-requires-clause-size
division-requires-clause-size g c = as_many c.args.part.now (g.S.SearchSpace.spaced c.args.space.now) c.requires.covers c.doms.ensures.domains c.requires.branch.0

pub returns-clause-few : goal.returns-clause-few
returns-clause-few g c = on_ok_weaker c.add_alternatives.result (λ few. let room = c.in_ok-choice.ensures.few in omega (arith, few, room)) c.add_alternatives.ensures.few
