use Rattle.fz_space.proofs.Living.{undecided_at}
use Rattle.fz_space.proofs.rest.status_at.Goals as goal

pub returns-then-front-doms : goal.returns-then-front-doms
returns-then-front-doms c = undecided_at c.args.doms.now c.args.front c.requires.domains c.if-front-doms.true (c.requires.open c.if-front-doms.true)
