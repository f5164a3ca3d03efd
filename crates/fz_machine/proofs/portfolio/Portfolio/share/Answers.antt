use Rattle.fz_machine.proofs.Assets.{shares, shares_nothing}
use Rattle.fz_machine.proofs.portfolio.Portfolio.share.Goals as goal

pub returns-in-Some-clause-ok : goal.returns-in-Some-clause-ok
returns-in-Some-clause-ok g c =
    shares c.offer.result c.args.from c.args.to c.in-Some.best c.in_ok-best.field-0 c.args.self.now c.offer.new.self c.in_ok-best.ensures.best c.in-Some.is c.offer.ensures.ok

pub returns-in-None-clause-ok : goal.returns-in-None-clause-ok
returns-in-None-clause-ok g c = shares_nothing c.args.from c.args.to c.in_ok-best.field-0 c.args.self.now c.in_ok-best.ensures.best c.in-None.is
