use Rattle.fz_space.proofs.Fronts.{front_lasts, settled_lasts}
use Rattle.fz_space.proofs.next.run_next.Goals as goal

pub returns-in_err-advance-clause-front : goal.returns-in_err-advance-clause-front
returns-in_err-advance-clause-front c = λ n before _.
    front_lasts n c.args.store.now.doms c.advance.new.store.doms c.advance.ensures.run.store.domains c.advance.ensures.run.narrower (before c.if-failed.false)

pub returns-in-Rested-clause-front : goal.returns-in-Rested-clause-front
returns-in-Rested-clause-front c = λ n before _.
    front_lasts n c.args.store.now.doms c.advance.new.store.doms c.advance.ensures.run.store.domains c.advance.ensures.run.narrower (before c.if-failed.false)

pub returns-in-Going-clause-front : goal.returns-in-Going-clause-front
returns-in-Going-clause-front c = λ n before _.
    front_lasts n c.args.store.now.doms c.advance.new.store.doms c.advance.ensures.run.store.domains c.advance.ensures.run.narrower (before c.if-failed.false)

pub returns-in-Failed-clause-ran : goal.returns-in-Failed-clause-ran
returns-in-Failed-clause-ran c = c.if-failed.false

pub returns-in-Going-clause-ran : goal.returns-in-Going-clause-ran
returns-in-Going-clause-ran c = c.if-failed.false

pub returns-in_err-advance-clause-settled : goal.returns-in_err-advance-clause-settled
returns-in_err-advance-clause-settled c = λ numbers settled. settled_lasts numbers c.args.store.now.doms c.advance.new.store.doms c.advance.ensures.run.store.domains c.advance.ensures.run.narrower settled

pub returns-in-Rested-clause-settled : goal.returns-in-Rested-clause-settled
returns-in-Rested-clause-settled c = λ numbers settled. settled_lasts numbers c.args.store.now.doms c.advance.new.store.doms c.advance.ensures.run.store.domains c.advance.ensures.run.narrower settled

pub returns-in-Failed-clause-settled : goal.returns-in-Failed-clause-settled
returns-in-Failed-clause-settled c = λ numbers settled. settled_lasts numbers c.args.store.now.doms c.advance.new.store.doms c.advance.ensures.run.store.domains c.advance.ensures.run.narrower settled

pub returns-in-Going-clause-settled : goal.returns-in-Going-clause-settled
returns-in-Going-clause-settled c = λ numbers settled. settled_lasts numbers c.args.store.now.doms c.advance.new.store.doms c.advance.ensures.run.store.domains c.advance.ensures.run.narrower settled
