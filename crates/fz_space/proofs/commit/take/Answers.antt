use Rattle.fz_prop.proofs.Lasting.{all_last}
use Rattle.fz_space.proofs.Deciding.{alive_lasts, covers_failed, covers_taken, met_left}
use Rattle.fz_space.proofs.Fronts.{front_lasts, settled_lasts}
use Rattle.fz_space.proofs.commit.take.Goals as goal

pub returns-then-failed-clause-covers : goal.returns-then-failed-clause-covers
returns-then-failed-clause-covers c = λ m known ds covers. covers_failed m c.args.store.now c.args.failed.now known ds c.args.decision c.if-failed.true covers

pub returns-clause-alive : goal.returns-clause-alive
returns-clause-alive c = λ n states alive not_failed. alive_lasts n states c.args.store.now c.decide.new.store c.decide.ensures.store c.decide.ensures.shrinks (alive c.if-failed.false)

pub returns-clause-covers : goal.returns-clause-covers
returns-clause-covers c = λ m known ds covers. covers_taken m c.args.store.now c.decide.new.store c.args.failed.now known ds c.args.decision c.in_ok-left.left c.if-failed.false c.in_ok-left.ensures.decided covers

pub returns-clause-front : goal.returns-clause-front
returns-clause-front c = λ n front not_failed. front_lasts n c.args.store.now.doms c.decide.new.store.doms c.decide.ensures.store.domains c.decide.ensures.shrinks.narrower (front c.if-failed.false)

pub returns-clause-met : goal.returns-clause-met
returns-clause-met c = met_left c.args.decision c.in_ok-left.left c.args.store.now.doms c.decide.new.store.doms c.in_ok-left.ensures.decided

pub returns-clause-told : goal.returns-clause-told
returns-clause-told c = λ sayings kept told. all_last sayings kept c.args.store.now.doms c.decide.new.store.doms c.decide.ensures.store.domains c.decide.ensures.shrinks.narrower told

pub returns-in_err-left-clause-told : goal.returns-in_err-left-clause-told
returns-in_err-left-clause-told c = λ sayings kept told. all_last sayings kept c.args.store.now.doms c.decide.new.store.doms c.decide.ensures.store.domains c.decide.ensures.shrinks.narrower told

pub returns-clause-settled : goal.returns-clause-settled
returns-clause-settled c = λ numbers settled. settled_lasts numbers c.args.store.now.doms c.decide.new.store.doms c.decide.ensures.store.domains c.decide.ensures.shrinks.narrower settled

pub returns-in_err-left-clause-settled : goal.returns-in_err-left-clause-settled
returns-in_err-left-clause-settled c = λ numbers settled. settled_lasts numbers c.args.store.now.doms c.decide.new.store.doms c.decide.ensures.store.domains c.decide.ensures.shrinks.narrower settled
