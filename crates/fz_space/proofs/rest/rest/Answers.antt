use Rattle.std.proofs.Common.{List, Bool, sym, subst}
use Rattle.std.specs.Prelude.{ℤ}
use Rattle.fz_search_space.specs.Spaces.{IsStatus}
use Rattle.fz_space.specs.Alive.{spaced, FrontFixed, IsLeft}
use Rattle.fz_space.proofs.Fronts.{front_lasts, settled_lasts}
use Rattle.fz_space.proofs.Living.{left_is, lines_at}
use Rattle.fz_space.proofs.rest.rest.Goals as goal

pub returns-clause-answer : goal.returns-clause-answer
returns-clause-answer c =
    let n = c.args.network.now in
    let store = c.settle.new.store in
    let status = c.status_at.result in
    subst (λ (failed : Bool). IsStatus status (spaced n.model store failed)) (sym c.if-failed.false)
    (left_is n c.settle.new.agenda.states store status c.model.ensures.network c.settle.ensures.run.alive (c.in_ok-rests.ensures.rests c.if-not-rests.false)
    (subst (λ (ds : List (List (ℤ × ℤ))). IsLeft status ds) c.doms-3.ensures.doms c.status_at.ensures))

pub returns-clause-lines : goal.returns-clause-lines
returns-clause-lines c = lines_at c.status_at.result c.args.network.now.model c.settle.new.store.doms (c.in_ok-rests.ensures.rests c.if-not-rests.false)

pub returns-in_err-rests-clause-front : goal.returns-in_err-rests-clause-front
returns-in_err-rests-clause-front c = λ _.
    front_lasts c.args.front.now c.args.store.now.doms c.settle.new.store.doms c.settle.ensures.run.store.domains c.settle.ensures.run.narrower (c.requires.front c.if-failed.false)

pub first_open-requires-clause-front : goal.first_open-requires-clause-front
first_open-requires-clause-front c =
    subst (λ (ds : List (List (ℤ × ℤ))). FrontFixed c.args.front.now ds) (sym c.doms-2.ensures.doms)
    (front_lasts c.args.front.now c.args.store.now.doms c.settle.new.store.doms c.settle.ensures.run.store.domains c.settle.ensures.run.narrower (c.requires.front c.if-failed.false))

pub returns-clause-settled : goal.returns-clause-settled
returns-clause-settled c = λ numbers settled. settled_lasts numbers c.args.store.now.doms c.settle.new.store.doms c.settle.ensures.run.store.domains c.settle.ensures.run.narrower settled

pub returns-in_err-rests-clause-settled : goal.returns-in_err-rests-clause-settled
returns-in_err-rests-clause-settled c = λ numbers settled. settled_lasts numbers c.args.store.now.doms c.settle.new.store.doms c.settle.ensures.run.store.domains c.settle.ensures.run.narrower settled

pub returns-then-not-rests-clause-settled : goal.returns-then-not-rests-clause-settled
returns-then-not-rests-clause-settled c = λ numbers settled. settled_lasts numbers c.args.store.now.doms c.settle.new.store.doms c.settle.ensures.run.store.domains c.settle.ensures.run.narrower settled
