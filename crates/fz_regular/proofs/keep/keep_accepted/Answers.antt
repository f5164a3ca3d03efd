use Rattle.std.proofs.Common.{List, length, drop, subst, sym}
use Rattle.std.specs.List.{AllByRecursion}
use Rattle.std.proofs.lemmas.Result.{IfOk-weaker}
use Rattle.fz_spec.specs.declared.term.Term.{Term}
use Rattle.fz_spec.specs.Truth.{Automaton}
use Rattle.fz_strength.specs.Domains.{IsTermOf}
use Rattle.fz_strength.specs.Regular.{IsRegularLine}
use Rattle.fz_prop.specs.declared.answer.Answer.{Answer}
use Rattle.fz_prop.specs.Answers.{IsAnswerOf, IsCorrectOf}
use Rattle.fz_prop.specs.Stores.{FitsTerm}
use Rattle.fz_column.specs.Apart.{AreApart}
use Rattle.fz_regular.specs.Fronts.{started}
use Rattle.fz_regular.specs.Runs.{IsAcceptedAt, number}
use Rattle.fz_regular.proofs.Fronts.{front_inside, front_correct, front_answer, all_dropped, apart_dropped}
use Rattle.fz_regular.proofs.keep.keep_accepted.Goals as goal

pub terms_behind-rest-requires : goal.terms_behind-rest-requires
terms_behind-rest-requires c =
    let m = c.args.automaton.now in
    front_inside m c.args.terms.now c.args.store.now.doms c.in-Some.front.places m.start (number c.in-Some.front.state) c.in-Some.ensures.front

pub keep_rest-answer-requires-clause-terms : goal.keep_rest-answer-requires-clause-terms
keep_rest-answer-requires-clause-terms c =
    subst (AllByRecursion (IsTermOf (length c.args.store.now.doms))) (sym c.terms_behind-rest.ensures) (all_dropped (IsTermOf (length c.args.store.now.doms)) c.in-Some.front.places c.args.terms.now c.requires.terms)

pub keep_rest-answer-requires-clause-fits : goal.keep_rest-answer-requires-clause-fits
keep_rest-answer-requires-clause-fits c = subst (AllByRecursion FitsTerm) (sym c.terms_behind-rest.ensures) (all_dropped FitsTerm c.in-Some.front.places c.args.terms.now c.requires.fits)

pub keep_rest-answer-requires-clause-differ : goal.keep_rest-answer-requires-clause-differ
keep_rest-answer-requires-clause-differ c = λ differ. subst AreApart (sym c.terms_behind-rest.ensures) (apart_dropped c.in-Some.front.places c.args.terms.now (c.requires.differ differ))

pub returns-clause-correct : goal.returns-clause-correct
returns-clause-correct c =
    let xs = c.args.terms.now in
    let before = c.args.store.now.doms in
    let after = c.keep_rest-answer.new.store.doms in
    let rest = drop c.in-Some.front.places xs in
    let first : IsCorrectOf (IsAcceptedAt c.at-started.result rest) before after =
    subst (λ (ts : List Term). IsCorrectOf (IsAcceptedAt c.at-started.result ts) before after) c.terms_behind-rest.ensures c.keep_rest-answer.ensures.correct in
    front_correct c.args.automaton.now xs before after c.in-Some.front.places (number c.in-Some.front.state) c.requires.terms c.in-Some.ensures.front
    (subst (λ (m : Automaton). IsCorrectOf (IsAcceptedAt m rest) before after) c.at-started.ensures first)

pub returns-clause-answer : goal.returns-clause-answer
returns-clause-answer c =
    let m = c.args.automaton.now in
    let xs = c.args.terms.now in
    let before = c.args.store.now.doms in
    let after = c.keep_rest-answer.new.store.doms in
    let front = c.in-Some.front.places in
    let state = number c.in-Some.front.state in
    IfOk-weaker c.keep_rest-answer.result (λ (r : Answer). IsAnswerOf r (IsAcceptedAt (started m state) (drop front xs)) (IsRegularLine (started m state) (drop front xs)) before after)
    (λ (r : Answer). IsAnswerOf r (IsAcceptedAt m xs) (IsRegularLine m xs) before after)
    (λ r h. front_answer r m xs before after front state c.requires.terms c.doms.ensures.store.domains c.keep_rest-answer.ensures.shrinks.narrower c.in-Some.ensures.front h)
    (rw (c.terms_behind-rest.ensures, c.at-started.ensures) at c.keep_rest-answer.ensures.answer)
