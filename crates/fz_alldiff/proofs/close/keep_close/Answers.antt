use Rattle.fz_prop.specs.declared.answer.Answer.TheVariants.{Subsumed, Failed}
use Rattle.fz_prop.specs.Answers.{IsAnswerOf}
use Rattle.fz_prop.proofs.Answering.{answer_twice, correct_twice}
use Rattle.fz_prop.proofs.Steps.{same_shrinks}
use Rattle.fz_prop.proofs.Twice.{shrinks_twice}
use Rattle.fz_strength.specs.Differences.{AreApart}
use Rattle.fz_alldiff.specs.Differing.{IsDifferent}
use Rattle.fz_alldiff.proofs.Resting.{terms_still}
use Rattle.fz_alldiff.proofs.Spanning.{between_still}
use Rattle.fz_alldiff.proofs.close.keep_close.Goals as goal

pub rounds-init : goal.rounds-init
rounds-init c = record { shrinks = same_shrinks c.args.store.now; correct = λ a holds within. within }

pub rounds-preserved : goal.rounds-preserved
rounds-preserved c = record {
  shrinks = shrinks_twice c.args.store.now c.rounds.store c.keep_once.new.store c.rounds.invariant.shrinks c.keep_once.ensures.shrinks;
  correct = correct_twice (IsDifferent c.args.terms.now) c.args.store.now.doms c.rounds.store.doms c.keep_once.new.store.doms c.rounds.invariant.correct c.keep_once.ensures.correct;
}

pub keep_once-requires-clause-terms : goal.keep_once-requires-clause-terms
keep_once-requires-clause-terms c = terms_still c.args.terms.now c.args.store.now.doms c.rounds.store.doms c.rounds.invariant.shrinks.narrower c.requires.terms

pub keep_once-requires-clause-between : goal.keep_once-requires-clause-between
keep_once-requires-clause-between c =
    between_still c.args.terms.now c.args.store.now.doms c.rounds.store.doms c.args.span.low c.args.span.high c.rounds.invariant.shrinks.narrower c.requires.between

pub returns-in_err-keep_once-clause-shrinks : goal.returns-in_err-keep_once-clause-shrinks
returns-in_err-keep_once-clause-shrinks c = shrinks_twice c.args.store.now c.rounds.store c.keep_once.new.store c.rounds.invariant.shrinks c.keep_once.ensures.shrinks

pub returns-in_err-keep_once-clause-correct : goal.returns-in_err-keep_once-clause-correct
returns-in_err-keep_once-clause-correct c =
    correct_twice (IsDifferent c.args.terms.now) c.args.store.now.doms c.rounds.store.doms c.keep_once.new.store.doms c.rounds.invariant.correct c.keep_once.ensures.correct

pub returns-in-Fix-clause-shrinks : goal.returns-in-Fix-clause-shrinks
returns-in-Fix-clause-shrinks c = shrinks_twice c.args.store.now c.rounds.store c.keep_once.new.store c.rounds.invariant.shrinks c.keep_once.ensures.shrinks

pub returns-in-Fix-clause-correct : goal.returns-in-Fix-clause-correct
returns-in-Fix-clause-correct c =
    correct_twice (IsDifferent c.args.terms.now) c.args.store.now.doms c.rounds.store.doms c.keep_once.new.store.doms c.rounds.invariant.correct c.keep_once.ensures.correct

pub returns-in-Subsumed-clause-shrinks : goal.returns-in-Subsumed-clause-shrinks
returns-in-Subsumed-clause-shrinks c = shrinks_twice c.args.store.now c.rounds.store c.keep_once.new.store c.rounds.invariant.shrinks c.keep_once.ensures.shrinks

pub returns-in-Subsumed-clause-correct : goal.returns-in-Subsumed-clause-correct
returns-in-Subsumed-clause-correct c =
    correct_twice (IsDifferent c.args.terms.now) c.args.store.now.doms c.rounds.store.doms c.keep_once.new.store.doms c.rounds.invariant.correct c.keep_once.ensures.correct

pub returns-in-Failed-clause-shrinks : goal.returns-in-Failed-clause-shrinks
returns-in-Failed-clause-shrinks c = shrinks_twice c.args.store.now c.rounds.store c.keep_once.new.store c.rounds.invariant.shrinks c.keep_once.ensures.shrinks

pub returns-in-Failed-clause-correct : goal.returns-in-Failed-clause-correct
returns-in-Failed-clause-correct c =
    correct_twice (IsDifferent c.args.terms.now) c.args.store.now.doms c.rounds.store.doms c.keep_once.new.store.doms c.rounds.invariant.correct c.keep_once.ensures.correct

pub returns-in-Subsumed-clause-answer : goal.returns-in-Subsumed-clause-answer
returns-in-Subsumed-clause-answer c =
    let xs = c.args.terms.now in
    let told : IsAnswerOf Subsumed (IsDifferent xs) (AreApart xs) c.rounds.store.doms c.keep_once.new.store.doms = rw c.in-Subsumed.is at c.in_ok-keep_once.ensures.answer in
    answer_twice Subsumed (IsDifferent xs) (AreApart xs) c.args.store.now c.rounds.store c.keep_once.new.store c.rounds.invariant.shrinks c.rounds.invariant.correct told

pub returns-in-Failed-clause-answer : goal.returns-in-Failed-clause-answer
returns-in-Failed-clause-answer c =
    let xs = c.args.terms.now in
    let told : IsAnswerOf Failed (IsDifferent xs) (AreApart xs) c.rounds.store.doms c.keep_once.new.store.doms = rw c.in-Failed.is at c.in_ok-keep_once.ensures.answer in
    answer_twice Failed (IsDifferent xs) (AreApart xs) c.args.store.now c.rounds.store c.keep_once.new.store c.rounds.invariant.shrinks c.rounds.invariant.correct told
