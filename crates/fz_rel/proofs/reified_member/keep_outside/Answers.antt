use Rattle.fz_rel.proofs.ReifiedSets.{outside_correct, outside_answer}
use Rattle.fz_rel.proofs.reified_member.keep_outside.Goals as goal

pub returns-in_err-answer-clause-correct : goal.returns-in_err-answer-clause-correct
returns-in_err-answer-clause-correct c = λ set are.
    outside_correct c.args.x set c.args.others.now c.args.r c.args.store.now.doms c.keep_member.new.store.doms are c.requires.x c.requires.fits c.doms.ensures.store.domains
    c.requires.r c.requires.zero c.in_err-answer.ensures.correct

pub returns-clause-correct : goal.returns-clause-correct
returns-clause-correct c = λ set are.
    outside_correct c.args.x set c.args.others.now c.args.r c.args.store.now.doms c.keep_member.new.store.doms are c.requires.x c.requires.fits c.doms.ensures.store.domains
    c.requires.r c.requires.zero c.in_ok-answer.ensures.correct

pub returns-clause-answer : goal.returns-clause-answer
returns-clause-answer c = λ set are.
    outside_answer c.in_ok-answer.answer c.args.x set c.args.others.now c.args.r c.args.store.now.doms c.keep_member.new.store.doms are c.requires.x c.requires.fits c.doms.ensures.store.domains
    c.requires.r c.requires.zero c.doms-2.ensures.store.domains c.in_ok-answer.ensures.shrinks.narrower c.in_ok-answer.ensures.answer
