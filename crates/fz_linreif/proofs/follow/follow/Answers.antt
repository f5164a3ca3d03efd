use Rattle.std.proofs.Math.Facts.{to_z-of_z}
use Rattle.fz_linreif.proofs.Shown.{said_correct, said_answer}
use Rattle.fz_linreif.proofs.follow.follow.Goals as goal

pub returns-in_err-answer-clause-correct : goal.returns-in_err-answer-clause-correct
returns-in_err-answer-clause-correct c =
    said_correct c.in-Some.said c.args.relation c.args.sum.now.factors.now c.args.sum.now.terms.now c.args.number c.args.r c.args.store.now.doms c.relate_as.new.store.doms c.requires.boolean c.in-Some.ensures
    (rw (to_z-of_z c.ranges.number) at c.in_err-answer.ensures.correct)

pub returns-clause-correct : goal.returns-clause-correct
returns-clause-correct c =
    said_correct c.in-Some.said c.args.relation c.args.sum.now.factors.now c.args.sum.now.terms.now c.args.number c.args.r c.args.store.now.doms c.relate_as.new.store.doms c.requires.boolean c.in-Some.ensures
    (rw (to_z-of_z c.ranges.number) at c.in_ok-answer.ensures.correct)

pub returns-clause-answer : goal.returns-clause-answer
returns-clause-answer c =
    let told = c.in_ok-answer.ensures in
    said_answer c.in-Some.said c.args.relation c.args.sum.now.factors.now c.args.sum.now.terms.now c.args.number c.args.r c.in_ok-answer.answer c.args.store.now c.relate_as.new.store
    c.requires.inside c.requires.boolean c.in-Some.ensures c.doms.ensures.store.domains told.shrinks.narrower told.still c.requires.not_shown c.requires.not_refuted
    (rw (to_z-of_z c.ranges.number) at told.answer)
