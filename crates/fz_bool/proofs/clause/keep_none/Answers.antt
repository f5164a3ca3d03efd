use Rattle.fz_bool.specs.Clausal.{TruthOf, LineOf, AreMadeFalse, AreFalseIn}
use Rattle.fz_bool.proofs.Clausal.{none_same}
use Rattle.fz_bool.proofs.Within.{same_answer, same_correct}
use Rattle.fz_bool.proofs.clause.keep_none.Goals as goal

pub returns-in_err-answer-clause-correct : goal.returns-in_err-answer-clause-correct
returns-in_err-answer-clause-correct c =
    let ls = c.args.literals.now in
    let ds = c.args.store.now.doms in
    same_correct (AreMadeFalse ls) (TruthOf ls c.args.r) (AreFalseIn ls) (LineOf ls c.args.r) ds c.keep_false.new.store.doms
    (none_same ls c.args.r ds c.requires.literals c.requires.result c.requires.fails) c.keep_false.ensures.correct

pub returns-clause-correct : goal.returns-clause-correct
returns-clause-correct c =
    let ls = c.args.literals.now in
    let ds = c.args.store.now.doms in
    same_correct (AreMadeFalse ls) (TruthOf ls c.args.r) (AreFalseIn ls) (LineOf ls c.args.r) ds c.keep_false.new.store.doms
    (none_same ls c.args.r ds c.requires.literals c.requires.result c.requires.fails) c.keep_false.ensures.correct

pub returns-clause-answer : goal.returns-clause-answer
returns-clause-answer c =
    let ls = c.args.literals.now in
    let ds = c.args.store.now.doms in
    same_answer c.in_ok-answer.answer (AreMadeFalse ls) (TruthOf ls c.args.r) (AreFalseIn ls) (LineOf ls c.args.r) ds c.keep_false.new.store.doms
    (none_same ls c.args.r ds c.requires.literals c.requires.result c.requires.fails) c.keep_false.ensures.store.domains c.keep_false.ensures.shrinks.narrower c.in_ok-answer.ensures.answer
