use Rattle.std.proofs.Common.{refl}
use Rattle.std.proofs.lemmas.Result.{IfOk-weaker}
use Rattle.fz_spec.specs.declared.term.Term.TheVariants.{Var}
use Rattle.fz_spec.specs.declared.shape.Relation.TheVariants.{Equal}
use Rattle.fz_strength.specs.Domains.{dom_at}
use Rattle.fz_prop.specs.declared.answer.Answer.{Answer}
use Rattle.fz_prop.specs.Answers.{IsCorrectOf}
use Rattle.fz_prop.proofs.Answering.{answer_twice, correct_twice}
use Rattle.fz_prop.proofs.Twice.{shrinks_twice}
use Rattle.fz_rel.specs.Truths.{TruthOf, LineOf, IsAnswerAs}
use Rattle.fz_rel.proofs.Equality.{correct_same}
use Rattle.fz_rel.proofs.equal.keep_same.Goals as goal

corrected : (c : goal.After-keep_rest) → IsCorrectOf (TruthOf Equal (Var c.args.x) (Var c.args.y)) c.args.store.now.doms c.keep_among.new.store.doms
corrected c =
    correct_same c.in_ok-keep_among.field-0 c.args.x c.args.y (dom_at c.args.store.now.doms c.args.y) c.args.store.now c.keep_among.new.store c.requires.y refl
    c.in_ok-keep_among.ensures.change c.in_ok-keep_among.ensures.shrinks

pub returns-in_default-clause-shrinks : goal.returns-in_default-clause-shrinks
returns-in_default-clause-shrinks c = shrinks_twice c.args.store.now c.keep_among.new.store c.keep_rest.new.store c.in_ok-keep_among.ensures.shrinks c.keep_rest.ensures.shrinks

pub returns-in_default-clause-correct : goal.returns-in_default-clause-correct
returns-in_default-clause-correct c =
    correct_twice (TruthOf Equal (Var c.args.x) (Var c.args.y)) c.args.store.now.doms c.keep_among.new.store.doms c.keep_rest.new.store.doms (corrected c) c.keep_rest.ensures.correct

pub returns-in_default-clause-answer : goal.returns-in_default-clause-answer
returns-in_default-clause-answer c =
    let x = Var c.args.x in
    let y = Var c.args.y in
    IfOk-weaker c.keep_rest.result (λ (r : Answer). IsAnswerAs Equal x y r c.keep_among.new.store.doms c.keep_rest.new.store.doms)
    (λ (r : Answer). IsAnswerAs Equal x y r c.args.store.now.doms c.keep_rest.new.store.doms)
    (λ r h. answer_twice r (TruthOf Equal x y) (LineOf Equal x y) c.args.store.now c.keep_among.new.store c.keep_rest.new.store c.in_ok-keep_among.ensures.shrinks (corrected c) h)
    c.keep_rest.ensures.answer
