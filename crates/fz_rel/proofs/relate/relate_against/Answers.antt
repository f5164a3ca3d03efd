use Rattle.std.proofs.lemmas.Result.{IfOk-weaker}
use Rattle.fz_spec.specs.declared.shape.Relation.TheVariants.{AtMost, Below}
use Rattle.fz_prop.specs.declared.answer.Answer.{Answer}
use Rattle.fz_prop.specs.Answers.{IsAnswerOf}
use Rattle.fz_prop.proofs.Answering.{same_answer}
use Rattle.fz_rel.specs.Truths.{TruthOf, FalseOf, LineOf, AgainstOf, IsAnswerAs}
use Rattle.fz_rel.proofs.Opposites.{against_most, against_below}
use Rattle.fz_rel.proofs.relate.relate_against.Goals as goal

pub returns-in-AtMost-clause-answer : goal.returns-in-AtMost-clause-answer
returns-in-AtMost-clause-answer c =
    let x = c.args.x in
    let y = c.args.y in
    let before = c.args.store.now.doms in
    let after = c.keep_order.new.store.doms in
    rw c.in-AtMost.is
    (IfOk-weaker c.keep_order.result (λ (r : Answer). IsAnswerAs Below y x r before after) (λ (r : Answer). IsAnswerOf r (FalseOf AtMost x y) (AgainstOf AtMost x y) before after)
    (λ r h. same_answer r (TruthOf Below y x) (FalseOf AtMost x y) (LineOf Below y x) (AgainstOf AtMost x y) before after (against_most x y) h) c.keep_order.ensures.answer)

pub returns-in-Below-clause-answer : goal.returns-in-Below-clause-answer
returns-in-Below-clause-answer c =
    let x = c.args.x in
    let y = c.args.y in
    let before = c.args.store.now.doms in
    let after = c.keep_order-in-Below.new.store.doms in
    rw c.in-Below.is
    (IfOk-weaker c.keep_order-in-Below.result (λ (r : Answer). IsAnswerAs AtMost y x r before after) (λ (r : Answer). IsAnswerOf r (FalseOf Below x y) (AgainstOf Below x y) before after)
    (λ r h. same_answer r (TruthOf AtMost y x) (FalseOf Below x y) (LineOf AtMost y x) (AgainstOf Below x y) before after (against_below x y) h) c.keep_order-in-Below.ensures.answer)
