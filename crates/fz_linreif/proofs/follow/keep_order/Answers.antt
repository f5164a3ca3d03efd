use Rattle.std.proofs.lemmas.Result.{IfOk-weaker}
use Rattle.std.proofs.Math.Facts.{to_z-of_z}
use Rattle.fz_spec.specs.declared.shape.Relation.TheVariants.{AtMost}
use Rattle.fz_prop.specs.declared.answer.Answer.{Answer}
use Rattle.fz_prop.specs.Answers.{IsAnswerOf}
use Rattle.fz_prop.specs.Truths.{TruthWith, LineWith}
use Rattle.fz_linear.specs.Sums.{SumTruth}
use Rattle.fz_linreif.specs.ReifiedLinears.{sum_sides, IsAnswerSaid}
use Rattle.fz_linreif.proofs.Shown.{said_correct, order_answer}
use Rattle.fz_linreif.proofs.follow.keep_order.Goals as goal

pub returns-clause-correct : goal.returns-clause-correct
returns-clause-correct c =
    said_correct c.args.said AtMost c.args.sum.now.factors.now c.args.sum.now.terms.now c.args.number c.args.r c.args.store.now.doms c.order_as-answer.new.store.doms c.requires.boolean c.requires.fixed
    (rw (to_z-of_z c.ranges.number) at c.order_as-answer.ensures.correct)

pub returns-clause-answer : goal.returns-clause-answer
returns-clause-answer c =
    let ks = c.args.sum.now.factors.now in
    let ts = c.args.sum.now.terms.now in
    let n = c.args.number in
    let before = c.args.store.now.doms in
    let after = c.order_as-answer.new.store.doms in
    IfOk-weaker c.order_as-answer.result (λ (a : Answer). IsAnswerSaid c.args.said AtMost ks ts n a before after)
    (λ (a : Answer). IsAnswerOf a (TruthWith (SumTruth AtMost ks ts n) c.args.r) (LineWith (sum_sides AtMost ks ts n) c.args.r) before after)
    (λ a h. order_answer c.args.said ks ts n c.args.r a before after c.requires.inside c.requires.boolean c.requires.fixed c.doms.ensures.store.domains c.order_as-answer.ensures.shrinks.narrower h)
    (rw (to_z-of_z c.ranges.number) at c.order_as-answer.ensures.answer)
