use Rattle.std.proofs.Common.{◌≢◌}
use Rattle.std.proofs.lemmas.Result.{IfOk-weaker}
use Rattle.fz_spec.specs.declared.shape.Relation.TheVariants.{Equal}
use Rattle.fz_prop.specs.declared.answer.Answer.{Answer}
use Rattle.fz_prop.specs.declared.answer.Answer.TheVariants.{Failed}
use Rattle.fz_prop.proofs.Answering.{same_answer}
use Rattle.fz_shift.specs.Differences.{DifferenceTruth, DifferenceLine, IsAnswerDifference, ArePartners}
use Rattle.fz_shift.proofs.Differences.{turned_same, turned_partners}
use Rattle.fz_shift.proofs.difference.keep_above_by.Goals as goal

pub returns-then-first-second-clause-answer : goal.returns-then-first-second-clause-answer
returns-then-first-second-clause-answer c =
    let d = c.args.d in
    let before = c.args.store.now.doms in
    let after = c.keep_first.new.store.doms in
    IfOk-weaker c.keep_first.result (λ (r : Answer). IsAnswerDifference Equal d.second d.first d.below r before after) (λ (r : Answer). IsAnswerDifference Equal d.first d.second d.above r before after)
    (λ r h. same_answer r (DifferenceTruth Equal d.second d.first d.below) (DifferenceTruth Equal d.first d.second d.above) (DifferenceLine Equal d.second d.first d.below) (DifferenceLine Equal d.first d.second d.above)
    before after (turned_same d.first d.second d.above d.below c.requires.turned) h)
    (rw c.turned.ensures at c.keep_first.ensures.answer)

pub returns-then-first-second-clause-partners : goal.returns-then-first-second-clause-partners
returns-then-first-second-clause-partners c =
    let d = c.args.d in
    let after = c.keep_first.new.store.doms in
    IfOk-weaker c.keep_first.result (λ (r : Answer). r ≢ Failed → ArePartners after d.second d.first d.below) (λ (r : Answer). r ≢ Failed → ArePartners after d.first d.second d.above)
    (λ r h not. turned_partners after d.first d.second d.above d.below c.requires.turned (h not))
    (rw c.turned.ensures at c.keep_first.ensures.partners)
