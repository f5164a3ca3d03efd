use Rattle.std.proofs.lemmas.Result.{IfOk-weaker}
use Rattle.fz_prop.specs.declared.answer.Answer.{Answer}
use Rattle.fz_prop.specs.Answers.{IsAnswerOf, Narrows}
use Rattle.fz_partners.specs.Equations.{EquationLine, EquationTruth}
use Rattle.fz_partners.proofs.Lessening.{AsLeft, counting_same, left_answer}
use Rattle.fz_partners.proofs.Turning.{narrows_same, turned_same}
use Rattle.fz_partners.proofs.keep.keep_partners.Goals as goal

pub returns : goal.returns
returns c =
    let e = c.args.equation in
    let f = c.counting-counting.result in
    let g = c.widest_last-turned.result in
    let ds = c.args.store.now.doms in
    let es = c.keep_turned-answer.new.store.doms in
    let same = turned_same f g c.widest_last-turned.ensures.turned in
    let ours : Narrows (EquationTruth f) (EquationLine f) c.keep_turned-answer.result c.args.store.now c.keep_turned-answer.new.store =
    narrows_same (EquationTruth g) (EquationTruth f) (EquationLine g) (EquationLine f) c.keep_turned-answer.result c.args.store.now c.keep_turned-answer.new.store same c.keep_turned-answer.ensures
    in
    let left : Narrows (EquationTruth e) (AsLeft e) c.keep_turned-answer.result c.args.store.now c.keep_turned-answer.new.store =
    narrows_same (EquationTruth f) (EquationTruth e) (EquationLine f) (AsLeft e) c.keep_turned-answer.result c.args.store.now c.keep_turned-answer.new.store (counting_same e f c.counting-counting.ensures.counting) ours
    in
    record {
      shrinks = left.shrinks;
      correct = left.correct;
      answer = IfOk-weaker c.keep_turned-answer.result
          (λ (r : Answer). IsAnswerOf r (EquationTruth e) (AsLeft e) ds es)
          (λ (r : Answer). IsAnswerOf r (EquationTruth e) (EquationLine e) ds es)
          (λ r h. left_answer r e ds es c.doms.ensures.store.domains left.shrinks.narrower.size c.requires h)
          left.answer;
    }
