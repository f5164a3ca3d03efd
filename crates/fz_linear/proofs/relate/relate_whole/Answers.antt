use Rattle.std.proofs.Common.{◌∙◌, ap, sym, length}
use Rattle.std.specs.Prelude.{neg_ℤ}
use Rattle.std.proofs.Math.Facts.{to_z-of_z}
use Rattle.std.proofs.lemmas.Result.{IfOk-weaker}
use Rattle.fz_spec.specs.declared.shape.Relation.TheVariants.{Equal, NotEqual}
use Rattle.fz_prop.specs.declared.answer.Answer.{Answer}
use Rattle.fz_prop.proofs.Answering.{same_answer, same_correct}
use Rattle.fz_prop.proofs.Lasting.{sum_lasts}
use Rattle.fz_shift.specs.Differences.{DifferenceTruth, DifferenceLine, IsAnswerDifference, IsDifferenceIn}
use Rattle.fz_linear.specs.Shapes.{IsShapeIn, IsPruned}
use Rattle.fz_linear.specs.declared.shape.Shape.TheVariants.{Three}
use Rattle.fz_linear.specs.Sums.{SumTruth, SumLine, IsAnswerSum}
use Rattle.fz_linear.proofs.Differences.{equal_sum, apart_sum}
use Rattle.fz_linear.proofs.Whole.{both_inside, pruned_none, whatever}
use Rattle.fz_linear.proofs.relate.relate_whole.Goals.{in_default-via-in-Equal+in_default, in_default-via-in-NotEqual+in_default, in_default-via-in_default}
use Rattle.fz_linear.proofs.relate.relate_whole.Goals as goal

pub keep_above_by-requires-clause-first : goal.keep_above_by-requires-clause-first
keep_above_by-requires-clause-first c =
    let d = c.in-Equal-Two.difference in
    let differs : IsDifferenceIn d c.args.sum.now.factors.now c.args.sum.now.terms.now c.args.number = rw (c.in-Equal-Two.is-1) at c.requires.shaped in
    (both_inside d.first d.second (length c.args.store.now.doms) c.args.sum.now.factors.now c.args.sum.now.terms.now differs.sum c.requires.inside).0

pub keep_above_by-requires-clause-second : goal.keep_above_by-requires-clause-second
keep_above_by-requires-clause-second c =
    let d = c.in-Equal-Two.difference in
    let differs : IsDifferenceIn d c.args.sum.now.factors.now c.args.sum.now.terms.now c.args.number = rw (c.in-Equal-Two.is-1) at c.requires.shaped in
    (both_inside d.first d.second (length c.args.store.now.doms) c.args.sum.now.factors.now c.args.sum.now.terms.now differs.sum c.requires.inside).1

pub keep_above_by-requires-clause-apart : goal.keep_above_by-requires-clause-apart
keep_above_by-requires-clause-apart c =
    let d = c.in-Equal-Two.difference in
    let differs : IsDifferenceIn d c.args.sum.now.factors.now c.args.sum.now.terms.now c.args.number = rw (c.in-Equal-Two.is-1) at c.requires.shaped in
    differs.apart

pub keep_above_by-requires-clause-turned : goal.keep_above_by-requires-clause-turned
keep_above_by-requires-clause-turned c =
    let d = c.in-Equal-Two.difference in
    let differs : IsDifferenceIn d c.args.sum.now.factors.now c.args.sum.now.terms.now c.args.number = rw (c.in-Equal-Two.is-1) at c.requires.shaped in
    differs.below ∙ ap neg_ℤ (sym differs.above)

pub keep_apart_by-requires-clause-first : goal.keep_apart_by-requires-clause-first
keep_apart_by-requires-clause-first c =
    let d = c.in-NotEqual-Two.difference in
    let differs : IsDifferenceIn d c.args.sum.now.factors.now c.args.sum.now.terms.now c.args.number = rw (c.in-NotEqual-Two.is-1) at c.requires.shaped in
    (both_inside d.first d.second (length c.args.store.now.doms) c.args.sum.now.factors.now c.args.sum.now.terms.now differs.sum c.requires.inside).0

pub keep_apart_by-requires-clause-second : goal.keep_apart_by-requires-clause-second
keep_apart_by-requires-clause-second c =
    let d = c.in-NotEqual-Two.difference in
    let differs : IsDifferenceIn d c.args.sum.now.factors.now c.args.sum.now.terms.now c.args.number = rw (c.in-NotEqual-Two.is-1) at c.requires.shaped in
    (both_inside d.first d.second (length c.args.store.now.doms) c.args.sum.now.factors.now c.args.sum.now.terms.now differs.sum c.requires.inside).1

pub keep_apart_by-requires-clause-turned : goal.keep_apart_by-requires-clause-turned
keep_apart_by-requires-clause-turned c =
    let d = c.in-NotEqual-Two.difference in
    let differs : IsDifferenceIn d c.args.sum.now.factors.now c.args.sum.now.terms.now c.args.number = rw (c.in-NotEqual-Two.is-1) at c.requires.shaped in
    differs.below ∙ ap neg_ℤ (sym differs.above)

pub relate_on-requires-clause-lies : goal.relate_on-requires-clause-lies
relate_on-requires-clause-lies c =
    let shaped : IsShapeIn (Three c.in-Equal-Three.plane) c.args.sum.now.factors.now c.args.sum.now.terms.now c.args.number = rw (c.in-Equal-Three.is-1) at c.requires.shaped in
    rw (to_z-of_z c.ranges.number) shaped.0

pub relate_on-requires-clause-law : goal.relate_on-requires-clause-law
relate_on-requires-clause-law c = c.requires.law

pub relate_on-requires-clause-inside : goal.relate_on-requires-clause-inside
relate_on-requires-clause-inside c = c.requires.inside

pub relate_on-requires-clause-fits : goal.relate_on-requires-clause-fits
relate_on-requires-clause-fits c = c.requires.fits

pub relate_on-requires-clause-told : goal.relate_on-requires-clause-told
relate_on-requires-clause-told c = c.requires.told

pub returns-in-Equal-Three-clause-told : goal.returns-in-Equal-Three-clause-told
returns-in-Equal-Three-clause-told c = c.relate_on.ensures.told

pub returns-in-Equal-Three-clause-shrinks : goal.returns-in-Equal-Three-clause-shrinks
returns-in-Equal-Three-clause-shrinks c = c.relate_on.ensures.shrinks

pub returns-in-Equal-Three-clause-correct : goal.returns-in-Equal-Three-clause-correct
returns-in-Equal-Three-clause-correct c = rw (c.in-Equal-Three.is-0) (rw (to_z-of_z c.ranges.number) at c.relate_on.ensures.correct)

pub returns-in-Equal-Three-clause-answer : goal.returns-in-Equal-Three-clause-answer
returns-in-Equal-Three-clause-answer c = rw (c.in-Equal-Three.is-0) (rw (to_z-of_z c.ranges.number) at c.relate_on.ensures.answer)

pub returns-in-Equal-Three-clause-pruned : goal.returns-in-Equal-Three-clause-pruned
returns-in-Equal-Three-clause-pruned c =
    let es = c.relate_on.new.store.doms in
    rw (c.in-Equal-Three.is-1) (whatever c.relate_on.result (λ (r : Answer). IsPruned c.args.relation (Three c.in-Equal-Three.plane) r es)
    (λ r. pruned_none c.args.relation (Three c.in-Equal-Three.plane) r es (λ e d is. absurd cc)))

pub relate_rest-requires-clause-bounded : goal.relate_rest-requires-clause-bounded
relate_rest-requires-clause-bounded c = c.requires.bounded

pub relate_rest-requires-clause-law : goal.relate_rest-requires-clause-law
relate_rest-requires-clause-law c = c.requires.law

pub relate_rest-requires-clause-inside : goal.relate_rest-requires-clause-inside
relate_rest-requires-clause-inside c = c.requires.inside

pub relate_rest-requires-clause-fits : goal.relate_rest-requires-clause-fits
relate_rest-requires-clause-fits c = c.requires.fits

pub relate_rest-requires-clause-told : goal.relate_rest-requires-clause-told
relate_rest-requires-clause-told c = c.requires.told

pub returns-in-Equal-Two-clause-shrinks : goal.returns-in-Equal-Two-clause-shrinks
returns-in-Equal-Two-clause-shrinks c = c.keep_above_by.ensures.shrinks

pub returns-in-NotEqual-Two-clause-shrinks : goal.returns-in-NotEqual-Two-clause-shrinks
returns-in-NotEqual-Two-clause-shrinks c = c.keep_apart_by.ensures.shrinks

pub returns-in-Equal-Two-clause-pruned : goal.returns-in-Equal-Two-clause-pruned
returns-in-Equal-Two-clause-pruned c = rw (c.in-Equal-Two.is-0, c.in-Equal-Two.is-1) c.keep_above_by.ensures.partners

pub returns-in-NotEqual-Two-clause-pruned : goal.returns-in-NotEqual-Two-clause-pruned
returns-in-NotEqual-Two-clause-pruned c =
    let es = c.keep_apart_by.new.store.doms in
    rw (c.in-NotEqual-Two.is-0) (whatever c.keep_apart_by.result (λ (r : Answer). IsPruned NotEqual c.args.shape r es) (λ r. tt))

pub returns-in_default-clause-told : goal.returns-in_default-clause-told
returns-in_default-clause-told c = c.relate_rest.ensures.told

pub returns-in_default-clause-shrinks : goal.returns-in_default-clause-shrinks
returns-in_default-clause-shrinks c = c.relate_rest.ensures.shrinks

pub returns-in_default-clause-correct : goal.returns-in_default-clause-correct
returns-in_default-clause-correct c = rw (to_z-of_z c.ranges.number) at c.relate_rest.ensures.correct

pub returns-in_default-clause-answer : goal.returns-in_default-clause-answer
returns-in_default-clause-answer c = rw (to_z-of_z c.ranges.number) at c.relate_rest.ensures.answer

pub returns-in_default-clause-pruned : goal.returns-in_default-clause-pruned
returns-in_default-clause-pruned c =
    let es = c.relate_rest.new.store.doms in
    whatever c.relate_rest.result (λ (r : Answer). IsPruned c.args.relation c.args.shape r es)
    (λ r. pruned_none c.args.relation c.args.shape r es (λ e. elim c.in_default.branch [
      | in_default-via-in-Equal+in_default w ↦ (λ d is. let other = w.in_default.is-1 in absurd (cc (other, is)))
      | in_default-via-in-NotEqual+in_default w ↦ w.in_default.not-Two-1
      | in_default-via-in_default w ↦ absurd (w.in_default.not-Equal-0 e)
    ]))

pub returns-in-Equal-Two-clause-correct : goal.returns-in-Equal-Two-clause-correct
returns-in-Equal-Two-clause-correct c =
    let d = c.in-Equal-Two.difference in
    let differs : IsDifferenceIn d c.args.sum.now.factors.now c.args.sum.now.terms.now c.args.number = rw (c.in-Equal-Two.is-1) at c.requires.shaped in
    let ks = c.args.sum.now.factors.now in
    let ts = c.args.sum.now.terms.now in
    let above = differs.above in
    rw (c.in-Equal-Two.is-0, ← above)
    (same_correct (DifferenceTruth Equal d.first d.second d.above) (SumTruth Equal ks ts d.above) (DifferenceLine Equal d.first d.second d.above) (SumLine Equal ks ts d.above)
    c.args.store.now.doms c.keep_above_by.new.store.doms (equal_sum d.first d.second d.above ks ts differs.sum) c.keep_above_by.ensures.correct)

pub returns-in-Equal-Two-clause-answer : goal.returns-in-Equal-Two-clause-answer
returns-in-Equal-Two-clause-answer c =
    let d = c.in-Equal-Two.difference in
    let differs : IsDifferenceIn d c.args.sum.now.factors.now c.args.sum.now.terms.now c.args.number = rw (c.in-Equal-Two.is-1) at c.requires.shaped in
    let ks = c.args.sum.now.factors.now in
    let ts = c.args.sum.now.terms.now in
    let before = c.args.store.now.doms in
    let after = c.keep_above_by.new.store.doms in
    let above = differs.above in
    rw (c.in-Equal-Two.is-0, ← above)
    (IfOk-weaker c.keep_above_by.result (λ (r : Answer). IsAnswerDifference Equal d.first d.second d.above r before after) (λ (r : Answer). IsAnswerSum Equal ks ts d.above r before after)
    (λ r h. same_answer r (DifferenceTruth Equal d.first d.second d.above) (SumTruth Equal ks ts d.above) (DifferenceLine Equal d.first d.second d.above) (SumLine Equal ks ts d.above)
    before after (equal_sum d.first d.second d.above ks ts differs.sum) h)
    c.keep_above_by.ensures.answer)

pub returns-in-NotEqual-Two-clause-correct : goal.returns-in-NotEqual-Two-clause-correct
returns-in-NotEqual-Two-clause-correct c =
    let d = c.in-NotEqual-Two.difference in
    let differs : IsDifferenceIn d c.args.sum.now.factors.now c.args.sum.now.terms.now c.args.number = rw (c.in-NotEqual-Two.is-1) at c.requires.shaped in
    let ks = c.args.sum.now.factors.now in
    let ts = c.args.sum.now.terms.now in
    let above = differs.above in
    rw (c.in-NotEqual-Two.is-0, ← above)
    (same_correct (DifferenceTruth NotEqual d.first d.second d.above) (SumTruth NotEqual ks ts d.above) (DifferenceLine NotEqual d.first d.second d.above) (SumLine NotEqual ks ts d.above)
    c.args.store.now.doms c.keep_apart_by.new.store.doms (apart_sum d.first d.second d.above ks ts differs.sum) c.keep_apart_by.ensures.correct)

pub returns-in-NotEqual-Two-clause-answer : goal.returns-in-NotEqual-Two-clause-answer
returns-in-NotEqual-Two-clause-answer c =
    let d = c.in-NotEqual-Two.difference in
    let differs : IsDifferenceIn d c.args.sum.now.factors.now c.args.sum.now.terms.now c.args.number = rw (c.in-NotEqual-Two.is-1) at c.requires.shaped in
    let ks = c.args.sum.now.factors.now in
    let ts = c.args.sum.now.terms.now in
    let before = c.args.store.now.doms in
    let after = c.keep_apart_by.new.store.doms in
    let above = differs.above in
    rw (c.in-NotEqual-Two.is-0, ← above)
    (IfOk-weaker c.keep_apart_by.result (λ (r : Answer). IsAnswerDifference NotEqual d.first d.second d.above r before after) (λ (r : Answer). IsAnswerSum NotEqual ks ts d.above r before after)
    (λ r h. same_answer r (DifferenceTruth NotEqual d.first d.second d.above) (SumTruth NotEqual ks ts d.above) (DifferenceLine NotEqual d.first d.second d.above) (SumLine NotEqual ks ts d.above)
    before after (apart_sum d.first d.second d.above ks ts differs.sum) h)
    c.keep_apart_by.ensures.answer)

pub returns-in-Equal-Two-clause-told : goal.returns-in-Equal-Two-clause-told
returns-in-Equal-Two-clause-told c = λ domains.
    sum_lasts c.args.sum.now.factors.now c.args.sum.now.terms.now c.args.kept.now.front c.args.kept.now.number c.args.store.now.doms c.keep_above_by.new.store.doms domains c.keep_above_by.ensures.shrinks.narrower c.requires.told

pub returns-in-NotEqual-Two-clause-told : goal.returns-in-NotEqual-Two-clause-told
returns-in-NotEqual-Two-clause-told c = λ domains.
    sum_lasts c.args.sum.now.factors.now c.args.sum.now.terms.now c.args.kept.now.front c.args.kept.now.number c.args.store.now.doms c.keep_apart_by.new.store.doms domains c.keep_apart_by.ensures.shrinks.narrower c.requires.told
