use Rattle.std.proofs.Common.{ℕ, length, subst, sym}
use Rattle.std.proofs.Math.Facts.{to_z-of_z}
use Rattle.std.proofs.lemmas.Result.{IfOk-weaker}
use Rattle.fz_spec.specs.declared.shape.Relation.TheVariants.{Equal}
use Rattle.fz_prop.specs.declared.answer.Answer.{Answer}
use Rattle.fz_prop.specs.Answers.{IsAnswerOf, IsCorrectOf}
use Rattle.fz_prop.proofs.Answering.{answer_twice, correct_twice}
use Rattle.fz_prop.proofs.Twice.{shrinks_twice}
use Rattle.fz_prop.proofs.Lasting.{sum_lasts}
use Rattle.fz_shift.specs.Planes.{AreInside, HasPartners, PlaneTruth}
use Rattle.fz_linear.specs.Sums.{SumTruth, SumLine, IsAnswerSum}
use Rattle.fz_linear.proofs.Lying.{answer_on, correct_on}
use Rattle.fz_linear.proofs.relate.relate_on.Goals as goal

pub keep_plane-requires-clause-inside : goal.keep_plane-requires-clause-inside
keep_plane-requires-clause-inside c = c.requires.lies.inside (length c.args.store.now.doms) c.requires.inside

pub keep_plane-requires-clause-small : goal.keep_plane-requires-clause-small
keep_plane-requires-clause-small c = c.requires.lies.small

pub keep_plane-requires-clause-apart : goal.keep_plane-requires-clause-apart
keep_plane-requires-clause-apart c = c.requires.lies.apart

pub returns-in_err-answer-clause-told : goal.returns-in_err-answer-clause-told
returns-in_err-answer-clause-told c = λ domains.
    sum_lasts c.args.sum.now.factors.now c.args.sum.now.terms.now c.args.kept.now.front c.args.kept.now.number c.args.store.now.doms c.keep_plane.new.store.doms
    domains c.keep_plane.ensures.shrinks.narrower c.requires.told

pub returns-in_err-answer-clause-shrinks : goal.returns-in_err-answer-clause-shrinks
returns-in_err-answer-clause-shrinks c = c.keep_plane.ensures.shrinks

pub returns-in_err-answer-clause-correct : goal.returns-in_err-answer-clause-correct
returns-in_err-answer-clause-correct c =
    correct_on c.args.plane c.args.sum.now.factors.now c.args.sum.now.terms.now c.args.number c.args.store.now.doms c.keep_plane.new.store.doms c.requires.lies c.keep_plane.ensures.correct

pub relate_rest-requires-clause-law : goal.relate_rest-requires-clause-law
relate_rest-requires-clause-law c = c.requires.law

pub relate_rest-requires-clause-inside : goal.relate_rest-requires-clause-inside
relate_rest-requires-clause-inside c = rw (c.keep_plane.ensures.shrinks.narrower.size) c.requires.inside

pub relate_rest-requires-clause-fits : goal.relate_rest-requires-clause-fits
relate_rest-requires-clause-fits c = c.requires.fits

pub relate_rest-requires-clause-told : goal.relate_rest-requires-clause-told
relate_rest-requires-clause-told c =
    sum_lasts c.args.sum.now.factors.now c.args.sum.now.terms.now c.args.kept.now.front c.args.kept.now.number c.args.store.now.doms c.keep_plane.new.store.doms
    c.doms.ensures.store.domains c.keep_plane.ensures.shrinks.narrower c.requires.told

pub returns-in-Some-clause-told : goal.returns-in-Some-clause-told
returns-in-Some-clause-told c = λ domains.
    sum_lasts c.args.sum.now.factors.now c.args.sum.now.terms.now c.args.kept.now.front c.args.kept.now.number c.args.store.now.doms c.keep_plane.new.store.doms
    domains c.keep_plane.ensures.shrinks.narrower c.requires.told

pub returns-in-Some-clause-shrinks : goal.returns-in-Some-clause-shrinks
returns-in-Some-clause-shrinks c = c.keep_plane.ensures.shrinks

pub returns-in-Some-clause-correct : goal.returns-in-Some-clause-correct
returns-in-Some-clause-correct c =
    correct_on c.args.plane c.args.sum.now.factors.now c.args.sum.now.terms.now c.args.number c.args.store.now.doms c.keep_plane.new.store.doms c.requires.lies c.keep_plane.ensures.correct

pub returns-in-Some-clause-answer : goal.returns-in-Some-clause-answer
returns-in-Some-clause-answer c =
    let p = c.args.plane in
    let before = c.args.store.now.doms in
    let after = c.keep_plane.new.store.doms in
    let said : IsAnswerOf c.in-Some.answer (PlaneTruth p) (HasPartners p) before after = rw (c.in-Some.is) at c.in_ok-answer.ensures.answer in
    let inside : AreInside (length after) p =
    subst (λ (size : ℕ). AreInside size p) (sym c.keep_plane.ensures.shrinks.narrower.size) (c.requires.lies.inside (length before) c.requires.inside) in
    answer_on c.in-Some.answer p c.args.sum.now.factors.now c.args.sum.now.terms.now c.args.number before after c.requires.lies c.doms.ensures.store.domains inside said

pub returns-in-None-clause-told : goal.returns-in-None-clause-told
returns-in-None-clause-told c = c.relate_rest.ensures.told

pub returns-in-None-clause-shrinks : goal.returns-in-None-clause-shrinks
returns-in-None-clause-shrinks c = shrinks_twice c.args.store.now c.keep_plane.new.store c.relate_rest.new.store c.keep_plane.ensures.shrinks c.relate_rest.ensures.shrinks

pub returns-in-None-clause-correct : goal.returns-in-None-clause-correct
returns-in-None-clause-correct c =
    let ks = c.args.sum.now.factors.now in
    let ts = c.args.sum.now.terms.now in
    let n = c.args.number in
    let before = c.args.store.now.doms in
    let between = c.keep_plane.new.store.doms in
    let after = c.relate_rest.new.store.doms in
    let rest : IsCorrectOf (SumTruth Equal ks ts n) between after = rw (to_z-of_z c.ranges.number) at c.relate_rest.ensures.correct in
    correct_twice (SumTruth Equal ks ts n) before between after (correct_on c.args.plane ks ts n before between c.requires.lies c.keep_plane.ensures.correct) rest

pub returns-in-None-clause-answer : goal.returns-in-None-clause-answer
returns-in-None-clause-answer c =
    let ks = c.args.sum.now.factors.now in
    let ts = c.args.sum.now.terms.now in
    let n = c.args.number in
    let before = c.args.store.now in
    let between = c.keep_plane.new.store in
    let after = c.relate_rest.new.store in
    let correct = correct_on c.args.plane ks ts n before.doms between.doms c.requires.lies c.keep_plane.ensures.correct in
    IfOk-weaker c.relate_rest.result (λ (r : Answer). IsAnswerSum Equal ks ts n r between.doms after.doms) (λ (r : Answer). IsAnswerSum Equal ks ts n r before.doms after.doms)
    (λ r. answer_twice r (SumTruth Equal ks ts n) (SumLine Equal ks ts n) before between after c.keep_plane.ensures.shrinks correct)
    (rw (to_z-of_z c.ranges.number) at c.relate_rest.ensures.answer)
