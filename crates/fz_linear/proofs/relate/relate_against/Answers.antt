use Rattle.std.proofs.lemmas.Result.{IfOk-weaker}
use Rattle.std.proofs.Math.Facts.{to_z-of_z}
use Rattle.fz_spec.specs.declared.shape.Relation.TheVariants.{Equal, NotEqual}
use Rattle.fz_prop.specs.declared.answer.Answer.{Answer}
use Rattle.fz_prop.proofs.Answering.{same_answer, same_correct}
use Rattle.fz_linear.specs.Sums.{SumTruth, SumLine, SumFalse, AgainstLine, IsAnswerSum, IsAnswerAgainst}
use Rattle.fz_linear.proofs.Above.{against_apart}
use Rattle.fz_linear.proofs.relate.relate_against.Goals as goal

pub returns-in-Equal-clause-answer : goal.returns-in-Equal-clause-answer
returns-in-Equal-clause-answer c = rw c.in-Equal.is (rw (to_z-of_z c.ranges.number) at c.keep_apart.ensures.answer)

pub returns-in-NotEqual-clause-answer : goal.returns-in-NotEqual-clause-answer
returns-in-NotEqual-clause-answer c =
    let ks = c.args.sum.now.factors.now in
    let ts = c.args.sum.now.terms.now in
    let n = c.args.number in
    let before = c.args.store.now.doms in
    let after = c.keep_equal.new.store.doms in
    rw c.in-NotEqual.is
    (IfOk-weaker c.keep_equal.result (λ (r : Answer). IsAnswerSum Equal ks ts n r before after) (λ (r : Answer). IsAnswerAgainst NotEqual ks ts n r before after)
    (λ r h. same_answer r (SumTruth Equal ks ts n) (SumFalse NotEqual ks ts n) (SumLine Equal ks ts n) (AgainstLine NotEqual ks ts n) before after (against_apart ks ts n) h) (rw (to_z-of_z c.ranges.number) at c.keep_equal.ensures.answer))

pub keep_apart-requires-clause-law : goal.keep_apart-requires-clause-law
keep_apart-requires-clause-law c = c.requires.law

pub keep_apart-requires-clause-inside : goal.keep_apart-requires-clause-inside
keep_apart-requires-clause-inside c = c.requires.inside

pub keep_apart-requires-clause-fits : goal.keep_apart-requires-clause-fits
keep_apart-requires-clause-fits c = c.requires.fits

pub keep_equal-requires-clause-law : goal.keep_equal-requires-clause-law
keep_equal-requires-clause-law c = c.requires.law

pub keep_equal-requires-clause-inside : goal.keep_equal-requires-clause-inside
keep_equal-requires-clause-inside c = c.requires.inside

pub keep_above-requires-clause-law : goal.keep_above-requires-clause-law
keep_above-requires-clause-law c = c.requires.law

pub keep_above-requires-clause-inside : goal.keep_above-requires-clause-inside
keep_above-requires-clause-inside c = c.requires.inside

pub returns-in-Equal-clause-shrinks : goal.returns-in-Equal-clause-shrinks
returns-in-Equal-clause-shrinks c = c.keep_apart.ensures.shrinks

pub returns-in-Equal-clause-still : goal.returns-in-Equal-clause-still
returns-in-Equal-clause-still c = c.keep_apart.ensures.still

pub returns-in-NotEqual-clause-shrinks : goal.returns-in-NotEqual-clause-shrinks
returns-in-NotEqual-clause-shrinks c = c.keep_equal.ensures.shrinks

pub returns-in-NotEqual-clause-still : goal.returns-in-NotEqual-clause-still
returns-in-NotEqual-clause-still c = c.keep_equal.ensures.still

pub returns-in-Equal-clause-correct : goal.returns-in-Equal-clause-correct
returns-in-Equal-clause-correct c = rw c.in-Equal.is (rw (to_z-of_z c.ranges.number) at c.keep_apart.ensures.correct)

pub returns-in-NotEqual-clause-correct : goal.returns-in-NotEqual-clause-correct
returns-in-NotEqual-clause-correct c =
    let ks = c.args.sum.now.factors.now in
    let ts = c.args.sum.now.terms.now in
    let n = c.args.number in
    rw c.in-NotEqual.is
    (same_correct (SumTruth Equal ks ts n) (SumFalse NotEqual ks ts n) (SumLine Equal ks ts n) (AgainstLine NotEqual ks ts n) c.args.store.now.doms c.keep_equal.new.store.doms (against_apart ks ts n)
    (rw (to_z-of_z c.ranges.number) at c.keep_equal.ensures.correct))

pub returns-in_default-clause-shrinks : goal.returns-in_default-clause-shrinks
returns-in_default-clause-shrinks c = c.keep_above.ensures.shrinks

pub returns-in_default-clause-still : goal.returns-in_default-clause-still
returns-in_default-clause-still c = c.keep_above.ensures.still
