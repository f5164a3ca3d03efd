use Rattle.std.proofs.Common.{sym, length}
use Rattle.std.proofs.Math.Facts.{to_z-of_z}
use Rattle.fz_prop.specs.declared.answer.Answer.TheVariants.{Subsumed, Failed}
use Rattle.fz_prop.proofs.Answering.{answer_twice, correct_twice}
use Rattle.fz_prop.proofs.Steps.{same_shrinks}
use Rattle.fz_prop.proofs.Twice.{shrinks_twice}
use Rattle.fz_linear.specs.Sums.{SumTruth, SumLine, IsAnswerSum}
use Rattle.fz_linear.proofs.Slacks.{terms_of}
use Rattle.fz_linear.proofs.relate.relate_to_rest.Goals as goal

pub runs-init : goal.runs-init
runs-init c = record { shrinks = same_shrinks c.args.store.now; correct = λ a holds within. within }

pub runs-preserved : goal.runs-preserved
runs-preserved c = rw (to_z-of_z c.ranges.number) (record {
  shrinks = shrinks_twice c.args.store.now c.runs.store c.relate.new.store c.runs.invariant.shrinks c.relate.ensures.shrinks;
  correct = correct_twice (SumTruth c.args.relation c.args.sum.now.factors.now c.args.sum.now.terms.now c.args.number) c.args.store.now.doms c.runs.store.doms c.relate.new.store.doms
      (rw (to_z-of_z c.ranges.number) at c.runs.invariant.correct) (rw (to_z-of_z c.ranges.number) at c.relate.ensures.correct);
})

pub relate-requires-clause-inside : goal.relate-requires-clause-inside
relate-requires-clause-inside c = terms_of (length c.args.store.now.doms) (length c.runs.store.doms) c.args.sum.now.terms.now (sym c.runs.invariant.shrinks.narrower.size) c.requires.inside

pub returns-in_err-relate-clause-shrinks : goal.returns-in_err-relate-clause-shrinks
returns-in_err-relate-clause-shrinks c = shrinks_twice c.args.store.now c.runs.store c.relate.new.store c.runs.invariant.shrinks c.relate.ensures.shrinks

pub returns-in_err-relate-clause-correct : goal.returns-in_err-relate-clause-correct
returns-in_err-relate-clause-correct c =
    correct_twice (SumTruth c.args.relation c.args.sum.now.factors.now c.args.sum.now.terms.now c.args.number) c.args.store.now.doms c.runs.store.doms c.relate.new.store.doms
    (rw (to_z-of_z c.ranges.number) at c.runs.invariant.correct) (rw (to_z-of_z c.ranges.number) at c.relate.ensures.correct)

pub returns-in-Fix-clause-shrinks : goal.returns-in-Fix-clause-shrinks
returns-in-Fix-clause-shrinks c = shrinks_twice c.args.store.now c.runs.store c.relate.new.store c.runs.invariant.shrinks c.relate.ensures.shrinks

pub returns-in-Fix-clause-correct : goal.returns-in-Fix-clause-correct
returns-in-Fix-clause-correct c =
    correct_twice (SumTruth c.args.relation c.args.sum.now.factors.now c.args.sum.now.terms.now c.args.number) c.args.store.now.doms c.runs.store.doms c.relate.new.store.doms
    (rw (to_z-of_z c.ranges.number) at c.runs.invariant.correct) (rw (to_z-of_z c.ranges.number) at c.relate.ensures.correct)

pub returns-in-Subsumed-clause-shrinks : goal.returns-in-Subsumed-clause-shrinks
returns-in-Subsumed-clause-shrinks c = shrinks_twice c.args.store.now c.runs.store c.relate.new.store c.runs.invariant.shrinks c.relate.ensures.shrinks

pub returns-in-Subsumed-clause-correct : goal.returns-in-Subsumed-clause-correct
returns-in-Subsumed-clause-correct c =
    correct_twice (SumTruth c.args.relation c.args.sum.now.factors.now c.args.sum.now.terms.now c.args.number) c.args.store.now.doms c.runs.store.doms c.relate.new.store.doms
    (rw (to_z-of_z c.ranges.number) at c.runs.invariant.correct) (rw (to_z-of_z c.ranges.number) at c.relate.ensures.correct)

pub returns-in-Failed-clause-shrinks : goal.returns-in-Failed-clause-shrinks
returns-in-Failed-clause-shrinks c = shrinks_twice c.args.store.now c.runs.store c.relate.new.store c.runs.invariant.shrinks c.relate.ensures.shrinks

pub returns-in-Failed-clause-correct : goal.returns-in-Failed-clause-correct
returns-in-Failed-clause-correct c =
    correct_twice (SumTruth c.args.relation c.args.sum.now.factors.now c.args.sum.now.terms.now c.args.number) c.args.store.now.doms c.runs.store.doms c.relate.new.store.doms
    (rw (to_z-of_z c.ranges.number) at c.runs.invariant.correct) (rw (to_z-of_z c.ranges.number) at c.relate.ensures.correct)

pub returns-in-Subsumed-clause-answer : goal.returns-in-Subsumed-clause-answer
returns-in-Subsumed-clause-answer c =
    let ks = c.args.sum.now.factors.now in
    let ts = c.args.sum.now.terms.now in
    let told : IsAnswerSum c.args.relation ks ts c.args.number Subsumed c.runs.store.doms c.relate.new.store.doms = rw (c.in-Subsumed.is, to_z-of_z c.ranges.number) at c.in_ok-relate.ensures.answer in
    answer_twice Subsumed (SumTruth c.args.relation ks ts c.args.number) (SumLine c.args.relation ks ts c.args.number) c.args.store.now c.runs.store c.relate.new.store c.runs.invariant.shrinks
    (rw (to_z-of_z c.ranges.number) at c.runs.invariant.correct) told

pub returns-in-Failed-clause-answer : goal.returns-in-Failed-clause-answer
returns-in-Failed-clause-answer c =
    let ks = c.args.sum.now.factors.now in
    let ts = c.args.sum.now.terms.now in
    let told : IsAnswerSum c.args.relation ks ts c.args.number Failed c.runs.store.doms c.relate.new.store.doms = rw (c.in-Failed.is, to_z-of_z c.ranges.number) at c.in_ok-relate.ensures.answer in
    answer_twice Failed (SumTruth c.args.relation ks ts c.args.number) (SumLine c.args.relation ks ts c.args.number) c.args.store.now c.runs.store c.relate.new.store c.runs.invariant.shrinks
    (rw (to_z-of_z c.ranges.number) at c.runs.invariant.correct) told
