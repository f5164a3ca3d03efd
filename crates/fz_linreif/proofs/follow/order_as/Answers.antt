use Rattle.std.proofs.Common.{sym, length}
use Rattle.std.proofs.Math.Facts.{to_z-of_z}
use Rattle.fz_spec.specs.declared.shape.Relation.TheVariants.{AtMost}
use Rattle.fz_prop.specs.declared.answer.Answer.TheVariants.{Subsumed, Failed}
use Rattle.fz_prop.proofs.Answering.{answer_twice, correct_twice}
use Rattle.fz_prop.proofs.Steps.{same_shrinks}
use Rattle.fz_prop.proofs.Twice.{shrinks_twice}
use Rattle.fz_linear.proofs.Slacks.{terms_of}
use Rattle.fz_linreif.specs.ReifiedLinears.{SaidTruth, SaidLine, IsAnswerSaid}
use Rattle.fz_linreif.proofs.follow.order_as.Goals as goal

pub runs-init : goal.runs-init
runs-init c = record { shrinks = same_shrinks c.args.store.now; correct = λ a holds within. within }

pub runs-preserved : goal.runs-preserved
runs-preserved c = rw (to_z-of_z c.ranges.number) (record {
  shrinks = shrinks_twice c.args.store.now c.runs.store c.relate_as.new.store c.runs.invariant.shrinks c.relate_as.ensures.shrinks;
  correct = correct_twice (SaidTruth c.args.said AtMost c.args.sum.now.factors.now c.args.sum.now.terms.now c.args.number) c.args.store.now.doms c.runs.store.doms c.relate_as.new.store.doms
      (rw (to_z-of_z c.ranges.number) at c.runs.invariant.correct) (rw (to_z-of_z c.ranges.number) at c.relate_as.ensures.correct);
})

pub relate_as-requires-clause-inside : goal.relate_as-requires-clause-inside
relate_as-requires-clause-inside c = terms_of (length c.args.store.now.doms) (length c.runs.store.doms) c.args.sum.now.terms.now (sym c.runs.invariant.shrinks.narrower.size) c.requires.inside

pub returns-in_err-relate_as-clause-shrinks : goal.returns-in_err-relate_as-clause-shrinks
returns-in_err-relate_as-clause-shrinks c = shrinks_twice c.args.store.now c.runs.store c.relate_as.new.store c.runs.invariant.shrinks c.relate_as.ensures.shrinks

pub returns-in_err-relate_as-clause-correct : goal.returns-in_err-relate_as-clause-correct
returns-in_err-relate_as-clause-correct c =
    correct_twice (SaidTruth c.args.said AtMost c.args.sum.now.factors.now c.args.sum.now.terms.now c.args.number) c.args.store.now.doms c.runs.store.doms c.relate_as.new.store.doms
    (rw (to_z-of_z c.ranges.number) at c.runs.invariant.correct) (rw (to_z-of_z c.ranges.number) at c.relate_as.ensures.correct)

pub returns-in-Fix-clause-shrinks : goal.returns-in-Fix-clause-shrinks
returns-in-Fix-clause-shrinks c = shrinks_twice c.args.store.now c.runs.store c.relate_as.new.store c.runs.invariant.shrinks c.relate_as.ensures.shrinks

pub returns-in-Fix-clause-correct : goal.returns-in-Fix-clause-correct
returns-in-Fix-clause-correct c =
    correct_twice (SaidTruth c.args.said AtMost c.args.sum.now.factors.now c.args.sum.now.terms.now c.args.number) c.args.store.now.doms c.runs.store.doms c.relate_as.new.store.doms
    (rw (to_z-of_z c.ranges.number) at c.runs.invariant.correct) (rw (to_z-of_z c.ranges.number) at c.relate_as.ensures.correct)

pub returns-in-Subsumed-clause-shrinks : goal.returns-in-Subsumed-clause-shrinks
returns-in-Subsumed-clause-shrinks c = shrinks_twice c.args.store.now c.runs.store c.relate_as.new.store c.runs.invariant.shrinks c.relate_as.ensures.shrinks

pub returns-in-Subsumed-clause-correct : goal.returns-in-Subsumed-clause-correct
returns-in-Subsumed-clause-correct c =
    correct_twice (SaidTruth c.args.said AtMost c.args.sum.now.factors.now c.args.sum.now.terms.now c.args.number) c.args.store.now.doms c.runs.store.doms c.relate_as.new.store.doms
    (rw (to_z-of_z c.ranges.number) at c.runs.invariant.correct) (rw (to_z-of_z c.ranges.number) at c.relate_as.ensures.correct)

pub returns-in-Failed-clause-shrinks : goal.returns-in-Failed-clause-shrinks
returns-in-Failed-clause-shrinks c = shrinks_twice c.args.store.now c.runs.store c.relate_as.new.store c.runs.invariant.shrinks c.relate_as.ensures.shrinks

pub returns-in-Failed-clause-correct : goal.returns-in-Failed-clause-correct
returns-in-Failed-clause-correct c =
    correct_twice (SaidTruth c.args.said AtMost c.args.sum.now.factors.now c.args.sum.now.terms.now c.args.number) c.args.store.now.doms c.runs.store.doms c.relate_as.new.store.doms
    (rw (to_z-of_z c.ranges.number) at c.runs.invariant.correct) (rw (to_z-of_z c.ranges.number) at c.relate_as.ensures.correct)

pub returns-in-Subsumed-clause-answer : goal.returns-in-Subsumed-clause-answer
returns-in-Subsumed-clause-answer c =
    let ks = c.args.sum.now.factors.now in
    let ts = c.args.sum.now.terms.now in
    let told : IsAnswerSaid c.args.said AtMost ks ts c.args.number Subsumed c.runs.store.doms c.relate_as.new.store.doms = rw (c.in-Subsumed.is, to_z-of_z c.ranges.number) at c.in_ok-relate_as.ensures.answer in
    answer_twice Subsumed (SaidTruth c.args.said AtMost ks ts c.args.number) (SaidLine c.args.said AtMost ks ts c.args.number) c.args.store.now c.runs.store c.relate_as.new.store c.runs.invariant.shrinks
    (rw (to_z-of_z c.ranges.number) at c.runs.invariant.correct) told

pub returns-in-Failed-clause-answer : goal.returns-in-Failed-clause-answer
returns-in-Failed-clause-answer c =
    let ks = c.args.sum.now.factors.now in
    let ts = c.args.sum.now.terms.now in
    let told : IsAnswerSaid c.args.said AtMost ks ts c.args.number Failed c.runs.store.doms c.relate_as.new.store.doms = rw (c.in-Failed.is, to_z-of_z c.ranges.number) at c.in_ok-relate_as.ensures.answer in
    answer_twice Failed (SaidTruth c.args.said AtMost ks ts c.args.number) (SaidLine c.args.said AtMost ks ts c.args.number) c.args.store.now c.runs.store c.relate_as.new.store c.runs.invariant.shrinks
    (rw (to_z-of_z c.ranges.number) at c.runs.invariant.correct) told
