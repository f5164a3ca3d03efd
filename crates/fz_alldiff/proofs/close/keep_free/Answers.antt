use Rattle.std.proofs.Common.{◌∙◌, refl, arith}
use Rattle.std.proofs.lemmas.Option.{slice_get-get_or}
use Rattle.fz_bits.specs.Windows.{IsBit}
use Rattle.fz_prop.proofs.Twice.{shrinks_twice}
use Rattle.fz_alldiff.proofs.Filling.{filling_none, correct_more, filling_rest, filling_fixed, never_filled, apart_now, apart_last}
use Rattle.fz_alldiff.proofs.close.keep_free.Goals.{in-Fixed, in-Rest}
use Rattle.fz_alldiff.proofs.close.keep_free.Goals as goal

pub returns-in_err-keep_one-clause-shrinks : goal.returns-in_err-keep_one-clause-shrinks
returns-in_err-keep_one-clause-shrinks c =
    shrinks_twice c.args.store.now c.loop-term.store c.keep_one.new.store c.loop-term.invariant.filling.shrinks c.in_err-keep_one.ensures.shrinks

pub returns-in_err-keep_one-clause-correct : goal.returns-in_err-keep_one-clause-correct
returns-in_err-keep_one-clause-correct c =
    correct_more c.args.terms.now (λ n. IsBit c.args.free.base c.args.free.bits n) c.args.store.now c.loop-term.store c.keep_one.new.store (λ n. IsBit c.args.free.base c.loop-term.left.bits n) c.loop-term.has_fixed c.loop-term.term-index _
    c.requires.terms (slice_get-get_or c.args.terms.now c.loop-term.term-index _ c.loop-term-test.true) (rw c.loop-term.invariant.base at c.in_err-keep_one.ensures.within) c.loop-term.invariant.filling

pub returns-in-Wiped-clause-shrinks : goal.returns-in-Wiped-clause-shrinks
returns-in-Wiped-clause-shrinks c =
    shrinks_twice c.args.store.now c.loop-term.store c.keep_one.new.store c.loop-term.invariant.filling.shrinks c.in_ok-keep_one.ensures.shrinks

pub returns-in-Wiped-clause-correct : goal.returns-in-Wiped-clause-correct
returns-in-Wiped-clause-correct c =
    correct_more c.args.terms.now (λ n. IsBit c.args.free.base c.args.free.bits n) c.args.store.now c.loop-term.store c.keep_one.new.store (λ n. IsBit c.args.free.base c.loop-term.left.bits n) c.loop-term.has_fixed c.loop-term.term-index _
    c.requires.terms (slice_get-get_or c.args.terms.now c.loop-term.term-index _ c.loop-term-test.true) (rw c.loop-term.invariant.base at c.in_ok-keep_one.ensures.within) c.loop-term.invariant.filling

pub returns-in-Wiped-clause-answer : goal.returns-in-Wiped-clause-answer
returns-in-Wiped-clause-answer c =
    never_filled c.args.terms.now (λ n. IsBit c.args.free.base c.args.free.bits n) c.args.store.now c.loop-term.store c.keep_one.new.store (λ n. IsBit c.args.free.base c.loop-term.left.bits n) (λ n. IsBit c.args.free.base c.keep_one.new.free.bits n) c.loop-term.has_fixed
    c.loop-term.term-index _ c.requires.terms (slice_get-get_or c.args.terms.now c.loop-term.term-index _ c.loop-term-test.true)
    (rw (c.in-Wiped.is, c.loop-term.invariant.base) at c.in_ok-keep_one.ensures.kept) c.loop-term.invariant.filling

pub loop-term-init : goal.loop-term-init
loop-term-init c = record {
  base = refl;
  filling = filling_none c.args.terms.now (λ n. IsBit c.args.free.base c.args.free.bits n) c.args.store.now c.doms.ensures.store.domains c.requires.free;
}

pub loop-term-preserved : goal.loop-term-preserved
loop-term-preserved c =
    let base = c.in_ok-keep_one.ensures.base ∙ c.loop-term.invariant.base in
    elim c.match-branch-2.branch [
      | in-Fixed w ↦ rw w.has_fixed-is (record {
        base = base;
        filling =
            filling_fixed c.args.terms.now (λ n. IsBit c.args.free.base c.args.free.bits n) c.args.store.now c.loop-term.store c.keep_one.new.store (λ n. IsBit c.args.free.base c.loop-term.left.bits n) (λ n. IsBit c.args.free.base c.keep_one.new.free.bits n) c.loop-term.has_fixed
            c.loop-term.term-index _ c.requires.terms (slice_get-get_or c.args.terms.now c.loop-term.term-index _ c.loop-term-test.true)
            c.doms-in-loop-term.ensures.store.domains c.in_ok-keep_one.ensures.shrinks (rw c.loop-term.invariant.base at c.in_ok-keep_one.ensures.within)
            (rw (w.in-Fixed.is, c.loop-term.invariant.base) at c.in_ok-keep_one.ensures.kept) c.loop-term.invariant.filling;
      })
      | in-Rest w ↦ rw w.has_fixed-is (record {
        base = base;
        filling =
            filling_rest c.args.terms.now (λ n. IsBit c.args.free.base c.args.free.bits n) c.args.store.now c.loop-term.store c.keep_one.new.store (λ n. IsBit c.args.free.base c.loop-term.left.bits n) (λ n. IsBit c.args.free.base c.keep_one.new.free.bits n) c.loop-term.has_fixed
            c.loop-term.term-index _ c.requires.terms (slice_get-get_or c.args.terms.now c.loop-term.term-index _ c.loop-term-test.true)
            c.doms-in-loop-term.ensures.store.domains c.in_ok-keep_one.ensures.shrinks (rw c.loop-term.invariant.base at c.in_ok-keep_one.ensures.within)
            (rw (w.in-Rest.is, c.loop-term.invariant.base) at c.in_ok-keep_one.ensures.kept) c.loop-term.invariant.filling;
      })
    ]

pub returns-else-has_fixed-clause-answer : goal.returns-else-has_fixed-clause-answer
returns-else-has_fixed-clause-answer c =
    apart_now c.args.terms.now (λ n. IsBit c.args.free.base c.args.free.bits n) c.args.store.now c.loop-term.store (λ n. IsBit c.args.free.base c.loop-term.left.bits n) c.loop-term.has_fixed c.loop-term.term-index
    (let test = c.loop-term-test.false in omega (arith, test)) c.if-has_fixed.false c.requires.free c.loop-term.invariant.filling

pub returns-then-has_fixed-clause-last : goal.returns-then-has_fixed-clause-last
returns-then-has_fixed-clause-last c = λ not one.
    apart_last c.args.terms.now (λ n. IsBit c.args.free.base c.args.free.bits n) c.args.store.now c.loop-term.store (λ n. IsBit c.args.free.base c.loop-term.left.bits n) c.loop-term.has_fixed c.loop-term.term-index
    (let test = c.loop-term-test.false in omega (arith, test)) c.requires.terms c.requires.free c.loop-term.invariant.filling one

pub returns-else-has_fixed-clause-last : goal.returns-else-has_fixed-clause-last
returns-else-has_fixed-clause-last c = λ not one.
    apart_last c.args.terms.now (λ n. IsBit c.args.free.base c.args.free.bits n) c.args.store.now c.loop-term.store (λ n. IsBit c.args.free.base c.loop-term.left.bits n) c.loop-term.has_fixed c.loop-term.term-index
    (let test = c.loop-term-test.false in omega (arith, test)) c.requires.terms c.requires.free c.loop-term.invariant.filling one
