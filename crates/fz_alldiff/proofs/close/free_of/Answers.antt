use Rattle.std.proofs.Common.{◌∙◌, refl, arith, rules}
use Rattle.std.proofs.lemmas.Int.{ints}
use Rattle.std.proofs.lemmas.Option.{slice_get-get_or}
use Rattle.std.proofs.Math.Facts.{to_z-of_z}
use mir.Val.{SFits}
use mir.Syntax.{w32}
use Rattle.fz_bits.specs.Windows.{IsBit}
use Rattle.fz_strength.specs.Domains.{term_set}
use Rattle.fz_alldiff.proofs.Clearing.{has_only}
use Rattle.fz_alldiff.proofs.Freeing.{free_first, free_more, free_passed, free_all, never_free, open_first, open_passed, open_more, open_all, none_here}
use Rattle.fz_alldiff.proofs.close.free_of.Goals.{in-Some+in_ok-numbers-in-Some, in-None}
use Rattle.fz_alldiff.proofs.close.free_of.Goals as goal

pub loop-term-init : goal.loop-term-init
loop-term-init c =
    let low = c.args.span.low in
    let fits_low : SFits w32 low = search rules in
    record {
      base = rw (to_z-of_z fits_low) at c.all-numbers.ensures.base;
      free = free_first c.args.terms.now c.args.store.now.doms low c.args.span.high (λ n. IsBit low c.all-numbers.result.bits n) c.requires.span.1
          (rw (to_z-of_z fits_low) at c.all-numbers.ensures.numbers);
      unfixed = open_first c.args.terms.now c.args.store.now.doms;
    }

pub returns-clause-free : goal.returns-clause-free
returns-clause-free c =
    free_all c.args.terms.now c.args.store.now.doms c.args.span.low c.args.span.high (λ n. IsBit c.args.span.low c.loop-term.numbers.bits n) c.loop-term.term-index c.requires.between
    (let test = c.loop-term-test.false in omega (arith, test)) c.loop-term.invariant.free

pub returns-clause-unfixed : goal.returns-clause-unfixed
returns-clause-unfixed c =
    open_all c.args.terms.now c.args.store.now.doms c.loop-term.unfixed c.loop-term.term-index
    (let test = c.loop-term-test.false in omega (arith, test)) c.loop-term.invariant.unfixed

pub loop-term-preserved : goal.loop-term-preserved
loop-term-preserved c =
    let xs = c.args.terms.now in
    let ds = c.args.store.now.doms in
    let k = c.loop-term.term-index in
    let low = c.args.span.low in
    let inv = c.loop-term.invariant in
    elim c.match-value_of.branch [
      | in-Some+in_ok-numbers-in-Some w ↦
          let fits : SFits w32 w.in-Some.value = search rules in
          let at = slice_get-get_or xs k _ c.loop-term-test.true in
          let now = rw (to_z-of_z fits, inv.base) at w.in_ok-numbers-in-Some.ensures.taken in
          rw (w.numbers-is, w.unfixed-is)
          (record {
            base = w.in_ok-numbers-in-Some.ensures.base ∙ inv.base;
            free = free_more xs ds low c.args.span.high w.in-Some.value (λ n. IsBit low c.loop-term.numbers.bits n) (λ n. IsBit low w.in_ok-numbers-in-Some.numbers.bits n) k
                (_, at, w.in-Some.ensures) now inv.free;
            unfixed = open_passed xs ds c.loop-term.unfixed k _ at (w.in-Some.value, w.in-Some.ensures) inv.unfixed;
          })
      | in-None w ↦
          let at = slice_get-get_or xs k _ c.loop-term-test.true in
          let none = w.in-None.ensures in
          rw (w.numbers-is, w.unfixed-is)
          (record {
            base = inv.base;
            free = free_passed xs ds low c.args.span.high (λ n. IsBit low c.loop-term.numbers.bits n) k (none_here xs ds k _ at none) inv.free;
            unfixed = open_more xs ds c.loop-term.unfixed k _ at (λ fixed. none fixed.0 fixed.1) inv.unfixed;
          })
    ]

pub taken-requires-clause-low : goal.taken-requires-clause-low
taken-requires-clause-low c =
    let v = c.in-Some.value in
    let fits : SFits w32 v = search rules in
    let at = slice_get-get_or c.args.terms.now c.loop-term.term-index _ c.loop-term-test.true in
    let between = c.requires.between c.loop-term.term-index _ v at (has_only (term_set c.args.store.now.doms _) v c.in-Some.ensures) in
    rw (c.loop-term.invariant.base, to_z-of_z fits) between.0

pub taken-requires-clause-high : goal.taken-requires-clause-high
taken-requires-clause-high c =
    let v = c.in-Some.value in
    let fits : SFits w32 v = search rules in
    let at = slice_get-get_or c.args.terms.now c.loop-term.term-index _ c.loop-term-test.true in
    let between = c.requires.between c.loop-term.term-index _ v at (has_only (term_set c.args.store.now.doms _) v c.in-Some.ensures) in
    let to = between.1 in
    let near = c.requires.span.1 in
    rw (c.loop-term.invariant.base, to_z-of_z fits) (omega (arith, ints, to, near))

pub returns-in_err-numbers-in-Some-clause-none : goal.returns-in_err-numbers-in-Some-clause-none
returns-in_err-numbers-in-Some-clause-none c = λ none.
    let v = c.in-Some.value in
    let fits : SFits w32 v = search rules in
    let low = c.args.span.low in
    let missing = rw (to_z-of_z fits, c.loop-term.invariant.base) at (c.in_err-numbers-in-Some.ensures.missing refl) in
    never_free c.args.terms.now c.args.store.now.doms low c.args.span.high v (λ n. IsBit low c.loop-term.numbers.bits n) c.loop-term.term-index c.requires.terms c.requires.between
    (_, slice_get-get_or c.args.terms.now c.loop-term.term-index _ c.loop-term-test.true, c.in-Some.ensures) missing c.loop-term.invariant.free
