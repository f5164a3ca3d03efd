use Rattle.std.proofs.Common.{◌≡◌, ◌∙◌, ◌<◌, ◌^◌, refl, arith, rules}
use Rattle.std.proofs.lemmas.Int.{ints}
use Rattle.std.proofs.Math.Facts.{to_z-of_z}
use mir.Val.{SFits}
use mir.Syntax.{w32}
use Rattle.fz_bits.specs.Windows.{IsBit}
use Rattle.fz_bits.proofs.Windows.{within_window, none_in}
use Rattle.fz_bits.proofs.Words.{positive}
use Rattle.fz_prop.proofs.Partnering.{but_all, but_none, but_more, but_nothing, either_bits, some_bit, no_bits}
use Rattle.fz_prop.proofs.matching.related.Goals as goal

pub numbers-init : goal.numbers-init
numbers-init g c =
    let fits_f : SFits w32 c.args.firsts.base = search rules in
    let fits_s : SFits w32 c.args.seconds.base = search rules in
    record {
      kept_base = rw (to_z-of_z fits_f) at c.none-kept.ensures.base;
      found_base = rw (to_z-of_z fits_s) at c.none-found.ensures.base;
      left_base = refl;
      matching = but_all (g.P.Partners.are_partners c.args.partners.now) (λ n. IsBit c.args.firsts.base c.args.firsts.bits n) (λ m. IsBit c.args.seconds.base c.args.seconds.bits m)
          (λ n. IsBit c.args.firsts.base c.none-kept.result.bits n) (λ m. IsBit c.args.seconds.base c.none-found.result.bits m)
          (rw (to_z-of_z fits_f) at c.none-kept.ensures.numbers) (rw (to_z-of_z fits_s) at c.none-found.ensures.numbers);
    }

pub first-number-requires-clause-some : goal.first-number-requires-clause-some
first-number-requires-clause-some g c = positive c.numbers.left.bits c.numbers-test.true

pub first-number-requires-clause-ceiling : goal.first-number-requires-clause-ceiling
first-number-requires-clause-ceiling g c = let e = c.numbers.invariant.left_base in let high = c.requires.room in omega (arith, ints)

pub without-left-requires-clause-low : goal.without-left-requires-clause-low
without-left-requires-clause-low g c =
    let fits_j : SFits w32 c.first-number.result = search rules in
    rw (to_z-of_z fits_j) (within_window c.numbers.left.base c.first-number.result c.numbers.left.bits c.first-number.ensures.number).0

pub without-left-requires-clause-high : goal.without-left-requires-clause-high
without-left-requires-clause-high g c =
    let fits_j : SFits w32 c.first-number.result = search rules in
    rw (to_z-of_z fits_j) (within_window c.numbers.left.base c.first-number.result c.numbers.left.bits c.first-number.ensures.number).1

pub with-kept-requires-clause-low : goal.with-kept-requires-clause-low
with-kept-requires-clause-low g c =
    let fits_j : SFits w32 c.first-number.result = search rules in
    rw (c.numbers.invariant.kept_base, ← c.numbers.invariant.left_base, to_z-of_z fits_j) (within_window c.numbers.left.base c.first-number.result c.numbers.left.bits c.first-number.ensures.number).0

pub with-kept-requires-clause-high : goal.with-kept-requires-clause-high
with-kept-requires-clause-high g c =
    let fits_j : SFits w32 c.first-number.result = search rules in
    rw (c.numbers.invariant.kept_base, ← c.numbers.invariant.left_base, to_z-of_z fits_j) (within_window c.numbers.left.base c.first-number.result c.numbers.left.bits c.first-number.ensures.number).1

pub numbers-preserved-then-shared-ne0 : goal.numbers-preserved-then-shared-ne0
numbers-preserved-then-shared-ne0 g c =
    let inv = c.numbers.invariant in
    let base = c.args.firsts.base in
    let low = c.args.seconds.base in
    let j = c.first-number.result in
    let fits_j : SFits w32 j = search rules in
    let fits_s : SFits w32 low = search rules in
    let here : IsBit base c.numbers.left.bits j = rw inv.left_base at c.first-number.ensures.number in
    let fits : c.among-shared.result < 2 ^ 64 = search rules in
    record {
      kept_base = c.with-kept.ensures.base ∙ inv.kept_base;
      found_base = to_z-of_z fits_s;
      left_base = c.without-left.ensures.base ∙ inv.left_base;
      matching = but_more (g.P.Partners.are_partners c.args.partners.now) (λ n. IsBit base c.args.firsts.bits n) (λ m. IsBit low c.args.seconds.bits m)
          (λ n. IsBit base c.numbers.left.bits n) (λ n. IsBit base c.without-left.result.bits n)
          (λ n. IsBit base c.numbers.kept.bits n) (λ m. IsBit low c.numbers.found.bits m) (λ m. IsBit low c.among-shared.result m)
          (λ n. IsBit base c.with-kept.result.bits n) (λ m. IsBit low c.either.result m) j here
          (rw (inv.left_base, to_z-of_z fits_j) at c.without-left.ensures.numbers) (rw (to_z-of_z fits_j) at c.among-shared.ensures)
          (some_bit low c.among-shared.result c.if-shared-ne0.true fits)
          (rw (inv.kept_base, to_z-of_z fits_j) at c.with-kept.ensures.numbers)
          (either_bits low c.numbers.found.bits c.among-shared.result c.either.result c.either.ensures) inv.matching;
    }

pub numbers-preserved : goal.numbers-preserved
numbers-preserved g c =
    let inv = c.numbers.invariant in
    let base = c.args.firsts.base in
    let low = c.args.seconds.base in
    let j = c.first-number.result in
    let fits_j : SFits w32 j = search rules in
    record {
      kept_base = inv.kept_base;
      found_base = inv.found_base;
      left_base = c.without-left.ensures.base ∙ inv.left_base;
      matching = but_none (g.P.Partners.are_partners c.args.partners.now) (λ n. IsBit base c.args.firsts.bits n) (λ m. IsBit low c.args.seconds.bits m)
          (λ n. IsBit base c.numbers.left.bits n) (λ n. IsBit base c.without-left.result.bits n)
          (λ n. IsBit base c.numbers.kept.bits n) (λ m. IsBit low c.numbers.found.bits m) j
          (rw (inv.left_base, to_z-of_z fits_j) at c.without-left.ensures.numbers)
          (λ m partner wanted. no_bits low c.among-shared.result m (search rules) (((rw (to_z-of_z fits_j) at c.among-shared.ensures) m).1 (partner, wanted))) inv.matching;
    }

pub numbers-smaller : goal.numbers-smaller
numbers-smaller g c =
    let fits_j : SFits w32 c.first-number.result = search rules in
    let falls = rw (to_z-of_z fits_j) at c.without-left.ensures.falls in
    let less : c.without-left.result.bits < c.numbers.left.bits = falls c.first-number.ensures.number in
    less

pub numbers-smaller-then-shared-ne0 : goal.numbers-smaller-then-shared-ne0
numbers-smaller-then-shared-ne0 g c =
    let fits_j : SFits w32 c.first-number.result = search rules in
    let falls = rw (to_z-of_z fits_j) at c.without-left.ensures.falls in
    let less : c.without-left.result.bits < c.numbers.left.bits = falls c.first-number.ensures.number in
    less

pub returns-clause-first_base : goal.returns-clause-first_base
returns-clause-first_base g c = c.numbers.invariant.kept_base

pub returns-clause-second_base : goal.returns-clause-second_base
returns-clause-second_base g c = c.numbers.invariant.found_base

pub returns-clause-matching : goal.returns-clause-matching
returns-clause-matching g c =
    let base = c.args.firsts.base in
    let low = c.args.seconds.base in
    let none : c.numbers.left.bits ≡ 0 = search rules in
    but_nothing (g.P.Partners.are_partners c.args.partners.now) (λ n. IsBit base c.args.firsts.bits n) (λ m. IsBit low c.args.seconds.bits m)
    (λ n. IsBit base c.numbers.left.bits n) (λ n. IsBit base c.numbers.kept.bits n) (λ m. IsBit low c.numbers.found.bits m)
    (λ n m. none_in base n (rw none at m)) c.numbers.invariant.matching
