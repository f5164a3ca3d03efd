use Rattle.std.proofs.Common.{◌<◌, ◌+◌, ◌-◌, ◌∙◌, ℤ, refl, pos, rules, get_or, arith, length}
use Rattle.std.proofs.Math.Facts.{to_z-of_z}
use Rattle.std.proofs.lemmas.Option.{slice_get-get_or}
use mir.Val.{SFits}
use mir.Syntax.{w32}
use Rattle.fz_bits.specs.Windows.{IsBit}
use Rattle.fz_bits.proofs.Windows.{within_window}
use Rattle.fz_column.specs.declared.supports.Support.{Support}
use Rattle.fz_column.proofs.Windowed.{numbers_none, numbers_passed, numbers_more, none_outside, none_meets, numbers_all}
use Rattle.fz_column.proofs.near.numbers_near.Goals as goal

pub loop-place-init : goal.loop-place-init
loop-place-init c =
    let fits : SFits w32 c.args.window.base = search rules in
    let none = rw (to_z-of_z fits) at c.none-numbers.ensures.numbers in
    record {
      base = rw (to_z-of_z fits) at c.none-numbers.ensures.base;
      numbers = numbers_none c.args.supports.now c.args.rows.now (λ n. IsBit c.args.window.base c.args.window.bits n) (λ n. IsBit c.args.window.base c.none-numbers.result.bits n) none;
    }

pub meets-requires : goal.meets-requires
meets-requires c =
    let xs = c.args.supports.now in
    let k = c.loop-place.place in
    let none : Support = record { number = pos 0; rows = record { word = 0; bits = 0 } } in
    let s = get_or xs k none in
    c.requires.sized s (k, slice_get-get_or xs k none c.loop-place-test.true)

pub with-numbers-requires-clause-low : goal.with-numbers-requires-clause-low
with-numbers-requires-clause-low c =
    let xs = c.args.supports.now in
    let k = c.loop-place.place in
    let none : Support = record { number = pos 0; rows = record { word = 0; bits = 0 } } in
    let s = get_or xs k none in
    let fits : SFits w32 s.number = search rules in
    let has = rw (to_z-of_z fits) at c.has.ensures in
    rw (c.loop-place.invariant.base, to_z-of_z fits) (within_window c.args.window.base s.number c.args.window.bits (has.0 c.if-not-has.false)).0

pub with-numbers-requires-clause-high : goal.with-numbers-requires-clause-high
with-numbers-requires-clause-high c =
    let xs = c.args.supports.now in
    let k = c.loop-place.place in
    let none : Support = record { number = pos 0; rows = record { word = 0; bits = 0 } } in
    let s = get_or xs k none in
    let fits : SFits w32 s.number = search rules in
    let has = rw (to_z-of_z fits) at c.has.ensures in
    rw (c.loop-place.invariant.base, to_z-of_z fits) (within_window c.args.window.base s.number c.args.window.bits (has.0 c.if-not-has.false)).1

pub loop-place-smaller-then-not-has : goal.loop-place-smaller-then-not-has
loop-place-smaller-then-not-has c =
    let test = c.loop-place-test.true in
    let further = c.next_of-place.ensures.further in
    let smaller : length c.args.supports.now - c.next_of-place.result < length c.args.supports.now - c.loop-place.place = omega (arith, test, further) in
    smaller

pub loop-place-smaller-then-meets : goal.loop-place-smaller-then-meets
loop-place-smaller-then-meets c =
    let test = c.loop-place-test.true in
    let further = c.next_of-place-then-meets.ensures.further in
    let smaller : length c.args.supports.now - c.next_of-place-then-meets.result < length c.args.supports.now - c.loop-place.place = omega (arith, test, further) in
    smaller

pub loop-place-preserved-then-not-has : goal.loop-place-preserved-then-not-has
loop-place-preserved-then-not-has c =
    let xs = c.args.supports.now in
    let rows = c.args.rows.now in
    let P : ℤ → Type 0 = λ n. IsBit c.args.window.base c.args.window.bits n in
    let Q : ℤ → Type 0 = λ n. IsBit c.args.window.base c.loop-place.numbers.bits n in
    let k = c.loop-place.place in
    let none : Support = record { number = pos 0; rows = record { word = 0; bits = 0 } } in
    let s = get_or xs k none in
    let test = c.loop-place-test.true in
    let at = slice_get-get_or xs k none test in
    let next = c.next_of-place.ensures in
    let fits : SFits w32 s.number = search rules in
    let has = rw (to_z-of_z fits) at c.has.ensures in
    let further = next.further in
    record {
      base = c.loop-place.invariant.base;
      numbers = numbers_passed xs rows P Q k c.next_of-place.result (omega (arith, further))
          (none_outside xs rows P k c.next_of-place.result s next at (λ is. absurd (let yes = has.1 is in let no = c.if-not-has.true in cc (yes, no)))) c.loop-place.invariant.numbers;
    }

pub loop-place-preserved-then-meets : goal.loop-place-preserved-then-meets
loop-place-preserved-then-meets c =
    let xs = c.args.supports.now in
    let rows = c.args.rows.now in
    let P : ℤ → Type 0 = λ n. IsBit c.args.window.base c.args.window.bits n in
    let Q : ℤ → Type 0 = λ n. IsBit c.args.window.base c.loop-place.numbers.bits n in
    let R : ℤ → Type 0 = λ n. IsBit c.args.window.base c.with-numbers.result.bits n in
    let k = c.loop-place.place in
    let none : Support = record { number = pos 0; rows = record { word = 0; bits = 0 } } in
    let s = get_or xs k none in
    let test = c.loop-place-test.true in
    let at = slice_get-get_or xs k none test in
    let next = c.next_of-place-then-meets.ensures in
    let fits : SFits w32 s.number = search rules in
    let has = rw (to_z-of_z fits) at c.has.ensures in
    record {
      base = c.with-numbers.ensures.base ∙ c.loop-place.invariant.base;
      numbers = numbers_more xs rows P Q R k c.next_of-place-then-meets.result s next at (has.0 c.if-not-has.false) (c.if-meets.ensures.0 refl)
          (rw (c.loop-place.invariant.base, to_z-of_z fits) at c.with-numbers.ensures.numbers) c.loop-place.invariant.numbers;
    }

pub loop-place-preserved : goal.loop-place-preserved
loop-place-preserved c =
    let xs = c.args.supports.now in
    let rows = c.args.rows.now in
    let P : ℤ → Type 0 = λ n. IsBit c.args.window.base c.args.window.bits n in
    let Q : ℤ → Type 0 = λ n. IsBit c.args.window.base c.loop-place.numbers.bits n in
    let k = c.loop-place.place in
    let none : Support = record { number = pos 0; rows = record { word = 0; bits = 0 } } in
    let s = get_or xs k none in
    let at = slice_get-get_or xs k none c.loop-place-test.true in
    record {
      base = c.loop-place.invariant.base;
      numbers = numbers_passed xs rows P Q k (k + 1) (omega arith) (none_meets xs rows P k s at (λ h. cc (c.if-meets.ensures.1 h))) c.loop-place.invariant.numbers;
    }

pub returns-clause-base : goal.returns-clause-base
returns-clause-base c = c.loop-place.invariant.base

pub returns-clause-numbers : goal.returns-clause-numbers
returns-clause-numbers c =
    let past = c.loop-place-test.false in
    numbers_all c.args.supports.now c.args.rows.now (λ n. IsBit c.args.window.base c.args.window.bits n) (λ n. IsBit c.args.window.base c.loop-place.numbers.bits n)
    c.loop-place.place (omega (arith, past)) c.loop-place.invariant.numbers
