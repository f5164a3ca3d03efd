use Rattle.std.proofs.Common.{◌≡◌, ◌∙◌, List, pos, rules, get_or, subst, arith}
use Rattle.std.proofs.Math.Facts.{to_z-of_z}
use Rattle.std.specs.Prelude.{slice_get, Some}
use Rattle.std.proofs.lemmas.Option.{slice_get-get_or}
use mir.Val.{SFits}
use mir.Syntax.{w32}
use Rattle.fz_bits.specs.Windows.{IsBit}
use Rattle.fz_bits.proofs.Windows.{within_window}
use Rattle.fz_column.specs.declared.packed.Numbered.{Numbered}
use Rattle.fz_column.proofs.Packing.{numbers_none, numbers_more, numbers_passed, numbers_all}
use Rattle.fz_column.proofs.packed.Packed.numbers_within.Goals as goal

pub loop-numbered-init : goal.loop-numbered-init
loop-numbered-init c =
    let fits : SFits w32 c.args.window.base = search rules in
    record {
      base = rw (to_z-of_z fits) at c.none-numbers.ensures.base;
      numbers = numbers_none c.args.self.now c.args.rows.now (λ n. IsBit c.args.window.base c.args.window.bits n) (λ n. IsBit c.args.window.base c.none-numbers.result.bits n)
          (rw (to_z-of_z fits) at c.none-numbers.ensures.numbers);
    }

pub words_of-requires : goal.words_of-requires
words_of-requires c =
    let xs = c.deref-numbered-items.result.now in
    let k = c.loop-numbered.numbered-index in
    let none : Numbered = record { number = pos 0; first = 0 } in
    let x = get_or xs k none in
    let at : slice_get c.args.self.now.numbers.items k ≡ Some x =
    subst (λ (l : List Numbered). slice_get l k ≡ Some x) c.deref-numbered-items.ensures.value (slice_get-get_or xs k none c.loop-numbered-test.true) in
    c.requires.whole k x at

pub meeting-requires : goal.meeting-requires
meeting-requires c =
    let size = c.words_of.ensures.size in
    let width = c.requires.width in
    omega (arith, size, width)

pub with-numbers-requires-clause-low : goal.with-numbers-requires-clause-low
with-numbers-requires-clause-low c =
    let xs = c.deref-numbered-items.result.now in
    let x = get_or xs c.loop-numbered.numbered-index (record { number = pos 0; first = 0 }) in
    let fits : SFits w32 x.number = search rules in
    let has = rw (to_z-of_z fits) at c.has.ensures in
    rw (c.loop-numbered.invariant.base, to_z-of_z fits) (within_window c.args.window.base x.number c.args.window.bits (has.0 c.if-not-has.false)).0

pub with-numbers-requires-clause-high : goal.with-numbers-requires-clause-high
with-numbers-requires-clause-high c =
    let xs = c.deref-numbered-items.result.now in
    let x = get_or xs c.loop-numbered.numbered-index (record { number = pos 0; first = 0 }) in
    let fits : SFits w32 x.number = search rules in
    let has = rw (to_z-of_z fits) at c.has.ensures in
    rw (c.loop-numbered.invariant.base, to_z-of_z fits) (within_window c.args.window.base x.number c.args.window.bits (has.0 c.if-not-has.false)).1

pub loop-numbered-preserved-then-not-has : goal.loop-numbered-preserved-then-not-has
loop-numbered-preserved-then-not-has c =
    let xs = c.deref-numbered-items.result.now in
    let k = c.loop-numbered.numbered-index in
    let none : Numbered = record { number = pos 0; first = 0 } in
    let x = get_or xs k none in
    let at : slice_get c.args.self.now.numbers.items k ≡ Some x =
    subst (λ (l : List Numbered). slice_get l k ≡ Some x) c.deref-numbered-items.ensures.value (slice_get-get_or xs k none c.loop-numbered-test.true) in
    let fits : SFits w32 x.number = search rules in
    let has = rw (to_z-of_z fits) at c.has.ensures in
    record {
      base = c.loop-numbered.invariant.base;
      numbers = numbers_passed c.args.self.now c.args.rows.now (λ n. IsBit c.args.window.base c.args.window.bits n) (λ n. IsBit c.args.window.base c.loop-numbered.numbers.bits n) k x
          at (λ is some. absurd (let yes = has.1 is in let no = c.if-not-has.true in cc (yes, no))) c.loop-numbered.invariant.numbers;
    }

pub loop-numbered-preserved : goal.loop-numbered-preserved
loop-numbered-preserved c =
    let xs = c.deref-numbered-items.result.now in
    let k = c.loop-numbered.numbered-index in
    let none : Numbered = record { number = pos 0; first = 0 } in
    let x = get_or xs k none in
    let at : slice_get c.args.self.now.numbers.items k ≡ Some x =
    subst (λ (l : List Numbered). slice_get l k ≡ Some x) c.deref-numbered-items.ensures.value (slice_get-get_or xs k none c.loop-numbered-test.true) in
    let fits : SFits w32 x.number = search rules in
    let has = rw (to_z-of_z fits) at c.has.ensures in
    let met = rw c.words_of.ensures.words at c.in-Some.ensures in
    record {
      base = c.with-numbers.ensures.base ∙ c.loop-numbered.invariant.base;
      numbers = numbers_more c.args.self.now c.args.rows.now (λ n. IsBit c.args.window.base c.args.window.bits n) (λ n. IsBit c.args.window.base c.loop-numbered.numbers.bits n)
          (λ n. IsBit c.args.window.base c.with-numbers.result.bits n) k x at (has.0 c.if-not-has.false) (met.0, met.1, met.2)
          (rw (c.loop-numbered.invariant.base, to_z-of_z fits) at c.with-numbers.ensures.numbers) c.loop-numbered.invariant.numbers;
    }

pub loop-numbered-preserved-in_default : goal.loop-numbered-preserved-in_default
loop-numbered-preserved-in_default c =
    let xs = c.deref-numbered-items.result.now in
    let k = c.loop-numbered.numbered-index in
    let none : Numbered = record { number = pos 0; first = 0 } in
    let x = get_or xs k none in
    let at : slice_get c.args.self.now.numbers.items k ≡ Some x =
    subst (λ (l : List Numbered). slice_get l k ≡ Some x) c.deref-numbered-items.ensures.value (slice_get-get_or xs k none c.loop-numbered-test.true) in
    let missed = rw c.words_of.ensures.words at c.in_default.ensures in
    record {
      base = c.loop-numbered.invariant.base;
      numbers = numbers_passed c.args.self.now c.args.rows.now (λ n. IsBit c.args.window.base c.args.window.bits n) (λ n. IsBit c.args.window.base c.loop-numbered.numbers.bits n) k x
          at (λ is some. missed some.0 some.1 some.2) c.loop-numbered.invariant.numbers;
    }

pub returns-clause-base : goal.returns-clause-base
returns-clause-base c = c.loop-numbered.invariant.base

pub returns-clause-numbers : goal.returns-clause-numbers
returns-clause-numbers c =
    let past = c.loop-numbered-test.false in
    numbers_all c.args.self.now c.args.rows.now (λ n. IsBit c.args.window.base c.args.window.bits n) (λ n. IsBit c.args.window.base c.loop-numbered.numbers.bits n)
    c.loop-numbered.numbered-index (omega (arith, past)) c.loop-numbered.invariant.numbers
