use Rattle.std.proofs.Common.{◌≡◌, List, pos, rules, get_or, subst, arith}
use Rattle.std.proofs.Math.Facts.{to_z-of_z}
use Rattle.std.specs.Prelude.{slice_get, Some}
use Rattle.std.proofs.lemmas.Option.{slice_get-get_or}
use mir.Val.{SFits}
use mir.Syntax.{w32}
use Rattle.fz_bits.specs.Windows.{IsBit}
use Rattle.fz_column.specs.declared.packed.Numbered.{Numbered}
use Rattle.fz_column.proofs.Packing.{rows_none, rows_joined, rows_passed, rows_all}
use Rattle.fz_column.proofs.packed.Packed.join_window.Goals as goal

pub loop-numbered-init : goal.loop-numbered-init
loop-numbered-init c = rows_none c.args.self.now (λ n. IsBit c.args.window.base c.args.window.bits n) c.args.rows.now

pub words_of-requires : goal.words_of-requires
words_of-requires c =
    let xs = c.deref-numbered-items.result.now in
    let k = c.loop-numbered.numbered-index in
    let none : Numbered = record { number = pos 0; first = 0 } in
    let x = get_or xs k none in
    let at : slice_get c.args.self.now.numbers.items k ≡ Some x =
    subst (λ (l : List Numbered). slice_get l k ≡ Some x) c.deref-numbered-items.ensures.value (slice_get-get_or xs k none c.loop-numbered-test.true) in
    c.requires.whole k x at

pub join_all-requires : goal.join_all-requires
join_all-requires c =
    let size = c.words_of.ensures.size in
    let width = c.requires.width in
    let long = c.loop-numbered.invariant.size in
    omega (arith, size, width, long)

pub loop-numbered-preserved : goal.loop-numbered-preserved
loop-numbered-preserved c =
    let xs = c.deref-numbered-items.result.now in
    let k = c.loop-numbered.numbered-index in
    let none : Numbered = record { number = pos 0; first = 0 } in
    let x = get_or xs k none in
    let at : slice_get c.args.self.now.numbers.items k ≡ Some x =
    subst (λ (l : List Numbered). slice_get l k ≡ Some x) c.deref-numbered-items.ensures.value (slice_get-get_or xs k none c.loop-numbered-test.true) in
    let fits : SFits w32 x.number = search rules in
    rows_joined c.args.self.now (λ n. IsBit c.args.window.base c.args.window.bits n) c.args.rows.now c.loop-numbered.rows c.join_all.new.rows k x
    at ((rw (to_z-of_z fits) at c.has.ensures).0 c.if-not-has.false) (rw c.words_of.ensures.words at c.join_all.ensures.members)
    c.join_all.ensures.size c.loop-numbered.invariant

pub loop-numbered-preserved-then-not-has : goal.loop-numbered-preserved-then-not-has
loop-numbered-preserved-then-not-has c =
    let xs = c.deref-numbered-items.result.now in
    let k = c.loop-numbered.numbered-index in
    let none : Numbered = record { number = pos 0; first = 0 } in
    let x = get_or xs k none in
    let at : slice_get c.args.self.now.numbers.items k ≡ Some x =
    subst (λ (l : List Numbered). slice_get l k ≡ Some x) c.deref-numbered-items.ensures.value (slice_get-get_or xs k none c.loop-numbered-test.true) in
    let fits : SFits w32 x.number = search rules in
    let has = rw (to_z-of_z fits) at c.has.ensures in
    rows_passed c.args.self.now (λ n. IsBit c.args.window.base c.args.window.bits n) c.args.rows.now c.loop-numbered.rows k x
    at (λ is. absurd (let yes = has.1 is in let no = c.if-not-has.true in cc (yes, no))) c.loop-numbered.invariant

pub returns-clause-rows : goal.returns-clause-rows
returns-clause-rows c =
    let past = c.loop-numbered-test.false in
    rows_all c.args.self.now (λ n. IsBit c.args.window.base c.args.window.bits n) c.args.rows.now c.loop-numbered.rows c.loop-numbered.numbered-index (omega (arith, past)) c.loop-numbered.invariant

pub returns-clause-size : goal.returns-clause-size
returns-clause-size c = c.loop-numbered.invariant.size
