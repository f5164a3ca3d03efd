use Rattle.std.proofs.Common.{◌≡◌, ◌⊎◌, ℤ, List, pos, rules, get_or, subst, arith, to_z, of_z, w32}
use Rattle.std.specs.Prelude.{slice_get, Some, ◌↔◌}
use Rattle.std.proofs.lemmas.Option.{slice_get-get_or}
use Rattle.fz_sets.specs.Sets.{IsInSet}
use Rattle.fz_column.specs.declared.packed.Numbered.{Numbered}
use Rattle.fz_column.proofs.Packing.{numbers_none, numbers_more, numbers_passed, numbers_all}
use Rattle.fz_column.proofs.packed.Packed.numbers_in.Goals as goal

pub loop-numbered-init : goal.loop-numbered-init
loop-numbered-init c = numbers_none c.args.self.now c.args.rows.now (IsInSet c.args.dom.now) (IsInSet c.new-numbers.result) (rw c.new-numbers.ensures (λ n is. is))

pub words_of-requires : goal.words_of-requires
words_of-requires c =
    let xs = c.deref-numbered-items.result.now in
    let k = c.loop-numbered.numbered-index in
    let none : Numbered = record { number = pos 0; first = 0 } in
    let x = get_or xs k none in
    let at : slice_get c.args.self.now.numbers.items k ≡ Some x =
    subst (λ (l : List Numbered). slice_get l k ≡ Some x) c.deref-numbered-items.ensures.value (slice_get-get_or xs k none c.loop-numbered-test.true) in
    c.requires.whole k x at

pub meeting-requires : goal.meeting-requires
meeting-requires c =
    let size = c.words_of.ensures.size in
    let width = c.requires.width in
    omega (arith, size, width)

pub loop-numbered-preserved-then-not-contains : goal.loop-numbered-preserved-then-not-contains
loop-numbered-preserved-then-not-contains c =
    let xs = c.deref-numbered-items.result.now in
    let k = c.loop-numbered.numbered-index in
    let none : Numbered = record { number = pos 0; first = 0 } in
    let x = get_or xs k none in
    let at : slice_get c.args.self.now.numbers.items k ≡ Some x =
    subst (λ (l : List Numbered). slice_get l k ≡ Some x) c.deref-numbered-items.ensures.value (slice_get-get_or xs k none c.loop-numbered-test.true) in
    let kept : to_z w32 (of_z w32 x.number) ≡ x.number = search rules in
    let member = rw kept at c.contains.ensures.member in
    numbers_passed c.args.self.now c.args.rows.now (IsInSet c.args.dom.now) (IsInSet c.loop-numbered.numbers) k x at
    (λ is some. absurd (let yes = member.1 is in let no = c.if-not-contains.true in cc (yes, no))) c.loop-numbered.invariant

pub loop-numbered-preserved-in_default : goal.loop-numbered-preserved-in_default
loop-numbered-preserved-in_default c =
    let xs = c.deref-numbered-items.result.now in
    let k = c.loop-numbered.numbered-index in
    let none : Numbered = record { number = pos 0; first = 0 } in
    let x = get_or xs k none in
    let at : slice_get c.args.self.now.numbers.items k ≡ Some x =
    subst (λ (l : List Numbered). slice_get l k ≡ Some x) c.deref-numbered-items.ensures.value (slice_get-get_or xs k none c.loop-numbered-test.true) in
    let missed = rw c.words_of.ensures.words at c.in_default.ensures in
    numbers_passed c.args.self.now c.args.rows.now (IsInSet c.args.dom.now) (IsInSet c.loop-numbered.numbers) k x at (λ is some. missed some.0 some.1 some.2) c.loop-numbered.invariant

pub loop-numbered-preserved : goal.loop-numbered-preserved
loop-numbered-preserved c =
    let xs = c.deref-numbered-items.result.now in
    let k = c.loop-numbered.numbered-index in
    let none : Numbered = record { number = pos 0; first = 0 } in
    let x = get_or xs k none in
    let at : slice_get c.args.self.now.numbers.items k ≡ Some x =
    subst (λ (l : List Numbered). slice_get l k ≡ Some x) c.deref-numbered-items.ensures.value (slice_get-get_or xs k none c.loop-numbered-test.true) in
    let kept : to_z w32 (of_z w32 x.number) ≡ x.number = search rules in
    let member = rw kept at c.contains.ensures.member in
    let added : (n : ℤ) → IsInSet c.add.new.self n ↔ (IsInSet c.loop-numbered.numbers n ⊎ (n ≡ x.number)) = rw kept at c.in_ok-add.ensures in
    let met = rw c.words_of.ensures.words at c.in-Some.ensures in
    numbers_more c.args.self.now c.args.rows.now (IsInSet c.args.dom.now) (IsInSet c.loop-numbered.numbers) (IsInSet c.add.new.self) k x at (member.0 c.if-not-contains.false) (met.0, met.1, met.2)
    added c.loop-numbered.invariant

pub returns : goal.returns
returns c =
    let past = c.loop-numbered-test.false in
    numbers_all c.args.self.now c.args.rows.now (IsInSet c.args.dom.now) (IsInSet c.loop-numbered.numbers) c.loop-numbered.numbered-index (omega (arith, past)) c.loop-numbered.invariant
