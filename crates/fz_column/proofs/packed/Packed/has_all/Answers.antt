use Rattle.std.proofs.Common.{◌≡◌, List, pos, rules, get_or, subst, arith, to_z, of_z, w32}
use Rattle.std.specs.Prelude.{slice_get, Some, ◌≤ℤ◌, ◌<ℤ◌, ◌+ℤ◌}
use Rattle.std.proofs.lemmas.Int.{ints}
use Rattle.std.proofs.lemmas.Option.{slice_get-get_or}
use Rattle.fz_column.specs.declared.packed.Numbered.{Numbered}
use Rattle.fz_column.proofs.Packing.{met_to, met_next}
use Rattle.fz_column.proofs.packed.Packed.has_all.Goals as goal

pub words_of-requires : goal.words_of-requires
words_of-requires c =
    let xs = c.deref-numbered-items.result.now in
    let k = c.loop-numbered.numbered-index in
    let none : Numbered = record { number = pos 0; first = 0 } in
    let x = get_or xs k none in
    let at : slice_get c.args.self.now.numbers.items k ≡ Some x =
    subst (λ (l : List Numbered). slice_get l k ≡ Some x) c.deref-numbered-items.ensures.value (slice_get-get_or xs k none c.loop-numbered-test.true) in
    c.requires.whole k x at

pub meeting-requires : goal.meeting-requires
meeting-requires c =
    let size = c.words_of.ensures.size in
    let width = c.requires.width in
    omega (arith, size, width)

pub returns-then-next-high : goal.returns-then-next-high
returns-then-next-high c = λ done n above below.
    let xs = c.deref-numbered-items.result.now in
    let k = c.loop-numbered.numbered-index in
    let none : Numbered = record { number = pos 0; first = 0 } in
    let x = get_or xs k none in
    let at : slice_get c.args.self.now.numbers.items k ≡ Some x =
    subst (λ (l : List Numbered). slice_get l k ≡ Some x) c.deref-numbered-items.ensures.value (slice_get-get_or xs k none c.loop-numbered-test.true) in
    let next = to_z w32 c.loop-numbered.next-bits in
    let is : x.number ≡ next = search rules in
    let kept_low : to_z w32 (of_z w32 c.args.low) ≡ c.args.low = search rules in
    let kept_high : to_z w32 (of_z w32 c.args.high) ≡ c.args.high = search rules in
    let met = rw c.words_of.ensures.words at c.in-Some.ensures in
    let past : c.args.high ≤ℤ next = search rules in
    met_to c.args.self.now c.args.rows.now c.args.low c.args.high next k x at is (met.0, met.1, met.2) (rw (kept_low, kept_high) at c.loop-numbered.invariant) n above (omega (arith, ints, below, past))

pub loop-numbered-preserved : goal.loop-numbered-preserved
loop-numbered-preserved c =
    let xs = c.deref-numbered-items.result.now in
    let k = c.loop-numbered.numbered-index in
    let none : Numbered = record { number = pos 0; first = 0 } in
    let x = get_or xs k none in
    let at : slice_get c.args.self.now.numbers.items k ≡ Some x =
    subst (λ (l : List Numbered). slice_get l k ≡ Some x) c.deref-numbered-items.ensures.value (slice_get-get_or xs k none c.loop-numbered-test.true) in
    let next = to_z w32 c.loop-numbered.next-bits in
    let is : x.number ≡ next = search rules in
    let kept_low : to_z w32 (of_z w32 c.args.low) ≡ c.args.low = search rules in
    let kept_high : to_z w32 (of_z w32 c.args.high) ≡ c.args.high = search rules in
    let kept_next : to_z w32 (of_z w32 (next +ℤ pos 1)) ≡ next +ℤ pos 1 = search rules in
    let met = rw c.words_of.ensures.words at c.in-Some.ensures in
    let under : next <ℤ c.args.high = search rules in
    rw (kept_low, kept_high, kept_next)
    (met_next c.args.self.now c.args.rows.now c.args.low c.args.high next k x at is (met.0, met.1, met.2) under (rw (kept_low, kept_high) at c.loop-numbered.invariant))
