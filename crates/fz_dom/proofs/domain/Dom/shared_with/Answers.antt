use Rattle.std.proofs.Common.{◌≡◌, ◌∙◌, [], refl, sym, to_z, of_z, w32, arith, rules}
use Rattle.std.specs.Prelude.{◌-ℤ◌}
use Rattle.std.proofs.lemmas.Int.{ints}
use Rattle.std.proofs.lemmas.Bool.Decides.{nat_tests}
use Rattle.std.proofs.lemmas.Result.{IfOk-weaker}
use Rattle.std.proofs.Math.Facts.{to_z-of_z}
use Rattle.fz_sets.specs.Sets.{IsInSet}
use Rattle.fz_dom.specs.Heads.{head_set}
use Rattle.fz_dom.specs.Wide.{IsPart}
use Rattle.fz_dom.proofs.Kept.{seen, small_ranges, nil_of, low_high, filled_of}
use Rattle.fz_dom.proofs.Windows.{part_from, one_range}
use Rattle.fz_dom.proofs.domain.Dom.shared_with.Goals as goal

pub returns-then-is_empty-clause-part : goal.returns-then-is_empty-clause-part
returns-then-is_empty-clause-part c =
    let h = c.self.inside.head in
    let rest = c.self.inside.rest.items in
    let d = c.args.self.now in
    let ts = c.args.theirs.now in
    let fits = c.ranges.shift in
    let e : rest ≡ [] = nil_of rest (let t = c.if-is_empty.true in grind (arith, nat_tests)) in
    let g : head_set h ≡ d = sym (small_ranges h rest e) ∙ c.self.view_is in
    let one = one_range h d (seen h rest d c.self.invariant c.self.view_is) g c.requires.wide in
    let low : to_z w32 (of_z w32 h.low) ≡ h.low = search rules in
    let high : to_z w32 (of_z w32 h.high) ≡ h.high = search rules in
    IfOk-weaker c.shared.result _ (λ v. IsPart (λ x. IsInSet ts (x -ℤ c.args.shift)) d v.items)
    (λ v p. part_from ts ts _ d v.items _ c.args.shift refl (rw (low, high) one) (to_z-of_z fits) p) c.shared.ensures

pub shared-requires-clause-within : goal.shared-requires-clause-within
shared-requires-clause-within c =
    let h = c.self.inside.head in
    let rest = c.self.inside.rest.items in
    let d = c.args.self.now in
    let f = seen h rest d c.self.invariant c.self.view_is in
    let q = c.requires.wide in
    let l = low_high h d f (filled_of d (omega (arith, ints))) in
    let l0 = l.0 in let l1 = l.1 in let l2 = l.2 in
    ((omega (arith, ints), omega (arith, ints)), (omega (arith, ints), omega (arith, ints)), tt)
