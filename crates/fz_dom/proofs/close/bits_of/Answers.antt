use Rattle.std.proofs.Common.{◌≡◌, ◌<◌, ◌≤ℤ◌, ◌+ℤ◌, ℕ, ℤ, rules, pos, get_or, to_z, of_z, w32, subst}
use Rattle.std.specs.Prelude.{◌↔◌}
use Rattle.std.specs.Int.{bit_at}
use Rattle.std.proofs.lemmas.List.{drop_more, drop_all}
use Rattle.fz_dom.specs.Places.{IsBit}
use Rattle.fz_sets.specs.Sets.{IsInSet}
use Rattle.fz_dom.proofs.Gathered.{gathered_none, gathered_more, gathered_all}
use Rattle.fz_dom.proofs.close.bits_of.Goals as goal

pub loop-r-init : goal.loop-r-init
loop-r-init c = gathered_none _ c.args.ranges.now

pub loop-r-preserved : goal.loop-r-preserved
loop-r-preserved c =
    let rs = c.args.ranges.now in
    let k = c.loop-r.r-index in
    let b : ℤ = to_z w32 (of_z w32 c.args.base) in
    let r = get_or rs k (pos 0, pos 0) in
    let between : (i : ℕ) → i < 64 → (bit_at c.in-Some.window i ≡ 1) ↔ ((r.0 ≤ℤ (b +ℤ pos i)) × ((b +ℤ pos i) ≤ℤ r.1)) = search (rules, c.in-Some.ensures.bits) in
    let within : (x : ℤ) → r.0 ≤ℤ x → x ≤ℤ r.1 → (b ≤ℤ x) × (x ≤ℤ (b +ℤ pos 63)) = search (rules, c.in-Some.ensures.inside) in
    gathered_more c.loop-r.bits c.in-Some.window c.either-bits.result b rs k r
    (drop_more rs k (pos 0, pos 0) c.loop-r-test.true) c.either-bits.ensures between within c.loop-r.invariant

pub returns : goal.returns
returns c =
    let b : to_z w32 (of_z w32 c.args.base) ≡ c.args.base = search rules in
    subst (λ (base : ℤ). (x : ℤ) → IsBit base c.loop-r.bits x ↔ IsInSet c.args.ranges.now x) b
    (gathered_all c.loop-r.bits _ c.args.ranges.now c.loop-r.r-index (drop_all c.loop-r.r-index c.args.ranges.now c.loop-r-test.false) c.loop-r.invariant)
