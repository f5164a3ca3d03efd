use Rattle.std.proofs.Common.{◌≡◌, ◌<◌, ◌≤◌, length, arith, rules}
use Rattle.std.proofs.lemmas.Int.{ints}
use Rattle.std.proofs.lemmas.Result.{IfOk-weaker}
use Rattle.std.proofs.Math.Facts.{to_z-of_z}
use mir.Val.{SFits, to_z, of_z}
use mir.Syntax.{w32}
use Rattle.std.specs.Prelude.{ℤ, List, ◌+ℤ◌, pos}
use Rattle.fz_sets.specs.Sets.{AreOneSet}
use Rattle.fz_rel.specs.Reified.{AreOthers}
use Rattle.fz_rel.proofs.Outside.{gaps_start, gaps_more, gaps_within, gaps_all, high_within}
use Rattle.fz_rel.proofs.others.others_of.Goals as goal

pub loop-i-init : goal.loop-i-init
loop-i-init c = rw c.new-gaps.ensures.items (gaps_start c.args.set.now c.range_count-i-end.ensures.domain.1)

pub overflow_add-from : goal.overflow_add-from
overflow_add-from c =
    let fits : SFits w32 c.range_at-low.result.1 = search rules in
    let inside : c.loop-i.i < length c.args.set.now = let count = c.range_count-i-end.ensures.count in let test = c.loop-i-test.true in omega arith in
    let within = high_within c.args.set.now c.loop-i.i c.range_at-low.result c.range_count-i-end.ensures.domain.1 inside c.range_at-low.ensures.range in
    let least = within.0 in let most = within.1 in
    let next : SFits w32 (c.range_at-low.result.1 +ℤ pos 1) = omega (arith, ints, least, most) in
    rw (to_z-of_z fits) next

pub loop-i-preserved : goal.loop-i-preserved
loop-i-preserved c =
    let low : SFits w32 c.range_at-low.result.0 = search rules in
    let high : SFits w32 c.range_at-low.result.1 = search rules in
    let inside : c.loop-i.i < length c.args.set.now = let count = c.range_count-i-end.ensures.count in let test = c.loop-i-test.true in omega arith in
    let within = high_within c.args.set.now c.loop-i.i c.range_at-low.result c.range_count-i-end.ensures.domain.1 inside c.range_at-low.ensures.range in
    let least = within.0 in let most = within.1 in
    let next : SFits w32 (c.range_at-low.result.1 +ℤ pos 1) = omega (arith, ints, least, most) in
    let after : to_z w32 (of_z w32 (to_z w32 (of_z w32 c.range_at-low.result.1) +ℤ pos 1)) ≡ c.range_at-low.result.1 +ℤ pos 1 = rw (to_z-of_z high) (to_z-of_z next) in
    rw c.in_ok-push_gap.ensures (gaps_more c.args.set.now c.loop-i.gaps.items c.loop-i.i _ _ _ c.range_at-low.result
    c.range_count-i-end.ensures.domain.0 c.range_count-i-end.ensures.domain.1 inside c.range_at-low.ensures.range (to_z-of_z low) after c.loop-i.invariant)

pub from_ranges-requires : goal.from_ranges-requires
from_ranges-requires c = rw (c.deref.ensures.value, c.in_ok-push_gap-2.ensures) (gaps_within c.args.set.now c.loop-i.gaps.items c.loop-i.i _ c.loop-i.invariant)

pub returns : goal.returns
returns c =
    let past : length c.args.set.now ≤ c.loop-i.i = let count = c.range_count-i-end.ensures.count in let test = c.loop-i-test.false in omega arith in
    IfOk-weaker c.from_ranges.result (λ (d : List (ℤ × ℤ)). AreOneSet d c.deref.result.now) (λ (d : List (ℤ × ℤ)). AreOthers c.args.set.now d)
    (λ d same. gaps_all c.args.set.now c.loop-i.gaps.items d c.loop-i.i _ past c.loop-i.invariant (rw (c.deref.ensures.value, c.in_ok-push_gap-2.ensures) at same))
    c.from_ranges.ensures.one_set
