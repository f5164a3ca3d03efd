use Rattle.std.proofs.Common.{◌<◌, ℤ, List, length, refl, drop, subst, arith, rules}
use Rattle.std.specs.Prelude.{int_lt}
use Rattle.std.proofs.lemmas.Bool.{false≢true}
use Rattle.std.proofs.lemmas.List.Sorted.{IsPartitionPoint-from_clause}
use Rattle.fz_sets.specs.Sets.{AreRanges}
use Rattle.fz_dom.proofs.Ranges.{highs_partition}
use Rattle.fz_dom.proofs.Lists.{reaching_from, high_first, high_none, IsFirstReaching}
use Rattle.fz_dom.proofs.rising.keep_high.Goals as goal

pub returns-in-Some : goal.returns-in-Some
returns-in-Some c =
    let rs = c.args.ranges.now.items in
    let u = c.args.low in
    let n = c.partition_point-from.result in
    let r = c.in-Some.first.now in
    let h : AreRanges c.as_slice.result.now = rw c.as_slice.ensures c.requires.ranges in
    let p = IsPartitionPoint-from_clause (λ (y : ℤ × ℤ). int_lt y.1 u) c.as_slice.result.now n c.partition_point-from.ensures.partitioned (highs_partition c.as_slice.result.now u h) (λ a r f' k. search rules) in
    let f : IsFirstReaching rs u n = subst (λ (l : List (ℤ × ℤ)). IsFirstReaching l u n) c.as_slice.ensures (reaching_from c.as_slice.result.now u n p.0 p.1) in
    let l : 0 < length (drop n rs) = rw c.keep_places_from.ensures at (c.in-Some.ensures.variant.0 refl) in
    rw c.keep_places_from.ensures (high_first rs u n r _ r.1 c.requires.ranges c.requires.within f l
    (rw c.keep_places_from.ensures at c.in-Some.ensures.value) (search rules) refl)

pub returns-in_default : goal.returns-in_default
returns-in_default c =
    let rs = c.args.ranges.now.items in
    let u = c.args.low in
    let n = c.partition_point-from.result in
    let h : AreRanges c.as_slice.result.now = rw c.as_slice.ensures c.requires.ranges in
    let p = IsPartitionPoint-from_clause (λ (y : ℤ × ℤ). int_lt y.1 u) c.as_slice.result.now n c.partition_point-from.ensures.partitioned (highs_partition c.as_slice.result.now u h) (λ a r f' k. search rules) in
    let f : IsFirstReaching rs u n = subst (λ (l : List (ℤ × ℤ)). IsFirstReaching l u n) c.as_slice.ensures (reaching_from c.as_slice.result.now u n p.0 p.1) in
    let g : 0 < length (drop n rs) → ⊥ = (λ l. false≢true (c.in_default.ensures.variant.1 (rw c.keep_places_from.ensures l))) in
    rw c.keep_places_from.ensures (high_none rs u n (omega (arith, g)) f)
