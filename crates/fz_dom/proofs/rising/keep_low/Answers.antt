use Rattle.std.proofs.Common.{◌<◌, ℤ, List, length, refl, take, subst, ap, arith, rules}
use Rattle.std.specs.Prelude.{int_le}
use Rattle.std.proofs.lemmas.Bool.{false≢true}
use Rattle.std.proofs.lemmas.List.Sorted.{IsPartitionPoint-from_clause}
use Rattle.fz_sets.specs.Sets.{AreRanges}
use Rattle.fz_dom.proofs.Lists.{lows_partition, above_from, low_part, low_none, length_take, IsFirstAbove}
use Rattle.fz_dom.proofs.rising.keep_low.Goals as goal

pub returns-in-Some : goal.returns-in-Some
returns-in-Some c =
    let rs = c.args.ranges.now.items in
    let u = c.args.high in
    let n = c.partition_point-count.result in
    let m = c.saturating_sub.result in
    let r = c.in-Some.last.now in
    let h : AreRanges c.as_slice.result.now = rw c.as_slice.ensures c.requires.ranges in
    let p = IsPartitionPoint-from_clause (λ (y : ℤ × ℤ). int_le y.0 u) c.as_slice.result.now n c.partition_point-count.ensures.partitioned (lows_partition c.as_slice.result.now u h) (λ a r f' k. search rules) in
    let f : IsFirstAbove rs u n = subst (λ (l : List (ℤ × ℤ)). IsFirstAbove l u n) c.as_slice.ensures (above_from c.as_slice.result.now u n p.0 p.1) in
    let l : m < length (take n rs) = rw c.truncate.ensures.items at (c.in-Some.ensures.variant.0 refl) in
    let k = length_take n rs c.partition_point-count.ensures.bound c.as_slice.ensures in
    let e = c.saturating_sub.ensures in
    rw c.truncate.ensures.items (low_part rs u n m r r.0 _ c.requires.ranges c.requires.within f (omega arith) (let q = ap length c.as_slice.ensures in omega arith)
    (rw c.truncate.ensures.items at c.in-Some.ensures.value) refl (search rules))

pub returns-in_default : goal.returns-in_default
returns-in_default c =
    let rs = c.args.ranges.now.items in
    let u = c.args.high in
    let n = c.partition_point-count.result in
    let h : AreRanges c.as_slice.result.now = rw c.as_slice.ensures c.requires.ranges in
    let p = IsPartitionPoint-from_clause (λ (y : ℤ × ℤ). int_le y.0 u) c.as_slice.result.now n c.partition_point-count.ensures.partitioned (lows_partition c.as_slice.result.now u h) (λ a r f' k. search rules) in
    let f : IsFirstAbove rs u n = subst (λ (l : List (ℤ × ℤ)). IsFirstAbove l u n) c.as_slice.ensures (above_from c.as_slice.result.now u n p.0 p.1) in
    let k = length_take n rs c.partition_point-count.ensures.bound c.as_slice.ensures in
    let g : c.saturating_sub.result < length (take n rs) → ⊥ = (λ l. false≢true (c.in_default.ensures.variant.1 (rw c.truncate.ensures.items l))) in
    let e = c.saturating_sub.ensures in
    rw c.truncate.ensures.items (low_none rs u n (omega (arith, g)) f)
