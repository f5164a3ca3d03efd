use Rattle.std.proofs.Common.{◌≡◌, ℤ, arith, rules, to_z, of_z, w32}
use Rattle.std.specs.Int.{int_max}
use Rattle.std.specs.Prelude.{int_lt}
use Rattle.std.proofs.lemmas.List.Sorted.{IsPartitionPoint-from_clause}
use Rattle.fz_dom.proofs.Ranges.{highs_partition, next_none, next_some}
use Rattle.fz_dom.proofs.rising.next_in.Goals as goal

pub returns-in_err-range : goal.returns-in_err-range
returns-in_err-range c =
    let v = c.args.value in
    let rs = c.args.ranges.now in
    let p = IsPartitionPoint-from_clause (λ (y : ℤ × ℤ). int_lt y.1 v) rs c.partition_point-at.result c.partition_point-at.ensures.partitioned (highs_partition rs v c.requires) (λ a r f' k. search rules) in
    rw c.from_residual.ensures (next_none rs v c.partition_point-at.result c.requires (omega (arith, c.in_err-range.ensures.lookup)) p.0)

pub returns : goal.returns
returns c =
    let v = c.args.value in
    let rs = c.args.ranges.now in
    let r = c.in_ok-range.range.now in
    let at = c.partition_point-at.result in
    let p = IsPartitionPoint-from_clause (λ (y : ℤ × ℤ). int_lt y.1 v) rs at c.partition_point-at.ensures.partitioned (highs_partition rs v c.requires) (λ a r f' k. search rules) in
    let e : to_z w32 (of_z w32 c.max.result) ≡ int_max r.0 v = search rules in
    let inside = c.in_ok-range.ensures.lookup.3 in
    rw e (next_some rs v at r c.requires inside.0 p.0 p.1 inside.1)
