use Rattle.std.proofs.Common.{arith, rules}
use Rattle.std.specs.Prelude.{int_le}
use Rattle.std.proofs.lemmas.Int.{ints}
use Rattle.std.proofs.lemmas.List.Sorted.{IsPartitionPoint-from_clause}
use Rattle.fz_column.specs.declared.supports.Support.{Support}
use Rattle.fz_column.proofs.Filling.{partitioned_to}
use Rattle.fz_column.proofs.supports.count_to.Goals as goal

pub returns-clause-to : goal.returns-clause-to
returns-clause-to c = λ k d past below.
    let xs = c.args.supports.now in
    let value = c.args.value in
    let n = c.partition_point.result in
    let p = IsPartitionPoint-from_clause (λ (s : Support). int_le s.number value) xs n c.partition_point.ensures.partitioned (partitioned_to xs value c.requires) (λ a r f' k. search rules) in
    let test = p.0 k d past below in
    grind (arith, ints)

pub returns-clause-above : goal.returns-clause-above
returns-clause-above c = λ k d past below.
    let xs = c.args.supports.now in
    let value = c.args.value in
    let n = c.partition_point.result in
    let p = IsPartitionPoint-from_clause (λ (s : Support). int_le s.number value) xs n c.partition_point.ensures.partitioned (partitioned_to xs value c.requires) (λ a r f' k. search rules) in
    let test = p.1 k d past below in
    grind (arith, ints)
