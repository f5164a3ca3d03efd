use Rattle.std.proofs.Common.{arith, rules}
use Rattle.std.proofs.lemmas.Bool.{leb-true, leb-false}
use Rattle.std.proofs.lemmas.List.Sorted.{IsPartitionPoint-from_clause, IsPartitionedBy-leb}
use Rattle.std.specs.Prelude.{slice_index_or}
use lib.Dec.{leb}
use Rattle.fz_model.specs.Groups.{Group}
use Rattle.fz_model.proofs.Numbered.{AreBefore, rising, some_group}
use Rattle.fz_model.proofs.constraints.place_of.Goals as goal

pub returns : goal.returns
returns c =
    let gs = c.args.groups.now in
    let n = c.args.number in
    let place = c.partition_point.result in
    let p = IsPartitionPoint-from_clause (λ (g : Group). leb g.end n) gs place c.partition_point.ensures.partitioned (IsPartitionedBy-leb (λ (g : Group). g.end) gs n (rising 0 c.args.all gs c.requires.ends)) (λ a r f' k. search rules) in
    let before : AreBefore gs place n = λ j d l. leb-true (slice_index_or gs j d).end n (p.0 j d (omega arith) l) in
    let inside = some_group 0 c.args.all n place gs c.requires.ends (omega arith) c.requires.inside before in
    record { inside = inside; before = before; beyond = λ d. leb-false (slice_index_or gs place d).end n (p.1 place d (omega arith) inside) }
