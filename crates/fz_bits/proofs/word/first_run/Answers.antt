use Rattle.std.proofs.Common.{◌<◌, ◌^◌, refl, arith, rules}
use Rattle.fz_bits.proofs.Words.{first_bit, whole_run, part_run}
use Rattle.fz_bits.proofs.word.first_run.Goals as goal

pub overflow_sub-result : goal.overflow_sub-result
overflow_sub-result c =
    let q : c.args.word < 2 ^ 64 = search rules in
    let r = (part_run c.args.word c.lowered-rest.result _ c.requires q c.lowered-rest.type_inv refl c.lowered-rest.ensures c.if-rest.false).0 in
    let e = c.trailing_ones.ensures in
    omega arith

pub returns-then-rest-clause-run : goal.returns-then-rest-clause-run
returns-then-rest-clause-run c = λ i a b.
    let q : c.args.word < 2 ^ 64 = search rules in
    (whole_run c.args.word c.lowered-rest.result _ q c.lowered-rest.ensures c.if-rest.true).1 i b

pub returns-clause-first : goal.returns-clause-first
returns-clause-first c =
    let q : c.args.word < 2 ^ 64 = search rules in
    let r = (part_run c.args.word c.lowered-rest.result _ c.requires q c.lowered-rest.type_inv refl c.lowered-rest.ensures c.if-rest.false).1 in
    rw c.trailing_ones.ensures r.order

pub returns-clause-last : goal.returns-clause-last
returns-clause-last c =
    let q : c.args.word < 2 ^ 64 = search rules in
    let r = (part_run c.args.word c.lowered-rest.result _ c.requires q c.lowered-rest.type_inv refl c.lowered-rest.ensures c.if-rest.false).1 in
    rw c.trailing_ones.ensures r.below

pub returns-clause-run : goal.returns-clause-run
returns-clause-run c =
    let q : c.args.word < 2 ^ 64 = search rules in
    let r = (part_run c.args.word c.lowered-rest.result _ c.requires q c.lowered-rest.type_inv refl c.lowered-rest.ensures c.if-rest.false).1 in
    rw c.trailing_ones.ensures r.run

pub returns-clause-none_before : goal.returns-clause-none_before
returns-clause-none_before c =
    let q : c.args.word < 2 ^ 64 = search rules in
    (first_bit c.args.word c.requires q).2

pub returns-clause-none_after : goal.returns-clause-none_after
returns-clause-none_after c =
    let q : c.args.word < 2 ^ 64 = search rules in
    let r = (part_run c.args.word c.lowered-rest.result _ c.requires q c.lowered-rest.type_inv refl c.lowered-rest.ensures c.if-rest.false).1 in
    rw c.trailing_ones.ensures r.none_after
