use Rattle.std.proofs.Common.{arith, rules, refl, ◌<◌, ◌^◌}
use Rattle.std.proofs.lemmas.Int.{ints, clamps}
use Rattle.fz_dom.proofs.Changes.{same_in_bits, low_within}
use Rattle.fz_dom.proofs.Changes.{run_some}
use Rattle.fz_dom.proofs.head.Head.in_bits.Goals as goal

pub returns-clause-whole : goal.returns-clause-whole
returns-clause-whole c =
    let h = c.args.self in
    let r = c.requires in
    let p = low_within h r.whole r.some in
    let f = p.0.0 in let g = p.0.1 in let le = p.1 in let k = p.2.1 in let n = r.narrow in
    let q : c.run_of-bits.result < 2 ^ 64 = search rules in
    (same_in_bits h _ c.abs_diff.result c.abs_diff-2.result r.whole r.plain r.some (search rules) (search rules) refl
    (omega (arith, ints, clamps)) (omega (arith, ints, clamps)) q (omega (arith, ints, clamps)) (omega (arith, ints, clamps)) (omega (arith, ints, clamps)) c.run_of-bits.ensures).0

pub returns-clause-same : goal.returns-clause-same
returns-clause-same c =
    let h = c.args.self in
    let r = c.requires in
    let p = low_within h r.whole r.some in
    let f = p.0.0 in let g = p.0.1 in let le = p.1 in let k = p.2.1 in let n = r.narrow in
    let q : c.run_of-bits.result < 2 ^ 64 = search rules in
    (same_in_bits h _ c.abs_diff.result c.abs_diff-2.result r.whole r.plain r.some (search rules) (search rules) refl
    (omega (arith, ints, clamps)) (omega (arith, ints, clamps)) q (omega (arith, ints, clamps)) (omega (arith, ints, clamps)) (omega (arith, ints, clamps)) c.run_of-bits.ensures).1

pub returns-clause-bits : goal.returns-clause-bits
returns-clause-bits c =
    let h = c.args.self in
    let r = c.requires in
    let p = low_within h r.whole r.some in
    let f = p.0.0 in let g = p.0.1 in let le = p.1 in let k = p.2.1 in let n = r.narrow in
    run_some c.abs_diff.result c.abs_diff-2.result c.run_of-bits.result (omega (arith, ints, clamps)) (omega (arith, ints, clamps)) c.run_of-bits.ensures
