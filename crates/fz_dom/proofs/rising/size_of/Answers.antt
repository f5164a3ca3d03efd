use Rattle.std.proofs.Common.{◌≡◌, pos, ◌-ℤ◌, get_or, arith, rules}
use Rattle.std.specs.Prelude.{nat_abs}
use Rattle.std.proofs.lemmas.List.{at_drop_more, at_drop_all}
use Rattle.fz_sets.specs.Sets.{set_size}
use Rattle.fz_dom.proofs.Ranges.{size_below}
use Rattle.fz_dom.proofs.rising.size_of.Goals as goal

pub overflow_add-size : goal.overflow_add-size
overflow_add-size c =
    let rs = c.args.ranges.now in
    let r = get_or rs c.loop-r.r-index (pos 0, pos 0) in
    let b = size_below rs c.requires.ranges c.requires.within in
    let s = at_drop_more set_size rs c.loop-r.r-index (pos 0, pos 0) c.loop-r-test.true in
    let t : c.abs_diff.result ≡ nat_abs (r.1 -ℤ r.0) = search rules in
    omega arith

pub overflow_add-size-in-loop-r : goal.overflow_add-size-in-loop-r
overflow_add-size-in-loop-r c =
    let rs = c.args.ranges.now in
    let r = get_or rs c.loop-r.r-index (pos 0, pos 0) in
    let b = size_below rs c.requires.ranges c.requires.within in
    let s = at_drop_more set_size rs c.loop-r.r-index (pos 0, pos 0) c.loop-r-test.true in
    let t : c.abs_diff.result ≡ nat_abs (r.1 -ℤ r.0) = search rules in
    omega arith

pub loop-r-preserved : goal.loop-r-preserved
loop-r-preserved c =
    let rs = c.args.ranges.now in
    let r = get_or rs c.loop-r.r-index (pos 0, pos 0) in
    let s = at_drop_more set_size rs c.loop-r.r-index (pos 0, pos 0) c.loop-r-test.true in
    let t : c.abs_diff.result ≡ nat_abs (r.1 -ℤ r.0) = search rules in
    omega arith

pub returns : goal.returns
returns c =
    let end = c.loop-r-test.false in
    let s = at_drop_all set_size c.args.ranges.now c.loop-r.r-index (omega (arith, end)) in
    omega arith
