use Rattle.std.proofs.Common.{rules, arith, pos, ◌<ℤ◌, ◌≤ℤ◌, ◌*ℤ◌}
use mir.Val.{SFits}
use mir.Syntax.{w128}
use Rattle.std.proofs.lemmas.Int.{ints}
use Rattle.fz_num.proofs.Hulls.{multiple_up, multiple_down, rising_up, rising_down, fits_multiple, at_low, at_high}
use Rattle.fz_num.proofs.span.Span.scale.Goals as goal

pub invariant_of-result : goal.invariant_of-result
invariant_of-result c =
    let a = c.args.self in
    let k : c.args.factor <ℤ pos 0 = grind (arith, ints) in
    let p : SFits w128 (c.args.factor *ℤ a.lo) = fits_multiple c.args.factor a c.ranges.factor c.requires a.lo (at_low a) in
    let q : SFits w128 (c.args.factor *ℤ a.hi) = fits_multiple c.args.factor a c.ranges.factor c.requires a.hi (at_high a) in
    record { rising = rising_down c.args.factor a _ _ k (search rules) (search rules) }

pub returns-then-factor-lt0 : goal.returns-then-factor-lt0
returns-then-factor-lt0 c =
    let a = c.args.self in
    let k : c.args.factor <ℤ pos 0 = grind (arith, ints) in
    let p : SFits w128 (c.args.factor *ℤ a.lo) = fits_multiple c.args.factor a c.ranges.factor c.requires a.lo (at_low a) in
    let q : SFits w128 (c.args.factor *ℤ a.hi) = fits_multiple c.args.factor a c.ranges.factor c.requires a.hi (at_high a) in
    multiple_down c.args.factor a _ k (search rules) (search rules)

pub invariant_of-result-2 : goal.invariant_of-result-2
invariant_of-result-2 c =
    let a = c.args.self in
    let k : pos 0 ≤ℤ c.args.factor = grind (arith, ints) in
    let p : SFits w128 (c.args.factor *ℤ a.lo) = fits_multiple c.args.factor a c.ranges.factor c.requires a.lo (at_low a) in
    let q : SFits w128 (c.args.factor *ℤ a.hi) = fits_multiple c.args.factor a c.ranges.factor c.requires a.hi (at_high a) in
    record { rising = rising_up c.args.factor a _ _ k (search rules) (search rules) }

pub returns : goal.returns
returns c =
    let a = c.args.self in
    let k : pos 0 ≤ℤ c.args.factor = grind (arith, ints) in
    let p : SFits w128 (c.args.factor *ℤ a.lo) = fits_multiple c.args.factor a c.ranges.factor c.requires a.lo (at_low a) in
    let q : SFits w128 (c.args.factor *ℤ a.hi) = fits_multiple c.args.factor a c.ranges.factor c.requires a.hi (at_high a) in
    multiple_up c.args.factor a _ k (search rules) (search rules)
