use Rattle.std.proofs.Common.{◌≡◌, ◌&&◌, rules, w32, SFits}
use Rattle.std.proofs.Math.Facts.{to_z-of_z}
use Rattle.std.specs.Prelude.{int_le, int_lt}
use Rattle.fz_dom.specs.Shape.{greatest, least}
use Rattle.fz_engine.proofs.Shapes.{some_numbers}
use Rattle.fz_engine.proofs.stronger.is_set_from.Goals as goal

pub returns-then-not-is_empty : goal.returns-then-not-is_empty
returns-then-not-is_empty c =
    let set = c.args.set.now in
    let low : SFits w32 c.min.result = search rules in
    let high : SFits w32 c.max.result = search rules in
    let is : c.is_between.result ≡ (int_le c.args.first (least set) && int_lt (greatest set) c.args.end) =
    rw (to_z-of_z c.ranges.first, to_z-of_z c.ranges.end, to_z-of_z low, to_z-of_z high, c.min.ensures.first, c.max.ensures.last) at c.is_between.ensures in
    some_numbers set c.is_between.result (int_le c.args.first (least set) && int_lt (greatest set) c.args.end) (λ none. absurd (cc (c.if-not-is_empty.ensures.empty.1 none))) is
