use Rattle.std.proofs.Common.{rules, arith, refl, ◌/◌, length}
use Rattle.std.specs.Prelude.{pos, ◌+ℤ◌, ◌≤ℤ◌}
use Rattle.std.proofs.lemmas.Int.{ints}
use Rattle.std.proofs.lemmas.Option.{slice_get_read}
use Rattle.std.proofs.Math.Facts.{to_z-of_z}
use mir.Val.{SFits}
use mir.Syntax.{w32}
use Rattle.fz_element.proofs.far.window_near.Goals as goal

pub returns-then-abs_diff-lt64 : goal.returns-then-abs_diff-lt64
returns-then-abs_diff-lt64 c =
    let fits : SFits w32 c.args.number = search rules in
    let looked = c.in_ok-window.ensures.lookup in
    let test = rw (to_z-of_z fits) at c.if-window-number.true in
    let near = c.if-abs_diff-lt64.true in
    let far = rw (to_z-of_z fits) at c.abs_diff.ensures in
    let low : c.in_ok-window.field-0.now.base ≤ℤ c.args.number = grind (arith, ints, test) in
    let high : c.args.number ≤ℤ (c.in_ok-window.field-0.now.base +ℤ pos 63) = grind (arith, ints, low, near, far) in
    ((_, slice_get_read c.args.windows.now (length c.args.windows.now) (c.abs_diff-place.result / 64) c.in_ok-window.field-0.now refl looked.3.0 looked.1), low, high)
