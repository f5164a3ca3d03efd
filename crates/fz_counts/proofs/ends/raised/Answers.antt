use Rattle.std.proofs.Common.{◌≡◌, ◌∙◌, ◌+ℤ◌, ◌-ℤ◌, arith, rules, w32}
use mir.Syntax.{w128}
use mir.Val.{SFits}
use Rattle.std.proofs.lemmas.Int.{ints}
use Rattle.std.proofs.Math.Facts.{to_z-of_z}
use Rattle.fz_counts.proofs.ends.raised.Goals as goal

pub returns : goal.returns
returns c =
    let n = c.args.number in
    let by = c.args.by in
    let ceiling = c.args.ceiling in
    let fits_n : SFits w32 n = search rules in
    let fits_ceiling : SFits w32 ceiling = search rules in
    let fits_by : SFits w128 by = search rules in
    let fits_1 : SFits w128 c.from.result = search rules in
    let fits_2 : SFits w128 c.from-2.result = search rules in
    let fits_3 : SFits w128 c.from-3.result = search rules in
    let is_1 : c.from.result ≡ ceiling = c.from.ensures ∙ to_z-of_z fits_ceiling in
    let is_2 : c.from-2.result ≡ n = c.from-2.ensures ∙ to_z-of_z fits_n in
    let is_3 : c.from-3.result ≡ n = c.from-3.ensures ∙ to_z-of_z fits_n in
    let fits_width : SFits w128 (ceiling -ℤ n) = omega (arith, ints, fits_n, fits_ceiling) in
    let test = rw (to_z-of_z fits_1, to_z-of_z fits_2, is_1, is_2, to_z-of_z fits_width, to_z-of_z fits_by) at c.if-from-by.false in
    let some = c.requires.by in
    let fits_cut : SFits w32 (n +ℤ by) = omega (arith, ints, fits_n, fits_ceiling, some, test) in
    let fits_wide : SFits w128 (n +ℤ by) = omega (arith, ints, fits_n, fits_ceiling, some, test) in
    λ x from. rw (to_z-of_z fits_3, is_3, to_z-of_z fits_by, to_z-of_z fits_wide, to_z-of_z fits_cut) ((λ h. h), (λ h. h))
