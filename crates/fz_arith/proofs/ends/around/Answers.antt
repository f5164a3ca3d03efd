use Rattle.std.proofs.Common.{◌≡◌, rules, refl}
use Rattle.std.specs.Int.{int_min, int_max}
use Rattle.std.proofs.Math.Facts.{to_z-of_z}
use mir.Val.{SFits}
use mir.Syntax.{w64}
use Rattle.fz_arith.proofs.ends.around.Goals as goal

pub returns : goal.returns
returns c =
    let a = c.args.a in
    let b = c.args.b in
    let m : c.min.result ≡ int_min a b = rw (to_z-of_z c.ranges.a, to_z-of_z c.ranges.b) at c.min.ensures.value in
    let fits_m : SFits w64 c.min.result = search rules in
    let n : c.min-2.result ≡ int_min (int_min a b) c.args.c = rw (to_z-of_z fits_m, to_z-of_z c.ranges.c, m) at c.min-2.ensures.value in
    let fits_n : SFits w64 c.min-2.result = search rules in
    let low : c.min-3.result ≡ int_min (int_min (int_min a b) c.args.c) c.args.d = rw (to_z-of_z fits_n, to_z-of_z c.ranges.d, n) at c.min-3.ensures.value in
    let fits_low : SFits w64 c.min-3.result = search rules in
    let p : c.max.result ≡ int_max a b = rw (to_z-of_z c.ranges.a, to_z-of_z c.ranges.b) at c.max.ensures.value in
    let fits_p : SFits w64 c.max.result = search rules in
    let q : c.max-2.result ≡ int_max (int_max a b) c.args.c = rw (to_z-of_z fits_p, to_z-of_z c.ranges.c, p) at c.max-2.ensures.value in
    let fits_q : SFits w64 c.max-2.result = search rules in
    let high : c.max-3.result ≡ int_max (int_max (int_max a b) c.args.c) c.args.d = rw (to_z-of_z fits_q, to_z-of_z c.ranges.d, q) at c.max-3.ensures.value in
    let fits_high : SFits w64 c.max-3.result = search rules in
    rw (to_z-of_z fits_low, to_z-of_z fits_high, low, high) refl
