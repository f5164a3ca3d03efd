use Rattle.std.proofs.Common.{◌≡◌, ◌∙◌, ◌*ℤ◌, ◌+ℤ◌, ◌-ℤ◌, arith, refl, rules, w32, w64}
use Rattle.std.proofs.lemmas.Int.{ints}
use Rattle.std.proofs.Math.Facts.{to_z-of_z}
use mir.Val.{SFits}
use Rattle.fz_shift.proofs.Bounded.{near_product}
use Rattle.fz_shift.proofs.matching.number_on.Goals as goal

pub overflow_add-result : goal.overflow_add-result
overflow_add-result c =
    let k = c.args.plane.factor in
    let u = c.args.across in
    let w = c.args.first in
    let fits_k : SFits w32 k = search rules in
    let fits_u : SFits w32 u = c.ranges.across in
    let fits_w : SFits w32 w = c.ranges.first in
    let p = near_product k u c.requires.least c.requires.most (omega (arith, ints, fits_u)) (omega (arith, ints, fits_u)) in
    let fits_p : SFits w64 (k *ℤ u) = omega (arith, ints, p.0, p.1) in
    let fits_1 : SFits w64 c.from.result = search rules in
    let fits_2 : SFits w64 c.from-2.result = search rules in
    let fits_3 : SFits w64 c.from-3.result = search rules in
    let is_k : c.from.result ≡ k = c.from.ensures ∙ to_z-of_z fits_k in
    let is_u : c.from-2.result ≡ u = c.from-2.ensures ∙ to_z-of_z fits_u in
    let is_w : c.from-3.result ≡ w = c.from-3.ensures ∙ to_z-of_z fits_w in
    rw (to_z-of_z fits_3, to_z-of_z fits_1, to_z-of_z fits_2, is_k, is_u, is_w, to_z-of_z fits_p) (omega (arith, ints, p.0, p.1, fits_w))

pub overflow_sub-result : goal.overflow_sub-result
overflow_sub-result c =
    let k = c.args.plane.factor in
    let u = c.args.across in
    let w = c.args.first in
    let fits_k : SFits w32 k = search rules in
    let fits_u : SFits w32 u = c.ranges.across in
    let fits_w : SFits w32 w = c.ranges.first in
    let p = near_product k u c.requires.least c.requires.most (omega (arith, ints, fits_u)) (omega (arith, ints, fits_u)) in
    let fits_p : SFits w64 (k *ℤ u) = omega (arith, ints, p.0, p.1) in
    let fits_1 : SFits w64 c.from.result = search rules in
    let fits_2 : SFits w64 c.from-2.result = search rules in
    let fits_3 : SFits w64 c.from-3.result = search rules in
    let is_k : c.from.result ≡ k = c.from.ensures ∙ to_z-of_z fits_k in
    let is_u : c.from-2.result ≡ u = c.from-2.ensures ∙ to_z-of_z fits_u in
    let is_w : c.from-3.result ≡ w = c.from-3.ensures ∙ to_z-of_z fits_w in
    let n = c.args.plane.number in
    let fits_n : SFits w32 n = search rules in
    let fits_4 : SFits w64 c.from-4.result = search rules in
    let is_n : c.from-4.result ≡ n = c.from-4.ensures ∙ to_z-of_z fits_n in
    let fits_s : SFits w64 (w +ℤ (k *ℤ u)) = omega (arith, ints, p.0, p.1, fits_w) in
    rw (to_z-of_z fits_3, to_z-of_z fits_1, to_z-of_z fits_2, to_z-of_z fits_4, is_k, is_u, is_w, is_n, to_z-of_z fits_p, to_z-of_z fits_s) (omega (arith, ints, p.0, p.1, fits_w, fits_n))

pub returns-clause-on : goal.returns-clause-on
returns-clause-on c =
    let k = c.args.plane.factor in
    let u = c.args.across in
    let w = c.args.first in
    let fits_k : SFits w32 k = search rules in
    let fits_u : SFits w32 u = c.ranges.across in
    let fits_w : SFits w32 w = c.ranges.first in
    let p = near_product k u c.requires.least c.requires.most (omega (arith, ints, fits_u)) (omega (arith, ints, fits_u)) in
    let fits_p : SFits w64 (k *ℤ u) = omega (arith, ints, p.0, p.1) in
    let fits_1 : SFits w64 c.from.result = search rules in
    let fits_2 : SFits w64 c.from-2.result = search rules in
    let fits_3 : SFits w64 c.from-3.result = search rules in
    let is_k : c.from.result ≡ k = c.from.ensures ∙ to_z-of_z fits_k in
    let is_u : c.from-2.result ≡ u = c.from-2.ensures ∙ to_z-of_z fits_u in
    let is_w : c.from-3.result ≡ w = c.from-3.ensures ∙ to_z-of_z fits_w in
    let n = c.args.plane.number in
    let fits_n : SFits w32 n = search rules in
    let fits_4 : SFits w64 c.from-4.result = search rules in
    let is_n : c.from-4.result ≡ n = c.from-4.ensures ∙ to_z-of_z fits_n in
    let fits_s : SFits w64 (w +ℤ (k *ℤ u)) = omega (arith, ints, p.0, p.1, fits_w) in
    let fits_d : SFits w64 ((w +ℤ (k *ℤ u)) -ℤ n) = omega (arith, ints, p.0, p.1, fits_w, fits_n) in
    rw (to_z-of_z fits_3, to_z-of_z fits_1, to_z-of_z fits_2, to_z-of_z fits_4, is_k, is_u, is_w, is_n, to_z-of_z fits_p, to_z-of_z fits_s, to_z-of_z fits_d) refl

pub returns-clause-floor : goal.returns-clause-floor
returns-clause-floor c =
    let k = c.args.plane.factor in
    let u = c.args.across in
    let w = c.args.first in
    let fits_k : SFits w32 k = search rules in
    let fits_u : SFits w32 u = c.ranges.across in
    let fits_w : SFits w32 w = c.ranges.first in
    let p = near_product k u c.requires.least c.requires.most (omega (arith, ints, fits_u)) (omega (arith, ints, fits_u)) in
    let fits_p : SFits w64 (k *ℤ u) = omega (arith, ints, p.0, p.1) in
    let fits_1 : SFits w64 c.from.result = search rules in
    let fits_2 : SFits w64 c.from-2.result = search rules in
    let fits_3 : SFits w64 c.from-3.result = search rules in
    let is_k : c.from.result ≡ k = c.from.ensures ∙ to_z-of_z fits_k in
    let is_u : c.from-2.result ≡ u = c.from-2.ensures ∙ to_z-of_z fits_u in
    let is_w : c.from-3.result ≡ w = c.from-3.ensures ∙ to_z-of_z fits_w in
    let n = c.args.plane.number in
    let fits_n : SFits w32 n = search rules in
    let fits_4 : SFits w64 c.from-4.result = search rules in
    let is_n : c.from-4.result ≡ n = c.from-4.ensures ∙ to_z-of_z fits_n in
    let fits_s : SFits w64 (w +ℤ (k *ℤ u)) = omega (arith, ints, p.0, p.1, fits_w) in
    let fits_d : SFits w64 ((w +ℤ (k *ℤ u)) -ℤ n) = omega (arith, ints, p.0, p.1, fits_w, fits_n) in
    rw (to_z-of_z fits_3, to_z-of_z fits_1, to_z-of_z fits_2, to_z-of_z fits_4, is_k, is_u, is_w, is_n, to_z-of_z fits_p, to_z-of_z fits_s, to_z-of_z fits_d) (omega (arith, ints, p.0, p.1, fits_w, fits_n))

pub returns-clause-ceiling : goal.returns-clause-ceiling
returns-clause-ceiling c =
    let k = c.args.plane.factor in
    let u = c.args.across in
    let w = c.args.first in
    let fits_k : SFits w32 k = search rules in
    let fits_u : SFits w32 u = c.ranges.across in
    let fits_w : SFits w32 w = c.ranges.first in
    let p = near_product k u c.requires.least c.requires.most (omega (arith, ints, fits_u)) (omega (arith, ints, fits_u)) in
    let fits_p : SFits w64 (k *ℤ u) = omega (arith, ints, p.0, p.1) in
    let fits_1 : SFits w64 c.from.result = search rules in
    let fits_2 : SFits w64 c.from-2.result = search rules in
    let fits_3 : SFits w64 c.from-3.result = search rules in
    let is_k : c.from.result ≡ k = c.from.ensures ∙ to_z-of_z fits_k in
    let is_u : c.from-2.result ≡ u = c.from-2.ensures ∙ to_z-of_z fits_u in
    let is_w : c.from-3.result ≡ w = c.from-3.ensures ∙ to_z-of_z fits_w in
    let n = c.args.plane.number in
    let fits_n : SFits w32 n = search rules in
    let fits_4 : SFits w64 c.from-4.result = search rules in
    let is_n : c.from-4.result ≡ n = c.from-4.ensures ∙ to_z-of_z fits_n in
    let fits_s : SFits w64 (w +ℤ (k *ℤ u)) = omega (arith, ints, p.0, p.1, fits_w) in
    let fits_d : SFits w64 ((w +ℤ (k *ℤ u)) -ℤ n) = omega (arith, ints, p.0, p.1, fits_w, fits_n) in
    rw (to_z-of_z fits_3, to_z-of_z fits_1, to_z-of_z fits_2, to_z-of_z fits_4, is_k, is_u, is_w, is_n, to_z-of_z fits_p, to_z-of_z fits_s, to_z-of_z fits_d) (omega (arith, ints, p.0, p.1, fits_w, fits_n))
