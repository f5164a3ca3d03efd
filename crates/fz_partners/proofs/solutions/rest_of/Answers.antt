use Rattle.std.proofs.Common.{◌≡◌, ◌∙◌, ◌-ℤ◌, arith, refl, rules, w32, w64}
use Rattle.std.proofs.lemmas.Int.{ints}
use Rattle.std.proofs.Math.Facts.{to_z-of_z}
use mir.Val.{SFits}
use mir.Syntax.{w128}
use Rattle.fz_partners.proofs.solutions.rest_of.Goals as goal

pub overflow_sub-result : goal.overflow_sub-result
overflow_sub-result c =
    let n = c.args.equation.number in
    let fits_n : SFits w32 n = search rules in
    let fits_p : SFits w64 c.product.result = search rules in
    let wide_p : SFits w128 c.from-first.result = search rules in
    let wide_n : SFits w128 c.from.result = search rules in
    let is_p : c.from-first.result ≡ c.product.result = c.from-first.ensures ∙ to_z-of_z fits_p in
    let is_n : c.from.result ≡ n = c.from.ensures ∙ to_z-of_z fits_n in
    rw (to_z-of_z wide_n, to_z-of_z wide_p, is_n, is_p) (omega (arith, ints, fits_n, fits_p))

pub overflow_sub-result-2 : goal.overflow_sub-result-2
overflow_sub-result-2 c =
    let n = c.args.equation.number in
    let fits_n : SFits w32 n = search rules in
    let fits_p : SFits w64 c.product.result = search rules in
    let fits_q : SFits w64 c.product-2.result = search rules in
    let wide_p : SFits w128 c.from-first.result = search rules in
    let wide_q : SFits w128 c.from-second.result = search rules in
    let wide_n : SFits w128 c.from.result = search rules in
    let is_p : c.from-first.result ≡ c.product.result = c.from-first.ensures ∙ to_z-of_z fits_p in
    let is_q : c.from-second.result ≡ c.product-2.result = c.from-second.ensures ∙ to_z-of_z fits_q in
    let is_n : c.from.result ≡ n = c.from.ensures ∙ to_z-of_z fits_n in
    let fits_d : SFits w128 (n -ℤ c.product.result) = omega (arith, ints, fits_n, fits_p) in
    rw (to_z-of_z wide_n, to_z-of_z wide_p, to_z-of_z wide_q, is_n, is_p, is_q, to_z-of_z fits_d) (omega (arith, ints, fits_n, fits_p, fits_q))

pub returns-clause-rest : goal.returns-clause-rest
returns-clause-rest c =
    let fits_k : SFits w32 c.args.equation.first.factor = search rules in
    let fits_u : SFits w32 c.args.first = c.ranges.first in
    let fits_l : SFits w32 c.args.equation.second.factor = search rules in
    let fits_v : SFits w32 c.args.second = c.ranges.second in
    let n = c.args.equation.number in
    let fits_n : SFits w32 n = search rules in
    let fits_p : SFits w64 c.product.result = search rules in
    let fits_q : SFits w64 c.product-2.result = search rules in
    let wide_p : SFits w128 c.from-first.result = search rules in
    let wide_q : SFits w128 c.from-second.result = search rules in
    let wide_n : SFits w128 c.from.result = search rules in
    let is_p : c.from-first.result ≡ c.product.result = c.from-first.ensures ∙ to_z-of_z fits_p in
    let is_q : c.from-second.result ≡ c.product-2.result = c.from-second.ensures ∙ to_z-of_z fits_q in
    let is_n : c.from.result ≡ n = c.from.ensures ∙ to_z-of_z fits_n in
    let fits_d : SFits w128 (n -ℤ c.product.result) = omega (arith, ints, fits_n, fits_p) in
    let fits_e : SFits w128 ((n -ℤ c.product.result) -ℤ c.product-2.result) = omega (arith, ints, fits_n, fits_p, fits_q) in
    rw (to_z-of_z wide_n, to_z-of_z wide_p, to_z-of_z wide_q, is_n, is_p, is_q, to_z-of_z fits_d, to_z-of_z fits_e) (rw (c.product.ensures, c.product-2.ensures, to_z-of_z fits_k, to_z-of_z fits_u, to_z-of_z fits_l, to_z-of_z fits_v) refl)

pub returns-clause-low : goal.returns-clause-low
returns-clause-low c =
    let n = c.args.equation.number in
    let fits_n : SFits w32 n = search rules in
    let fits_p : SFits w64 c.product.result = search rules in
    let fits_q : SFits w64 c.product-2.result = search rules in
    let wide_p : SFits w128 c.from-first.result = search rules in
    let wide_q : SFits w128 c.from-second.result = search rules in
    let wide_n : SFits w128 c.from.result = search rules in
    let is_p : c.from-first.result ≡ c.product.result = c.from-first.ensures ∙ to_z-of_z fits_p in
    let is_q : c.from-second.result ≡ c.product-2.result = c.from-second.ensures ∙ to_z-of_z fits_q in
    let is_n : c.from.result ≡ n = c.from.ensures ∙ to_z-of_z fits_n in
    let fits_d : SFits w128 (n -ℤ c.product.result) = omega (arith, ints, fits_n, fits_p) in
    let fits_e : SFits w128 ((n -ℤ c.product.result) -ℤ c.product-2.result) = omega (arith, ints, fits_n, fits_p, fits_q) in
    rw (to_z-of_z wide_n, to_z-of_z wide_p, to_z-of_z wide_q, is_n, is_p, is_q, to_z-of_z fits_d, to_z-of_z fits_e) (omega (arith, ints, fits_n, fits_p, fits_q))

pub returns-clause-high : goal.returns-clause-high
returns-clause-high c =
    let n = c.args.equation.number in
    let fits_n : SFits w32 n = search rules in
    let fits_p : SFits w64 c.product.result = search rules in
    let fits_q : SFits w64 c.product-2.result = search rules in
    let wide_p : SFits w128 c.from-first.result = search rules in
    let wide_q : SFits w128 c.from-second.result = search rules in
    let wide_n : SFits w128 c.from.result = search rules in
    let is_p : c.from-first.result ≡ c.product.result = c.from-first.ensures ∙ to_z-of_z fits_p in
    let is_q : c.from-second.result ≡ c.product-2.result = c.from-second.ensures ∙ to_z-of_z fits_q in
    let is_n : c.from.result ≡ n = c.from.ensures ∙ to_z-of_z fits_n in
    let fits_d : SFits w128 (n -ℤ c.product.result) = omega (arith, ints, fits_n, fits_p) in
    let fits_e : SFits w128 ((n -ℤ c.product.result) -ℤ c.product-2.result) = omega (arith, ints, fits_n, fits_p, fits_q) in
    rw (to_z-of_z wide_n, to_z-of_z wide_p, to_z-of_z wide_q, is_n, is_p, is_q, to_z-of_z fits_d, to_z-of_z fits_e) (omega (arith, ints, fits_n, fits_p, fits_q))
