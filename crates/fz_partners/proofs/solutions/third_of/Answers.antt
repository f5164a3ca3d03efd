use Rattle.std.proofs.Common.{◌≡◌, ◌∙◌, ◌*ℤ◌, sym, ap, subst, rules, to_z, of_z, w32, w64}
use Rattle.std.specs.Prelude.{ℤ, IsTrue, ◌↔◌}
use Rattle.std.proofs.Math.Facts.{to_z-of_z}
use mir.Val.{SFits}
use mir.Syntax.{w128}
use Rattle.fz_num.specs.Quotients.{IsFloor}
use Rattle.fz_sets.specs.Sets.{IsInSet}
use Rattle.fz_strength.specs.Domains.{term_set}
use Rattle.fz_partners.specs.Equations.{DoAgree, IsSolution}
use Rattle.fz_partners.proofs.Thirds.{floor_exact, rest_of_sum, sum_of_rest}
use Rattle.fz_partners.proofs.solutions.third_of.Goals.{else-from-rest-via-then-from-rest+else-agree, else-from-rest-via-else-from-rest}
use Rattle.fz_partners.proofs.solutions.third_of.Goals as goal

pub returns-in_default : goal.returns-in_default
returns-in_default c = λ w member solution.
    let e = c.args.equation in
    let u = c.args.first in
    let v = c.args.second in
    let m = e.third.factor in
    let fits_u : SFits w32 u = c.ranges.first in
    let fits_v : SFits w32 v = c.ranges.second in
    let fits_m : SFits w32 m = search rules in
    let fits_r : SFits w128 c.rest_of-rest.result = search rules in
    let wide_m : SFits w128 c.from.result = search rules in
    let fits_q : SFits w128 c.floor_div-quotient.result = search rules in
    let rest = rw (to_z-of_z fits_u, to_z-of_z fits_v) at c.rest_of-rest.ensures.rest in
    let floor : IsFloor c.rest_of-rest.result m c.floor_div-quotient.result = rw (to_z-of_z fits_r, to_z-of_z wide_m, c.from.ensures, to_z-of_z fits_m) at c.floor_div-quotient.ensures in
    let is = floor_exact m c.rest_of-rest.result c.floor_div-quotient.result w floor (rest_of_sum e u v w c.rest_of-rest.result rest solution.1) in
    let none : IsInSet (term_set c.args.store.now.doms e.third.term) c.floor_div-quotient.result → ⊥ = rw (to_z-of_z fits_q) at c.in_default.ensures in
    none (subst (λ (x : ℤ). IsInSet (term_set c.args.store.now.doms e.third.term) x) (sym is) member)

pub returns-then-agree : goal.returns-then-agree
returns-then-agree c =
    let e = c.args.equation in
    let u = c.args.first in
    let v = c.args.second in
    let m = e.third.factor in
    let w = c.in-Some.third in
    let fits_u : SFits w32 u = c.ranges.first in
    let fits_v : SFits w32 v = c.ranges.second in
    let fits_m : SFits w32 m = search rules in
    let fits_w : SFits w32 w = search rules in
    let fits_r : SFits w128 c.rest_of-rest.result = search rules in
    let wide_m : SFits w128 c.from.result = search rules in
    let fits_q : SFits w128 c.floor_div-quotient.result = search rules in
    let fits_p : SFits w64 c.product.result = search rules in
    let wide_p : SFits w128 c.from-2.result = search rules in
    let rest = rw (to_z-of_z fits_u, to_z-of_z fits_v) at c.rest_of-rest.ensures.rest in
    let floor : IsFloor c.rest_of-rest.result m c.floor_div-quotient.result = rw (to_z-of_z fits_r, to_z-of_z wide_m, c.from.ensures, to_z-of_z fits_m) at c.floor_div-quotient.ensures in
    let quotient : w ≡ c.floor_div-quotient.result = rw (to_z-of_z fits_q) at c.in-Some.ensures.0 in
    let product : c.product.result ≡ (m *ℤ w) = rw (to_z-of_z fits_m, to_z-of_z fits_w) at c.product.ensures in
    let same : c.from-2.result ≡ c.rest_of-rest.result = sym (to_z-of_z wide_p) ∙ ap (to_z w128) c.if-from-rest.true ∙ to_z-of_z fits_r in
    let makes : (m *ℤ w) ≡ c.rest_of-rest.result = sym product ∙ sym (c.from-2.ensures ∙ to_z-of_z fits_p) ∙ same in
    let agree : IsTrue c.agree.result ↔ DoAgree e.first.term e.second.term e.third.term u v w = rw (to_z-of_z fits_u, to_z-of_z fits_v, to_z-of_z fits_w) at c.agree.ensures in
    rw (to_z-of_z fits_w) (
      c.in-Some.ensures.1,
      (agree.0 c.if-agree.true, sum_of_rest e u v w c.rest_of-rest.result rest makes),
      (λ x solution. sym (floor_exact m c.rest_of-rest.result c.floor_div-quotient.result x floor (rest_of_sum e u v x c.rest_of-rest.result rest solution.1)) ∙ sym quotient),
    )

pub returns-else-from-rest : goal.returns-else-from-rest
returns-else-from-rest c = λ x member solution.
    let e = c.args.equation in
    let u = c.args.first in
    let v = c.args.second in
    let m = e.third.factor in
    let w = c.in-Some.third in
    let fits_u : SFits w32 u = c.ranges.first in
    let fits_v : SFits w32 v = c.ranges.second in
    let fits_m : SFits w32 m = search rules in
    let fits_w : SFits w32 w = search rules in
    let fits_r : SFits w128 c.rest_of-rest.result = search rules in
    let wide_m : SFits w128 c.from.result = search rules in
    let fits_q : SFits w128 c.floor_div-quotient.result = search rules in
    let fits_p : SFits w64 c.product.result = search rules in
    let rest = rw (to_z-of_z fits_u, to_z-of_z fits_v) at c.rest_of-rest.ensures.rest in
    let floor : IsFloor c.rest_of-rest.result m c.floor_div-quotient.result = rw (to_z-of_z fits_r, to_z-of_z wide_m, c.from.ensures, to_z-of_z fits_m) at c.floor_div-quotient.ensures in
    let quotient : w ≡ c.floor_div-quotient.result = rw (to_z-of_z fits_q) at c.in-Some.ensures.0 in
    let is = floor_exact m c.rest_of-rest.result c.floor_div-quotient.result x floor (rest_of_sum e u v x c.rest_of-rest.result rest solution.1) in
    let here : IsSolution e u v w = subst (λ (y : ℤ). IsSolution e u v y) (sym (quotient ∙ is)) solution in
    let product : c.product.result ≡ (m *ℤ w) = rw (to_z-of_z fits_m, to_z-of_z fits_w) at c.product.ensures in
    let makes : c.from-2.result ≡ c.rest_of-rest.result = (c.from-2.ensures ∙ to_z-of_z fits_p) ∙ product ∙ rest_of_sum e u v w c.rest_of-rest.result rest here.1 in
    elim c.else-from-rest.branch [
      | else-from-rest-via-then-from-rest+else-agree b ↦
          let agree : IsTrue b.agree.result ↔ DoAgree e.first.term e.second.term e.third.term u v w = rw (to_z-of_z fits_u, to_z-of_z fits_v, to_z-of_z fits_w) at b.agree.ensures in
          absurd (cc (rw b.if-agree.false at (agree.1 here.0)))
      | else-from-rest-via-else-from-rest b ↦ b.if-from-rest.false (ap (of_z w128) makes)
    ]
