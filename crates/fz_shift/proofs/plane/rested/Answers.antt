use Rattle.std.proofs.Common.{◌∙◌, sym}
use Rattle.std.proofs.Common.{rules}
use Rattle.fz_strength.specs.Domains.{dom_at}
use Rattle.fz_strength.specs.Events.{IsOnly}
use Rattle.fz_shift.proofs.Kept.{fixed_truth, fixed_partners}
use Rattle.fz_shift.proofs.plane.rested.Goals as goal

pub returns-then-is_fixed-2 : goal.returns-then-is_fixed-2
returns-then-is_fixed-2 c = λ ds.
    let es = c.args.store.now.doms in
    let p = c.args.plane in
    let one = c.is_fixed.ensures.one.0 (search rules) in
    let two = c.is_fixed-then-is_fixed.ensures.one.0 (search rules) in
    let only_u : IsOnly (dom_at es p.across) one.0 = sym c.dom.ensures.dom ∙ one.1 in
    let only_w : IsOnly (dom_at es p.first) two.0 = sym c.dom-then-is_fixed.ensures.dom ∙ two.1 in (
      (λ a within. fixed_truth p es one.0 two.0 a c.requires.inside c.requires.partners only_u only_w within),
      (λ fs domains narrower. fixed_partners p es fs one.0 two.0 c.requires.inside c.requires.partners only_u only_w domains narrower),
    )
