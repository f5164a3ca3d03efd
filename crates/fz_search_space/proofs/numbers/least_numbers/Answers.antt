use Rattle.std.proofs.Common.{◌≡◌, ◌∙◌, ◌++◌, ◌∷◌, ◌+◌, List, [], length, map, take, ap, sym, subst, arith, rules}
use Rattle.std.specs.Prelude.{ℤ}
use Rattle.std.proofs.Math.Facts.{to_z-of_z}
use mir.Val.{SFits}
use mir.Syntax.{w32}
use Rattle.fz_sets.proofs.Lists.{same_at}
use Rattle.fz_dom.specs.Shape.{least}
use Rattle.fz_model.specs.Kept.{AreNumbers}
use Rattle.fz_search_space.specs.Spaces.{dom_at}
use Rattle.fz_search_space.proofs.Places.{take_more, front_numbers}
use Rattle.fz_search_space.proofs.numbers.least_numbers.Goals as goal

pub places-init : goal.places-init
places-init c =
    let none = c.in_ok-numbers.ensures.items in
    let same : c.extend_from_slice.new.self.items ≡ map least (take (length c.args.known.now) c.args.doms.now) = rw (none) at c.in_ok-extend_from_slice.ensures.items ∙ c.requires.known in
    (same, subst AreNumbers (sym same) (front_numbers (length c.args.known.now) c.args.doms.now c.requires.domains))

pub places-preserved : goal.places-preserved
places-preserved c =
    let doms = c.args.doms.now in
    let p = c.places.place in
    let at : c.index-doms-place.result ≡ dom_at doms p = c.index-doms-place.is ∙ same_at doms p c.index-doms-place.result [] c.places-test.true in
    let fits : SFits w32 c.min.result = search rules in
    let pushed : c.push.new.self.items ≡ c.places.numbers.items ++ c.min.result ∷ [] = rw (to_z-of_z fits) at c.in_ok-push.ensures.items in
    let same : c.push.new.self.items ≡ map least (take (p + 1) doms) =
    pushed ∙ ap (λ (l : List ℤ). l ++ c.min.result ∷ []) c.places.invariant.0 ∙ ap (λ (x : ℤ). map least (take p doms) ++ x ∷ []) c.min.ensures.first ∙ sym (take_more doms c.index-doms-place.result p c.places-test.true at) in
    (same, subst AreNumbers (sym same) (front_numbers (p + 1) doms c.requires.domains))
