-- Places whose number isn't in what is left of any other.
use Rattle.std.proofs.Common.{◌≡◌, ℕ, List, refl, sym, subst, ◌∙◌, ap, length, true, false}
use Rattle.std.specs.Prelude.{ℤ, Bool, slice_get, slice_index_or, Some}
use Rattle.std.specs.List.{AllByRecursion}
use Rattle.fz_sets.specs.Sets.{IsInSet}
use Rattle.fz_dom.specs.Shape.{least}
use Rattle.fz_spec.specs.declared.term.Term.{Term}
use Rattle.fz_strength.specs.Domains.{term_set, AreDomains, IsNarrower, IsTermOf}
use Rattle.fz_strength.specs.Events.{IsOnly}
use Rattle.fz_sets.proofs.Lists.{all_at}
use Rattle.fz_strength.proofs.Terms.{only_number, in_single}
use Rattle.fz_prop.proofs.Filled.{still_only}
use Rattle.fz_prop.proofs.TermChanges.{narrower_term, only_in}
use Rattle.fz_alldiff.specs.Differing.{IsFixedPlace, IsOnlyAt, IsCleared, AreCleared, IsOutside}

pub has_only : (d : List (ℤ × ℤ)) (n : ℤ) → IsOnly d n → IsInSet d n
has_only d n only = subst (λ (e : List (ℤ × ℤ)). IsInSet e n) (sym only) (in_single n n refl)

pub same_term : (xs : List Term) (i : ℕ) (x y : Term) → slice_get xs i ≡ Some x → slice_get xs i ≡ Some y → x ≡ y
same_term xs i x y at_x at_y = cc (at_x, at_y)

pub fixed_still : (xs : List Term) (ds es : List (List (ℤ × ℤ))) (i : ℕ) → AllByRecursion (IsTermOf (length ds)) xs → AreDomains es → IsNarrower ds es → IsFixedPlace xs ds i → IsFixedPlace xs es i
fixed_still xs ds es i terms domains narrower fixed =
    let x = fixed.0 in
    (x, fixed.1, (fixed.2.0, still_only ds es x fixed.2.0 (all_at (IsTermOf (length ds)) xs i x terms fixed.1) fixed.2.1 domains narrower))

-- a place that is cleared stays so
pub cleared_still : (xs : List Term) (ds es : List (List (ℤ × ℤ))) (i : ℕ) → AllByRecursion (IsTermOf (length ds)) xs → AreDomains es → IsNarrower ds es → IsCleared xs ds i → IsCleared xs es i
cleared_still xs ds es i terms domains narrower h = (
  fixed_still xs ds es i terms domains narrower h.0,
  (λ j x y other at_i at_j n only is.
      let was = h.0 in
      let same : was.0 ≡ x = same_term xs i was.0 x was.1 at_i in
      let before : IsOnly (term_set ds x) was.2.0 = subst (λ (t : Term). IsOnly (term_set ds t) was.2.0) same was.2.1 in
      let is_n : was.2.0 ≡ n = only_number (term_set es x) was.2.0 n (still_only ds es x was.2.0 (all_at (IsTermOf (length ds)) xs i x terms at_i) before domains narrower) only in
      h.1 j x y other at_i at_j n (subst (λ (m : ℤ). IsOnly (term_set ds x) m) is_n before) (narrower_term ds es y narrower n is)),
)

-- what is outside of all places that aren't done is outside of those that are, since these are cleared
pub cleared_now : (xs : List Term) (done : List Bool) (ds es : List (List (ℤ × ℤ))) (i : ℕ) (n : ℤ) → AllByRecursion (IsTermOf (length ds)) xs → AreDomains es → IsNarrower ds es
    → IsOnlyAt xs ds i n → AreCleared xs ds done → IsOutside xs es done n i → IsCleared xs es i
cleared_now xs done ds es i n terms domains narrower only cleared outside = (
  fixed_still xs ds es i terms domains narrower (only.0, only.1, (n, only.2)),
  (λ j x y other at_i at_j m only_m is.
      let at_x : IsOnly (term_set ds x) n = subst (λ (t : Term). IsOnly (term_set ds t) n) (same_term xs i only.0 x only.1 at_i) only.2 in
      let is_x = all_at (IsTermOf (length ds)) xs i x terms at_i in
      let is_n : m ≡ n = only_number (term_set es x) m n only_m (still_only ds es x n is_x at_x domains narrower) in
      let now : IsInSet (term_set es y) n = subst (λ (k : ℤ). IsInSet (term_set es y) k) is_n is in
      elim (slice_index_or done j false) as (λ b. slice_index_or done j false ≡ b → ⊥) [
        | true ↦ λ is_done.
            let c = cleared j is_done in
            let w = c.0.2.0 in
            let at_y : IsOnly (term_set ds y) w = subst (λ (t : Term). IsOnly (term_set ds t) w) (same_term xs j c.0.0 y c.0.1 at_j) c.0.2.1 in
            let is_w : n ≡ w = only_in (term_set ds y) w n at_y (narrower_term ds es y narrower n now) in
            c.1 i y x (λ e. other (sym e)) at_j at_i w at_y (subst (λ (k : ℤ). IsInSet (term_set ds x) k) is_w (has_only (term_set ds x) n at_x))
        | false ↦ λ undone. outside j y other (λ is_done. cc (is_done, undone)) at_j now
      ] refl),
)

-- the least number of a fixed place is its only one
pub only_at : (xs : List Term) (ds : List (List (ℤ × ℤ))) (i : ℕ) (t : Term) (n : ℤ) → IsFixedPlace xs ds i → slice_get xs i ≡ Some t → n ≡ least (term_set ds t) → IsOnlyAt xs ds i n
only_at xs ds i t n fixed at is =
    let x = fixed.0 in
    let same : t ≡ x = same_term xs i t x at fixed.1 in
    let is_n : n ≡ fixed.2.0 = is ∙ ap (λ (u : Term). least (term_set ds u)) same ∙ ap least fixed.2.1 in
    (x, fixed.1, subst (IsOnly (term_set ds x)) (sym is_n) fixed.2.1)
