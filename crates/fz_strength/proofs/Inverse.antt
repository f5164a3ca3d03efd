-- Two lists of terms, each the inverse of the other: their line lasts, and where all terms are fixed it says that they are inverses.
use Rattle.std.proofs.Common.{◌≡◌, ℕ, zero, suc, ◌+◌, ◌<◌, List, [], ◌∷◌, ◌++◌, ◌∙◌, inl, inr, sym, ap, subst, arith, length}
use Rattle.std.specs.Prelude.{ℤ, pos, negsuc, slice_get, Some}
use Rattle.std.proofs.lemmas.Int.{ints}
use Rattle.std.proofs.lemmas.List.{length-map}
use Rattle.std.proofs.lemmas.Option.{slice_get_within, slice_get_cases}
use Rattle.fz_sets.specs.Sets.{IsInSet, IsInRange}
use Rattle.fz_sets.proofs.Lists.{all_at, all_left, all_right}
use Rattle.fz_spec.specs.declared.term.Term.{Term}
use Rattle.fz_spec.specs.Constraints.{term_value, term_values}
use Rattle.fz_spec.specs.Truth.{PointBack, AreInverse}
use Rattle.fz_strength.specs.declared.event.Event.TheVariants.{Any}
use Rattle.fz_strength.specs.Domains.{term_set}
use Rattle.fz_strength.specs.Events.{IsOnly, IsQuiet, AreSingle}
use Rattle.fz_strength.specs.Inverse.{ArePlaces, IsInverseLine, inverse}
use Rattle.fz_strength.specs.Meanings.{IsLawful}
use Rattle.fz_strength.proofs.Terms.{AreQuietAt, in_single, is_single, terms_quiet, terms_alone, waits_below}
use Rattle.fz_strength.proofs.VariableElements.{value_at}

-- ---- it lasts

kept_places : (ts : List Term) (last : ℕ) (ds es : List (List (ℤ × ℤ))) → AreQuietAt Any ds es ts → ArePlaces ds last ts → ArePlaces es last ts
kept_places [] last ds es quiet h = tt
kept_places (t ∷ ts) last ds es quiet h = ((λ x is. h.0 x (subst (λ (d : List (ℤ × ℤ)). IsInSet d x) (sym quiet.0) is)), kept_places ts last ds es quiet.1 h.1)

pub kept_inverse : (fs gs : List Term) (ds es : List (List (ℤ × ℤ))) → AreQuietAt Any ds es fs → AreQuietAt Any ds es gs → IsInverseLine fs gs ds → IsInverseLine fs gs es
kept_inverse fs gs ds es of_f of_g h =
    let is_quiet : Term → Type 0 = λ (t : Term). IsQuiet Any (term_set ds t) (term_set es t) in
    record {
      size = h.size;
      first = kept_places fs (length fs) ds es of_f h.first;
      second = kept_places gs (length gs) ds es of_g h.second;
      mirrored = λ i j f g at_f at_g.
          let same_f = all_at is_quiet fs i f of_f at_f in
          let same_g = all_at is_quiet gs j g of_g at_g in
          let both = h.mirrored i j f g at_f at_g in (
            (λ is. subst (λ (d : List (ℤ × ℤ)). IsInSet d (pos (i + 1))) same_g (both.0 (subst (λ (d : List (ℤ × ℤ)). IsInSet d (pos (j + 1))) (sym same_f) is))),
            (λ is. subst (λ (d : List (ℤ × ℤ)). IsInSet d (pos (j + 1))) same_f (both.1 (subst (λ (d : List (ℤ × ℤ)). IsInSet d (pos (i + 1))) (sym same_g) is))),
          );
    }

-- ---- where one number is left of each

-- a place from 1 to the last of a list, and what stands there
place_in : {X : Type 0} (xs : List X) (x : ℤ) → IsInRange (pos 1, pos (length xs)) x → (j : ℕ) × (y : X) × (x ≡ pos (j + 1)) × (slice_get xs j ≡ Some y)
place_in xs (pos zero) within = let low = within.0 in absurd (omega (arith, ints, low))
place_in xs (negsuc k) within = let low = within.0 in absurd (omega (arith, ints, low))
place_in xs (pos (suc j)) within = elim (slice_get_cases xs j).1 [
  | inl at ↦ (j, at.0, ap pos (omega arith), at.2)
  | inr past ↦ let high = within.1 in let end = past.0 in absurd (omega (arith, ints, high, end))
]

abbrev IsSingle : List (List (ℤ × ℤ)) → List ℤ → Term → Type 0
IsSingle ds a t = IsOnly (term_set ds t) (term_value a t)

-- where the place of a term is left of the one that stands at its number, these point back
single_back : (ts others : List Term) (ds : List (List (ℤ × ℤ))) (a : List ℤ) → AreSingle ds a ts → AreSingle ds a others → ArePlaces ds (length others) ts
    → ((i j : ℕ) (t other : Term) → slice_get ts i ≡ Some t → slice_get others j ≡ Some other → IsInSet (term_set ds t) (pos (j + 1)) → IsInSet (term_set ds other) (pos (i + 1)))
    → PointBack (term_values a ts) (term_values a others)
single_back ts others ds a of_t of_other places mirrored i n at_n = elim (slice_get_cases ts i).1 [
  | inl here ↦
      let t = here.0 in
      let at_t : slice_get ts i ≡ Some t = here.2 in
      let is_n : term_value a t ≡ n = cc (value_at a ts i t at_t, at_n) in
      let left : IsInSet (term_set ds t) n = subst (λ (d : List (ℤ × ℤ)). IsInSet d n) (sym (all_at (IsSingle ds a) ts i t of_t at_t)) (in_single n (term_value a t) (sym is_n)) in
      let p = place_in others n (all_at (λ (u : Term). (x : ℤ) → IsInSet (term_set ds u) x → IsInRange (pos 1, pos (length others)) x) ts i t places at_t n left) in
      let back : IsInSet (term_set ds p.1) (pos (i + 1)) = mirrored i p.0 t p.1 at_t p.3 (subst (IsInSet (term_set ds t)) p.2 left) in
      let is_i : pos (i + 1) ≡ term_value a p.1 =
      is_single (pos (i + 1)) (term_value a p.1) (subst (λ (d : List (ℤ × ℤ)). IsInSet d (pos (i + 1))) (all_at (IsSingle ds a) others p.0 p.1 of_other p.3) back) in
      (p.0, p.2, value_at a others p.0 p.1 p.3 ∙ ap (λ (x : ℤ). Some x) (sym is_i))
  | inr past ↦
      let inside = slice_get_within (term_values a ts) i n at_n in
      let end = past.0 in
      let size = length-map ts (term_value a) in
      absurd (omega (arith, inside, end, size))
]

pub inverse_true : (fs gs : List Term) (ds : List (List (ℤ × ℤ))) (a : List ℤ) → AreSingle ds a fs → AreSingle ds a gs → IsInverseLine fs gs ds → AreInverse (term_values a fs) (term_values a gs)
inverse_true fs gs ds a of_f of_g h = record {
  there = single_back fs gs ds a of_f of_g (subst (λ (n : ℕ). ArePlaces ds n fs) h.size h.first) (λ i j f g at_f at_g is. (h.mirrored i j f g at_f at_g).0 is);
  back = single_back gs fs ds a of_g of_f (subst (λ (n : ℕ). ArePlaces ds n gs) (sym h.size) h.second) (λ j i g f at_g at_f is. (h.mirrored i j f g at_f at_g).1 is);
}

-- ---- what it means

pub inverse_lawful : (fs gs : List Term) → IsLawful (inverse fs gs)
inverse_lawful fs gs = record {
  kept = λ ds es domains narrower quiet h. (let all = terms_quiet Any (fs ++ gs) ds es quiet in kept_inverse fs gs ds es (all_left _ fs gs all) (all_right _ fs gs all) h);
  alone = λ ds a below alone h. (let all = terms_alone Any (fs ++ gs) ds a below alone in inverse_true fs gs ds a (all_left _ fs gs all) (all_right _ fs gs all) h);
  below = λ n all. waits_below Any (fs ++ gs) n all;
}
