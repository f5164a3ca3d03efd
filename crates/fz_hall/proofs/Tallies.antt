-- How many terms begin and end at each number: one term after the other.
use Rattle.std.proofs.Common.{◌≡◌, ◌≢◌, inl, inr, ℕ, zero, suc, ◌+◌, ◌<◌, List, [], ◌∷◌, ◌∙◌, refl, sym, ap, arith, length, take, get_or, add-one, replicate}
use Rattle.std.specs.Prelude.{ℤ, pos, ◌+ℤ◌, ◌≤ℤ◌, Bool, true, false, slice_set}
use Rattle.std.specs.List.{AllByRecursion}
use Rattle.std.specs.Ordering.{int_eq}
use Rattle.std.proofs.lemmas.Bool.{cases_eq}
use Rattle.std.proofs.lemmas.Bool.Decides.{Decides-int_eq}
use Rattle.std.proofs.lemmas.Int.{ints}
use Rattle.std.proofs.lemmas.List.{get_or-set_same, get_or-set_other, length-set}
use Rattle.std.proofs.lemmas.List.Sums.{count_by_more_yes, count_by_more_no}
use Rattle.fz_sets.proofs.Lists.{all_get, all_more}
use Rattle.fz_dom.specs.Shape.{least, greatest}
use Rattle.fz_spec.specs.declared.term.Term.{Term}
use Rattle.fz_spec.specs.declared.term.Term.TheVariants.{Num}
use Rattle.fz_strength.specs.Domains.{term_set, AreDomains, IsTermOf}
use Rattle.fz_hall.specs.Counts.{AreCounts, AreOpens, IsInSpan}
use Rattle.fz_hall.proofs.Crowding.{not_true}
use Rattle.fz_hall.proofs.Pairs.{all_ordered}

-- ---- spans

widened : (ds : List (List (ℤ × ℤ))) (low high from to : ℤ) (xs : List Term) → from ≤ℤ low → high ≤ℤ to → AllByRecursion (IsInSpan ds low high) xs → AllByRecursion (IsInSpan ds from to) xs
widened ds low high from to [] before after all = tt
widened ds low high from to (x ∷ xs) before after all =
    let f = all.0.from in
    let t = all.0.to in
    (record { from = omega (arith, ints, before, f); to = omega (arith, ints, after, t) }, widened ds low high from to xs before after all.1)

pub span_more : (ds : List (List (ℤ × ℤ))) (low high from to : ℤ) (xs : List Term) (k : ℕ) → k < length xs → from ≤ℤ low → high ≤ℤ to → AllByRecursion (IsInSpan ds low high) (take k xs)
    → IsInSpan ds from to (get_or xs k (Num (pos 0))) → AllByRecursion (IsInSpan ds from to) (take (k + 1) xs)
span_more ds low high from to xs k within before after all here = rw add-one (all_more (IsInSpan ds from to) xs k (Num (pos 0)) within (widened ds low high from to (take k xs) before after all) here)

-- what holds of a term within 64 numbers
pub record IsNear (ds : List (List (ℤ × ℤ))) (low : ℤ) (t : Term) : Type 0 where
  pub from : low ≤ℤ least (term_set ds t)
  pub order : least (term_set ds t) ≤ℤ greatest (term_set ds t)
  pub to : greatest (term_set ds t) ≤ℤ (low +ℤ pos 63)

pub near_at : (ds : List (List (ℤ × ℤ))) (low high : ℤ) (xs : List Term) (k : ℕ) → k < length xs → AllByRecursion (IsTermOf (length ds)) xs → AreDomains ds → AllByRecursion (IsInSpan ds low high) xs
    → high ≤ℤ (low +ℤ pos 63) → IsNear ds low (get_or xs k (Num (pos 0)))
near_at ds low high xs k within terms domains span narrow =
    let inside = all_get (IsInSpan ds low high) xs k (Num (pos 0)) within span in
    let to = inside.to in
    record {
      from = inside.from;
      order = all_get (λ (t : Term). least (term_set ds t) ≤ℤ greatest (term_set ds t)) xs k (Num (pos 0)) within (all_ordered ds xs terms domains);
      to = omega (arith, ints, to, narrow);
    }

-- ---- counts

get_replicate : {X : Type 0} (n : ℕ) (x : X) (v : ℕ) → get_or (replicate n x) v x ≡ x
get_replicate zero x v = refl
get_replicate (suc n) x zero = refl
get_replicate (suc n) x (suc v) = get_replicate n x v

pub counts_none : (p : ℤ → Term → Bool) (low : ℤ) → AreCounts p [] low (replicate 64 0)
counts_none p low = record { each = λ v below. get_replicate 64 0 v; size = refl }

pub opens_none : (ds : List (List (ℤ × ℤ))) (low : ℤ) → AreOpens ds [] low (replicate 64 false)
opens_none ds low = record { each = λ v below none. tt; size = refl }

eq_yes : (a b : ℤ) → a ≡ b → int_eq a b ≡ true
eq_yes a b e = (Decides-int_eq a b).1 e

eq_no : (a b : ℤ) → a ≢ b → int_eq a b ≡ false
eq_no a b other = not_true (int_eq a b) (λ h. other ((Decides-int_eq a b).0 h))

pub counts_more : (f : Term → ℤ) (xs : List Term) (k : ℕ) (low : ℤ) (cs : List ℕ) (place : ℕ) → k < length xs → place < 64 → f (get_or xs k (Num (pos 0))) ≡ (low +ℤ pos place)
    → AreCounts (λ (n : ℤ) (t : Term). int_eq (f t) n) (take k xs) low cs → AreCounts (λ (n : ℤ) (t : Term). int_eq (f t) n) (take (k + 1) xs) low (slice_set cs place (get_or cs place 0 + 1))
counts_more f xs k low cs place within below at is =
    let size = is.size in
    record {
      each = λ v inside. elim (cases_eq v place) [
        | inl e ↦
            let same : get_or (slice_set cs place (get_or cs place 0 + 1)) v 0 ≡ get_or cs v 0 + 1 =
            ap (λ (i : ℕ). get_or (slice_set cs place (get_or cs place 0 + 1)) i 0) e ∙ get_or-set_same cs place (get_or cs place 0 + 1) 0 (omega (arith, below, size)) ∙ ap (λ (i : ℕ). get_or cs i 0 + 1) (sym e) in
            let yes : int_eq (f (get_or xs k (Num (pos 0)))) (low +ℤ pos v) ≡ true = eq_yes (f (get_or xs k (Num (pos 0)))) (low +ℤ pos v) (at ∙ ap (λ (i : ℕ). low +ℤ pos i) (sym e)) in
            same ∙ ap (λ (n : ℕ). n + 1) (is.each v inside) ∙ sym (count_by_more_yes (λ (t : Term). int_eq (f t) (low +ℤ pos v)) xs k (Num (pos 0)) within yes)
        | inr ne ↦
            let other : int_eq (f (get_or xs k (Num (pos 0)))) (low +ℤ pos v) ≡ false = eq_no (f (get_or xs k (Num (pos 0)))) (low +ℤ pos v) (λ (e : f (get_or xs k (Num (pos 0))) ≡ (low +ℤ pos v)). ne (omega (arith, ints, e, at))) in
            get_or-set_other cs place v (get_or cs place 0 + 1) 0 ne ∙ is.each v inside ∙ sym (count_by_more_no (λ (t : Term). int_eq (f t) (low +ℤ pos v)) xs k (Num (pos 0)) within other)
      ];
      size = length-set cs place (get_or cs place 0 + 1) ∙ size;
    }

-- one more term; a fixed one
pub opens_kept : (ds : List (List (ℤ × ℤ))) (xs : List Term) (k : ℕ) (low : ℤ) (os : List Bool) → k < length xs → least (term_set ds (get_or xs k (Num (pos 0)))) ≡ greatest (term_set ds (get_or xs k (Num (pos 0))))
    → AreOpens ds (take k xs) low os → AreOpens ds (take (k + 1) xs) low os
opens_kept ds xs k low os within fixed is = record {
  each = λ v inside closed. rw add-one (all_more (λ (t : Term). least (term_set ds t) ≡ (low +ℤ pos v) → greatest (term_set ds t) ≡ (low +ℤ pos v)) xs k (Num (pos 0)) within (is.each v inside closed) (λ e. sym fixed ∙ e));
  size = is.size;
}

-- one that is open, which is told
pub opens_more : (ds : List (List (ℤ × ℤ))) (xs : List Term) (k : ℕ) (low : ℤ) (os : List Bool) (place : ℕ) → k < length xs → place < 64 → least (term_set ds (get_or xs k (Num (pos 0)))) ≡ (low +ℤ pos place)
    → AreOpens ds (take k xs) low os → AreOpens ds (take (k + 1) xs) low (slice_set os place true)
opens_more ds xs k low os place within below at is =
    let size = is.size in
    let P : ℕ → Term → Type 0 = λ (v : ℕ) (t : Term). least (term_set ds t) ≡ (low +ℤ pos v) → greatest (term_set ds t) ≡ (low +ℤ pos v) in
    record {
      each = λ v inside closed. elim (cases_eq v place) [
        | inl e ↦
            let told : get_or (slice_set os place true) v false ≡ true = ap (λ (i : ℕ). get_or (slice_set os place true) i false) e ∙ get_or-set_same os place true false (omega (arith, below, size)) in
            absurd (cc (told, closed))
        | inr ne ↦
            let before : get_or os v false ≡ false = sym (get_or-set_other os place v true false ne) ∙ closed in
            rw add-one (all_more (P v) xs k (Num (pos 0)) within (is.each v inside before) (λ e. absurd (ne (omega (arith, ints, e, at)))))
      ];
      size = length-set os place true ∙ size;
    }
