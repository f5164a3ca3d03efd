-- The numbers of a term that can point back, as bits and as ranges.
use Rattle.std.proofs.Common.{◌≡◌, ℕ, ◌+◌, ◌<◌, ◌≤◌, List, [], ◌∷◌, ◌++◌, ◌⊎◌, inl, inr, sym, ap, subst, ◌∙◌, arith, length, pos}
use Rattle.std.specs.Prelude.{ℤ, ◌+ℤ◌, ◌↔◌, slice_get, Some}
use Rattle.std.proofs.lemmas.Bool.{cases_eq}
use Rattle.std.proofs.lemmas.Int.{ints}
use Rattle.std.proofs.lemmas.Nat.Bits.{bit_at-zero}
use Rattle.std.proofs.lemmas.Option.{slice_get_within}
use Rattle.fz_sets.specs.Sets.{IsInSet, AreOneSet, AreWithinLimits}
use Rattle.fz_bits.specs.Words.{HasBit, AreOnes}
use Rattle.fz_bits.specs.Windows.{IsBit}
use Rattle.fz_spec.specs.declared.term.Term.{Term}
use Rattle.fz_strength.specs.Domains.{term_set}
use Rattle.fz_prop.proofs.Grown.{in_more, in_before, in_last, limits_more}
use Rattle.fz_inverse.specs.Pointing.{CanPointBack, IsLeft, IsLeftAt}

-- of the term that stands at an index it is told whether a place is left
pub left_here : (others : List Term) (ds : List (List (ℤ × ℤ))) (place index : ℕ) (t : Term) → slice_get others index ≡ Some t → IsLeftAt others ds place index → IsInSet (term_set ds t) (pos (place + 1))
left_here others ds place index t at h =
    let same : h.term ≡ t = cc (h.stands, at) in
    subst (λ (u : Term). IsInSet (term_set ds u) (pos (place + 1))) same h.left

-- ---- bits

-- bit k stands for a number that is left and can point back, if its index is below one
pub record IsKeptBelow (others : List Term) (ds : List (List (ℤ × ℤ))) (place left n k : ℕ) : Type 0 where
  pub below : k < n
  pub was : HasBit left k
  pub back : IsLeftAt others ds place k

pub bits_none : (others : List Term) (ds : List (List (ℤ × ℤ))) (place left : ℕ) → AreOnes 0 (λ k. IsKeptBelow others ds place left 0 k)
bits_none others ds place left k small = (
  (λ has. let none = bit_at-zero k in absurd (omega (arith, none, has))),
  (λ h. let below = h.below in absurd (omega (arith, below))),
)

pub bits_passed : (others : List Term) (ds : List (List (ℤ × ℤ))) (place left n kept : ℕ) → (HasBit left n → IsLeftAt others ds place n → ⊥) → AreOnes kept (λ k. IsKeptBelow others ds place left n k)
    → AreOnes kept (λ k. IsKeptBelow others ds place left (n + 1) k)
bits_passed others ds place left n kept not h k small = (
  (λ has. let w = (h k small).0 has in let below = w.below in record { below = omega (arith, below); was = w.was; back = w.back }),
  (λ w. (h k small).1 (elim (cases_eq k n) [
    | inl one ↦ absurd (not (subst (λ (i : ℕ). HasBit left i) one w.was) (subst (λ (i : ℕ). IsLeftAt others ds place i) one w.back))
    | inr other ↦ let below = w.below in record { below = omega (arith, below, other); was = w.was; back = w.back }
  ])),
)

pub bits_more : (others : List Term) (ds : List (List (ℤ × ℤ))) (place left n kept more : ℕ) → HasBit left n → IsLeftAt others ds place n → AreOnes more (λ k. HasBit kept k ⊎ (k ≡ n))
    → AreOnes kept (λ k. IsKeptBelow others ds place left n k) → AreOnes more (λ k. IsKeptBelow others ds place left (n + 1) k)
bits_more others ds place left n kept more was back ones h k small = (
  (λ has. elim ((ones k small).0 has) [
    | inl before ↦ let w = (h k small).0 before in let below = w.below in record { below = omega (arith, below); was = w.was; back = w.back }
    | inr one ↦ record { below = omega (arith, one); was = subst (λ (i : ℕ). HasBit left i) (sym one) was; back = subst (λ (i : ℕ). IsLeftAt others ds place i) (sym one) back }
  ]),
  (λ w. (ones k small).1 (elim (cases_eq k n) [
    | inl one ↦ inr one
    | inr other ↦ let below = w.below in inl ((h k small).1 (record { below = omega (arith, below, other); was = w.was; back = w.back }))
  ])),
)

pub bits_all : (others : List Term) (ds : List (List (ℤ × ℤ))) (term : Term) (place left n kept : ℕ) → AreOnes left (λ k. IsInSet (term_set ds term) (pos 1 +ℤ pos k)) → length others ≤ 64 → length others ≤ n
    → AreOnes kept (λ k. IsKeptBelow others ds place left n k) → (x : ℤ) → IsInSet (term_set ds term) x → IsBit (pos 1) kept x ↔ CanPointBack others ds place x
bits_all others ds term place left n kept lefts few end h x is = (
  (λ bit. let at = bit.2 in record { index = bit.0; is_place = omega (arith, ints, at); back = ((h bit.0 bit.1).0 bit.3).back }),
  (λ w.
      let inside = slice_get_within others w.index w.back.term w.back.stands in
      let small : w.index < 64 = omega (arith, inside, few) in
      let at = w.is_place in
      let is_bit : x ≡ pos 1 +ℤ pos w.index = omega (arith, ints, at) in
      let was : HasBit left w.index = (lefts w.index small).1 (subst (IsInSet (term_set ds term)) is_bit is) in
      (w.index, small, is_bit, (h w.index small).1 (record { below = omega (arith, inside, end); was = was; back = w.back }))),
)

-- ---- ranges

-- a number that is left can point back to a term whose index is below one
pub record IsFoundBelow (others : List Term) (ds : List (List (ℤ × ℤ))) (term : Term) (place n : ℕ) (x : ℤ) : Type 0 where
  pub index : ℕ
  pub below : index < n
  pub is_place : x ≡ pos (index + 1)
  pub was : IsInSet (term_set ds term) x
  pub back : IsLeftAt others ds place index

pub record AreFoundBelow (others : List Term) (ds : List (List (ℤ × ℤ))) (term : Term) (place n : ℕ) (rs : List (ℤ × ℤ)) : Type 0 where
  pub limits : AreWithinLimits rs
  pub numbers : (x : ℤ) → IsInSet rs x ↔ IsFoundBelow others ds term place n x

found_later : (others : List Term) (ds : List (List (ℤ × ℤ))) (term : Term) (place n : ℕ) (x : ℤ) → IsFoundBelow others ds term place n x → IsFoundBelow others ds term place (n + 1) x
found_later others ds term place n x w = let below = w.below in record { index = w.index; below = omega (arith, below); is_place = w.is_place; was = w.was; back = w.back }

found_earlier : (others : List Term) (ds : List (List (ℤ × ℤ))) (term : Term) (place n : ℕ) (x : ℤ) (w : IsFoundBelow others ds term place (n + 1) x) → (w.index ≡ n → ⊥) → IsFoundBelow others ds term place n x
found_earlier others ds term place n x w other = let below = w.below in record { index = w.index; below = omega (arith, below, other); is_place = w.is_place; was = w.was; back = w.back }

pub found_none : (others : List Term) (ds : List (List (ℤ × ℤ))) (term : Term) (place : ℕ) → AreFoundBelow others ds term place 0 []
found_none others ds term place = record {
  limits = tt;
  numbers = λ x. ((λ none. absurd none), (λ w. let below = w.below in absurd (omega (arith, below))));
}

pub found_passed : (others : List Term) (ds : List (List (ℤ × ℤ))) (term : Term) (place n : ℕ) (rs : List (ℤ × ℤ)) → (IsInSet (term_set ds term) (pos (n + 1)) → IsLeftAt others ds place n → ⊥)
    → AreFoundBelow others ds term place n rs → AreFoundBelow others ds term place (n + 1) rs
found_passed others ds term place n rs not h = record {
  limits = h.limits;
  numbers = λ x. (
    (λ is. found_later others ds term place n x ((h.numbers x).0 is)),
    (λ w. (h.numbers x).1 (found_earlier others ds term place n x w (λ one.
        not (subst (IsInSet (term_set ds term)) (w.is_place ∙ ap (λ (i : ℕ). pos (i + 1)) one) w.was) (subst (λ (i : ℕ). IsLeftAt others ds place i) one w.back)))),
  );
}

pub found_more : (others : List Term) (ds : List (List (ℤ × ℤ))) (term : Term) (place n : ℕ) (number : ℤ) (rs : List (ℤ × ℤ)) → IsLeft n number (term_set ds term) → IsLeftAt others ds place n
    → AreFoundBelow others ds term place n rs → AreFoundBelow others ds term place (n + 1) (rs ++ (number, number) ∷ [])
found_more others ds term place n number rs left back h = record {
  limits = limits_more rs number h.limits left.within;
  numbers = λ x. (
    (λ is. elim (in_more rs number x is) [
      | inl before ↦ found_later others ds term place n x ((h.numbers x).0 before)
      | inr one ↦ record { index = n; below = omega arith; is_place = one ∙ left.is_place; was = subst (IsInSet (term_set ds term)) (sym one) left.left; back = back }
    ]),
    (λ w. elim (cases_eq w.index n) [
      | inl one ↦ in_last rs number x (w.is_place ∙ ap (λ (i : ℕ). pos (i + 1)) one ∙ sym left.is_place)
      | inr other ↦ in_before rs number x ((h.numbers x).1 (found_earlier others ds term place n x w other))
    ]),
  );
}

pub found_all : (others : List Term) (ds : List (List (ℤ × ℤ))) (term : Term) (place n : ℕ) (rs d : List (ℤ × ℤ)) → length others ≤ n → AreOneSet d rs → AreFoundBelow others ds term place n rs
    → (x : ℤ) → IsInSet (term_set ds term) x → IsInSet d x ↔ CanPointBack others ds place x
found_all others ds term place n rs d end same h x is = (
  (λ in_d. let w = (h.numbers x).0 ((same x).0 in_d) in record { index = w.index; is_place = w.is_place; back = w.back }),
  (λ w.
      let inside = slice_get_within others w.index w.back.term w.back.stands in
      (same x).1 ((h.numbers x).1 (record { index = w.index; below = omega (arith, inside, end); is_place = w.is_place; was = is; back = w.back }))),
)
