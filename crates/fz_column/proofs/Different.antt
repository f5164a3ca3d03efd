-- Terms of which none is a variable that stands at another place.
use Rattle.std.proofs.Common.{◌≡◌, ℕ, ◌+◌, ◌<◌, ◌≤◌, List, inl, inr, subst, arith, length}
use Rattle.std.specs.Prelude.{slice_get, Some}
use Rattle.std.proofs.lemmas.Bool.{cases_eq, cases_lt}
use Rattle.std.proofs.lemmas.Option.{slice_get_within}
use Rattle.fz_spec.specs.declared.term.Term.{Term}
use Rattle.fz_spec.specs.declared.term.Term.TheVariants.{Var}
use Rattle.fz_column.specs.Apart.{AreApart, IsNotBefore}

-- no variable stands at two places before one
abbrev pub AreApartBelow : List Term → ℕ → Type 0
AreApartBelow xs n = (j k v : ℕ) → j < k → k < n → slice_get xs j ≡ Some (Var v) → slice_get xs k ≡ Some (Var v) → ⊥

pub apart_none : (xs : List Term) → AreApartBelow xs 0
apart_none xs j k v before below = absurd (omega (arith, below))

pub apart_more : (xs : List Term) (n : ℕ) (t : Term) → slice_get xs n ≡ Some t → IsNotBefore xs n t → AreApartBelow xs n → AreApartBelow xs (n + 1)
apart_more xs n t at not h j k v before below at_j at_k = elim (cases_eq k n) [
  | inl e ↦
      let here : slice_get xs n ≡ Some (Var v) = subst (λ (i : ℕ). slice_get xs i ≡ Some (Var v)) e at_k in
      let is_v : t ≡ Var v = cc (at, here) in
      not j v is_v (omega (arith, before, e)) at_j
  | inr other ↦ h j k v before (omega (arith, below, other)) at_j at_k
]

pub apart_all : (xs : List Term) (n : ℕ) → length xs ≤ n → AreApartBelow xs n → AreApart xs
apart_all xs n end h j k v at_j at_k =
    let inside_j = slice_get_within xs j (Var v) at_j in
    let inside_k = slice_get_within xs k (Var v) at_k in
    elim (cases_eq j k) [
      | inl same ↦ same
      | inr other ↦ absurd (elim (cases_lt j k) [
        | inl before ↦ h j k v before (omega (arith, inside_k, end)) at_j at_k
        | inr after ↦ h k j v (omega (arith, after, other)) (omega (arith, inside_j, end)) at_k at_j
      ])
    ]
