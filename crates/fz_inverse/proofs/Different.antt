-- Terms of two lists that are different variables.
use Rattle.std.proofs.Common.{◌≡◌, ℕ, ◌+◌, ◌<◌, ◌≤◌, List, inl, inr, subst, arith, length}
use Rattle.std.specs.Prelude.{slice_get, Some}
use Rattle.std.proofs.lemmas.Bool.{cases_eq, cases_lt}
use Rattle.std.proofs.lemmas.Option.{slice_get_within}
use Rattle.fz_spec.specs.declared.term.Term.{Term}
use Rattle.fz_spec.specs.declared.term.Term.TheVariants.{Var}
use Rattle.fz_column.specs.Apart.{IsNotBefore}
use Rattle.fz_inverse.specs.Pointing.{AreApart}

-- so it is of those before a place
pub record AreApartBelow (fs gs : List Term) (n : ℕ) : Type 0 where
  pub others : (i j v : ℕ) → j < n → slice_get fs i ≡ Some (Var v) → slice_get gs j ≡ Some (Var v) → ⊥
  pub once : (i j v : ℕ) → i < j → j < n → slice_get gs i ≡ Some (Var v) → slice_get gs j ≡ Some (Var v) → ⊥

pub apart_none : (fs gs : List Term) → AreApartBelow fs gs 0
apart_none fs gs = record { others = λ i j v below. absurd (omega (arith, below)); once = λ i j v before below. absurd (omega (arith, below)) }

is_here : (gs : List Term) (n j v : ℕ) (t : Term) → slice_get gs n ≡ Some t → slice_get gs j ≡ Some (Var v) → j ≡ n → t ≡ Var v
is_here gs n j v t at at_j one = let here : slice_get gs n ≡ Some (Var v) = subst (λ (i : ℕ). slice_get gs i ≡ Some (Var v)) one at_j in cc (at, here)

pub apart_more : (fs gs : List Term) (n : ℕ) (t : Term) → slice_get gs n ≡ Some t → IsNotBefore fs (length fs) t → IsNotBefore gs n t → AreApartBelow fs gs n → AreApartBelow fs gs (n + 1)
apart_more fs gs n t at not_first not_before h = record {
  others = λ i j v below at_i at_j. elim (cases_eq j n) [
    | inl one ↦ not_first i v (is_here gs n j v t at at_j one) (slice_get_within fs i (Var v) at_i) at_i
    | inr other ↦ h.others i j v (omega (arith, below, other)) at_i at_j
  ];
  once = λ i j v before below at_i at_j. elim (cases_eq j n) [
    | inl one ↦ not_before i v (is_here gs n j v t at at_j one) (omega (arith, before, one)) at_i
    | inr other ↦ h.once i j v before (omega (arith, below, other)) at_i at_j
  ];
}

pub apart_all : (fs gs : List Term) (n : ℕ) → length gs ≤ n → AreApartBelow fs gs n → AreApart fs gs
apart_all fs gs n end h = record {
  others = λ i j v at_i at_j. (let inside = slice_get_within gs j (Var v) at_j in h.others i j v (omega (arith, inside, end)) at_i at_j);
  once = λ i j v at_i at_j.
      let inside_i = slice_get_within gs i (Var v) at_i in
      let inside_j = slice_get_within gs j (Var v) at_j in
      elim (cases_eq i j) [
        | inl same ↦ same
        | inr other ↦ absurd (elim (cases_lt i j) [
          | inl before ↦ h.once i j v before (omega (arith, inside_j, end)) at_i at_j
          | inr after ↦ h.once j i v (omega (arith, after, other)) (omega (arith, inside_i, end)) at_j at_i
        ])
      ];
}
