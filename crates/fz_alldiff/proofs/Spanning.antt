-- The ends of all that is left of terms, term by term.
use Rattle.std.proofs.Common.{◌≡◌, ◌<◌, ◌≤◌, ℕ, ◌+◌, List, subst, arith, length, inl, inr}
use Rattle.std.specs.Prelude.{ℤ, ◌≤ℤ◌, slice_get, Some, None, Option, IfSome}
use Rattle.std.specs.Int.{int_min, int_max}
use Rattle.std.proofs.lemmas.Bool.{cases_eq}
use Rattle.std.proofs.lemmas.Int.{ints, clamps}
use Rattle.std.proofs.lemmas.Option.{slice_get_within}
use Rattle.fz_sets.specs.Sets.{IsInSet}
use Rattle.fz_dom.specs.Changes.{IsFromTo}
use Rattle.fz_spec.specs.declared.term.Term.{Term}
use Rattle.fz_strength.specs.Domains.{term_set, IsNarrower}
use Rattle.fz_prop.proofs.TermChanges.{narrower_term}
use Rattle.fz_alldiff.specs.Freeing.{AreBetween}
use Rattle.fz_alldiff.specs.declared.span.Span.{Span}
use Rattle.fz_alldiff.proofs.Clearing.{same_term}

-- what is left of the places before place k lies from a low to a high
abbrev pub AreBetweenBelow : List Term → List (List (ℤ × ℤ)) → ℤ → ℤ → ℕ → Type 0
AreBetweenBelow xs ds low high k = (i : ℕ) (x : Term) (n : ℤ) → i < k → slice_get xs i ≡ Some x → IsInSet (term_set ds x) n → IsFromTo low high n

pub between_more : (xs : List Term) (ds : List (List (ℤ × ℤ))) (low high l g m n : ℤ) (k : ℕ) (z : Term) → slice_get xs k ≡ Some z → ((v : ℤ) → IsInSet (term_set ds z) v → l ≤ℤ v)
    → ((v : ℤ) → IsInSet (term_set ds z) v → v ≤ℤ g) → m ≡ int_min low l → n ≡ int_max high g → AreBetweenBelow xs ds low high k → AreBetweenBelow xs ds m n (k + 1)
between_more xs ds low high l g m n k z at from to is_m is_n h = λ i x v below at_i is. elim (cases_eq i k) [
  | inl e ↦
      let same : x ≡ z = same_term xs k x z (subst (λ (q : ℕ). slice_get xs q ≡ Some x) e at_i) at in
      let here : IsInSet (term_set ds z) v = subst (λ (t : Term). IsInSet (term_set ds t) v) same is in
      let v_from = from v here in
      let v_to = to v here in
      (omega (arith, ints, clamps, v_from, is_m), omega (arith, ints, clamps, v_to, is_n))
  | inr ne ↦
      let old = h i x v (omega (arith, below, ne)) at_i is in
      let v_from = old.0 in
      let v_to = old.1 in
      (omega (arith, ints, clamps, v_from, is_m), omega (arith, ints, clamps, v_to, is_n))
]

pub between_all : (xs : List Term) (ds : List (List (ℤ × ℤ))) (low high : ℤ) (k : ℕ) → length xs ≤ k → AreBetweenBelow xs ds low high k → AreBetween xs ds low high
between_all xs ds low high k end h = λ i x n at is. h i x n (let inside = slice_get_within xs i x at in omega (arith, end, inside)) at is

pub spanned : (o : Option Span) (xs : List Term) (ds : List (List (ℤ × ℤ))) (low high : ℤ) → IfSome o (λ s. s.low ≡ low) → IfSome o (λ s. s.high ≡ high) → AreBetween xs ds low high
    → IfSome o (λ s. AreBetween xs ds s.low s.high)
spanned None xs ds low high from to h = tt
spanned (Some s) xs ds low high from to h = rw (from, to) h

pub between_still : (xs : List Term) (ds es : List (List (ℤ × ℤ))) (low high : ℤ) → IsNarrower ds es → AreBetween xs ds low high → AreBetween xs es low high
between_still xs ds es low high narrower h = λ i x n at is. h i x n at (narrower_term ds es x narrower n is)
