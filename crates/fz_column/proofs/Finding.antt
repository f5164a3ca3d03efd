-- The ranges of the numbers of a column, and the loops over the ranges of a domain.
use Rattle.std.proofs.Common.{◌≡◌, ℕ, ◌<◌, List, [], ◌∷◌, ◌⊎◌, inl, inr, ◌∙◌, length}
use Rattle.std.specs.Prelude.{ℤ, slice_get, Some, ◌↔◌}
use Rattle.fz_sets.specs.Sets.{IsInSet, IsInRange}
use Rattle.fz_column.specs.declared.supports.Support.{Support}
use Rattle.fz_bits.specs.Members.{HasMember}
use Rattle.fz_column.specs.Supports.{StandsIn, IsLeftIn}

-- ---- the ranges of all numbers

-- numbers are those of the supports before place k
abbrev pub AreSpansBelow : List Support → List (ℤ × ℤ) → ℕ → Type 0
AreSpansBelow supports spans k = (n : ℤ) → IsInSet spans n ↔ ((j : ℕ) × (s : Support) × (j < k) × (slice_get supports j ≡ Some s) × (s.number ≡ n))

-- ---- the loops over ranges

-- rows that are found, and those that the ranges that are left have, are all that are to be found
pub record AreJoining (column : List Support) (dom rest : List (ℤ × ℤ)) (old rows : List ℕ) : Type 0 where
  pub joining : (i : ℕ) → (HasMember rows i ⊎ IsLeftIn column rest i) ↔ (HasMember old i ⊎ IsLeftIn column dom i)
  pub size : length rows ≡ length old

pub joining_more : (column : List Support) (dom ranges rest : List (ℤ × ℤ)) (r : ℤ × ℤ) (old rows new : List ℕ) → ranges ≡ r ∷ rest
    → ((i : ℕ) → HasMember new i ↔ (HasMember rows i ⊎ IsLeftIn column (r ∷ []) i)) → length new ≡ length rows → AreJoining column dom ranges old rows → AreJoining column dom rest old new
joining_more column dom ranges rest r old rows new is more same h = record {
  joining = λ i.
      let before = rw is at h.joining i in (
        (λ g. elim g [
          | inl has ↦ elim ((more i).0 has) [
            | inl had ↦ before.0 (inl had)
            | inr w ↦ elim w.2 [ inl within ↦ before.0 (inr (w.0, w.1, inl within)) | inr none ↦ absurd none ]
          ]
          | inr w ↦ before.0 (inr (w.0, w.1, inr w.2))
        ]),
        (λ g. elim (before.1 g) [
          | inl had ↦ inl ((more i).1 (inl had))
          | inr w ↦ elim w.2 [ inl within ↦ inl ((more i).1 (inr (w.0, w.1, inl within))) | inr later ↦ inr (w.0, w.1, later) ]
        ]),
      );
  size = same ∙ h.size;
}

-- numbers that are found, and those that the ranges that are left have, are all that are to be found
abbrev pub AreGathering : List Support → List ℕ → List (ℤ × ℤ) → List (ℤ × ℤ) → List (ℤ × ℤ) → Type 0
AreGathering column rows dom rest numbers = (n : ℤ) → (IsInSet numbers n ⊎ (IsInSet rest n × StandsIn column rows n)) ↔ (IsInSet dom n × StandsIn column rows n)

pub gathering_more : (column : List Support) (rows : List ℕ) (dom ranges rest : List (ℤ × ℤ)) (r : ℤ × ℤ) (numbers new : List (ℤ × ℤ)) → ranges ≡ r ∷ rest
    → ((n : ℤ) → IsInSet new n ↔ (IsInSet numbers n ⊎ (IsInRange r n × StandsIn column rows n))) → AreGathering column rows dom ranges numbers → AreGathering column rows dom rest new
gathering_more column rows dom ranges rest r numbers new is more h = λ n.
    let before = rw is at h n in (
      (λ g. elim g [
        | inl has ↦ elim ((more n).0 has) [ inl had ↦ before.0 (inl had) | inr w ↦ before.0 (inr (inl w.0, w.1)) ]
        | inr w ↦ before.0 (inr (inr w.0, w.1))
      ]),
      (λ g. elim (before.1 g) [
        | inl had ↦ inl ((more n).1 (inl had))
        | inr w ↦ elim w.0 [ inl within ↦ inl ((more n).1 (inr (within, w.1))) | inr later ↦ inr (later, w.1) ]
      ]),
    )
