-- The numbers of fixed places, with these.
use Rattle.std.specs.Prelude.{◌≢◌, ◌+◌, ◌<◌, ◌<ℤ◌, ℕ, ℤ, pos, List, length, slice_index_or}
use Rattle.std.specs.List.{AllByRecursion, Contains}
use Rattle.fz_spec.specs.declared.term.Term.{Term}
use Rattle.fz_alldiff.specs.Differing.{IsOnlyAt}

-- the number of each fixed place stands among these with its place, and these are all of places that have it alone
pub record AreEntriesOf (xs : List Term) (ds : List (List (ℤ × ℤ))) (es : List (ℤ × ℕ)) : Type 0 where
  pub each : (i : ℕ) (n : ℤ) → IsOnlyAt xs ds i n → Contains es (n, i)
  pub only : AllByRecursion (λ (e : ℤ × ℕ). IsOnlyAt xs ds e.1 e.0) es

-- each number is below the next
abbrev pub AreRising : List (ℤ × ℕ) → Type 0
AreRising es = (k : ℕ) → k + 1 < length es → (slice_index_or es k (pos 0, 0)).0 <ℤ (slice_index_or es (k + 1) (pos 0, 0)).0

-- none has this number
abbrev pub IsFreeOf : List (ℤ × ℕ) → ℤ → Type 0
IsFreeOf es n = AllByRecursion (λ (e : ℤ × ℕ). n ≢ e.0) es
