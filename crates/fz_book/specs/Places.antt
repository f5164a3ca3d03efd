-- Places among the open parts.
use Rattle.std.specs.Prelude.{◌≡◌, ℕ, ◌<◌, true, List, length, slice_index_or}
use Rattle.fz_tree.specs.Frontier.{Frontier}
use Rattle.fz_tree.specs.Book.{Part, IsAt, IsFirstUnclaimed}

-- no part is this frontier; no claimed one is
abbrev pub IsNowhere : List Part → Frontier → Type 0
IsNowhere ps f = (k : ℕ) → k < length ps → (d : Part) → (slice_index_or ps k d).frontier ≡ f → ⊥

abbrev pub HasNoClaimed : List Part → Frontier → Type 0
HasNoClaimed ps f = (k : ℕ) → k < length ps → (d : Part) → (slice_index_or ps k d).frontier ≡ f → (slice_index_or ps k d).claimed ≡ true → ⊥

-- at a claimed part that is this frontier
pub record IsClaimedAt (ps : List Part) (f : Frontier) (i : ℕ) : Type 0 where
  pub at : IsAt ps f i
  pub claimed : (d : Part) → (slice_index_or ps i d).claimed ≡ true

-- the first part that nobody has claimed
pub record IsUnclaimedAt (ps : List Part) (i : ℕ) : Type 0 where
  pub within : i < length ps
  pub first : IsFirstUnclaimed ps i
