-- Terms at both ends that have no number in common with any other, and those between.
use Rattle.std.specs.Prelude.{◌≡◌, ℕ, ◌<◌, ◌≤◌, ◌+◌, ◌-◌, ℤ, List, length, slice_get, Some}
use Rattle.fz_spec.specs.declared.term.Term.{Term}
use Rattle.fz_prop.specs.Told.{IsAlone}

-- none of that many at the front has a number in common with another
abbrev pub AreAloneBelow : List Term → List (List (ℤ × ℤ)) → ℕ → Type 0
AreAloneBelow ts ds front = (i : ℕ) (t : Term) → i < front → slice_get ts i ≡ Some t → IsAlone ts ds i t

-- none of that many at the back has a number in common with another
abbrev pub AreAloneBehind : List Term → List (List (ℤ × ℤ)) → ℕ → Type 0
AreAloneBehind ts ds back = (i : ℕ) (t : Term) → length ts ≤ i + back → slice_get ts i ≡ Some t → IsAlone ts ds i t

-- a list is of all items but that many at the front and at the back
pub record IsBetween (ts : List Term) (front back : ℕ) (part : List Term) : Type 0 where
  pub inside : (i : ℕ) (t : Term) → slice_get part i ≡ Some t → slice_get ts (front + i) ≡ Some t
  pub all : (i : ℕ) (t : Term) → front ≤ i → i + back < length ts → slice_get ts i ≡ Some t → slice_get part (i - front) ≡ Some t
