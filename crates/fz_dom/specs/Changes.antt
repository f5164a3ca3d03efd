-- What a change of a domain says, and what it leaves.
use Rattle.std.specs.Prelude.{◌≡◌, ℤ, ◌≤ℤ◌, ◌<◌, ◌↔◌, List, length}
use Rattle.fz_sets.specs.Sets.{IsInSet, set_size}
use Rattle.fz_dom.specs.declared.change.Change.{Change}
use Rattle.fz_dom.specs.declared.change.Change.TheVariants.{Same, Changed, Wiped}

-- exactly the members with a property stay
abbrev pub IsKeeping : (ℤ → Type 0) → List (ℤ × ℤ) → List (ℤ × ℤ) → Type 0
IsKeeping P d e = (x : ℤ) → IsInSet e x ↔ (IsInSet d x × P x)

-- d becomes e where the members with a property are to stay: nothing leaves, something leaves and something stays, or
-- nothing would stay, and then d is left as it is
abbrev pub IsChange : Change → (ℤ → Type 0) → List (ℤ × ℤ) → List (ℤ × ℤ) → Type 0
IsChange Same P d e = (e ≡ d) × ((x : ℤ) → IsInSet d x → P x) × (0 < length d)
IsChange Changed P d e = IsKeeping P d e × (set_size e < set_size d) × (0 < length e)
IsChange Wiped P d e = (e ≡ d) × ((x : ℤ) → IsInSet d x → P x → ⊥)

-- from a low to a high, both in it
abbrev pub IsFromTo : ℤ → ℤ → ℤ → Type 0
IsFromTo l u x = (l ≤ℤ x) × (x ≤ℤ u)
