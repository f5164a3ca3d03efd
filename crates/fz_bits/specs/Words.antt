-- A word of 64 bits as the set of the places of its ones, which are below 64.
use Rattle.std.specs.Prelude.{◌≡◌, ◌↔◌, ℕ, ◌<◌}
use Rattle.std.specs.Int.{bit_at}

abbrev pub HasBit : ℕ → ℕ → Type 0
HasBit word k = bit_at word k ≡ 1

-- the ones stand at the places that have a property
abbrev pub AreOnes : ℕ → (ℕ → Type 0) → Type 0
AreOnes word P = (k : ℕ) → k < 64 → HasBit word k ↔ P k
