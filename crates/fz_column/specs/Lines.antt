-- Words of rows, one for each number, by its place.
use Rattle.std.specs.Prelude.{ℕ, ◌<◌, List, slice_index}
use Rattle.fz_bits.specs.Words.{HasBit}

-- a row has one of some numbers
abbrev pub HasOneOf : List ℕ → ℕ → ℕ → Type 0
HasOneOf line numbers r = (k : ℕ) × (k < 64) × HasBit numbers k × HasBit (slice_index line k) r

-- one of some rows has a number
abbrev pub HasOneIn : List ℕ → ℕ → ℕ → Type 0
HasOneIn line rows k = (r : ℕ) × (r < 64) × HasBit rows r × HasBit (slice_index line k) r
