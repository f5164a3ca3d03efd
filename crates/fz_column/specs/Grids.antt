-- Rows of a table, 64 to a line, and the numbers that they have.
use Rattle.std.specs.Prelude.{ℕ, ◌<◌, ◌/◌, ◌%◌, List, [], slice_index, slice_index_or}
use Rattle.fz_bits.specs.Words.{HasBit}
use Rattle.fz_bits.specs.Members.{HasMember}
use Rattle.fz_column.specs.declared.grid.Grid.{Grid}

-- the words of a line, none where it isn't there
abbrev pub line_at : Grid → ℕ → List ℕ
line_at grid line = slice_index_or grid.lines.items line []

-- a row has the number at a place
abbrev pub HasRow : Grid → ℕ → ℕ → Type 0
HasRow grid k i = HasBit (slice_index (line_at grid (i / 64)) k) (i % 64)

-- each number that a row has is one of 64, and one of all
abbrev pub IsWhole : Grid → Type 0
IsWhole grid = (k i : ℕ) → HasRow grid k i → (k < 64) × HasBit grid.all k

-- a row has one of some numbers
abbrev pub HasRowOf : Grid → ℕ → ℕ → Type 0
HasRowOf grid numbers i = (k : ℕ) × HasBit numbers k × HasRow grid k i

-- one of some rows has a number
abbrev pub HasNumberOf : Grid → List ℕ → ℕ → Type 0
HasNumberOf grid rows k = (i : ℕ) × HasMember rows i × HasRow grid k i
