-- The rows of each number of a column as words, as many for each.
use Rattle.std.specs.Prelude.{◌≡◌, ◌↔◌, ℕ, ◌≤◌, ◌+◌, ℤ, List, length, slice_get, slice_range, Some}
use Rattle.fz_bits.specs.Members.{HasMember}
use Rattle.fz_column.specs.declared.supports.Support.{Support}
use Rattle.fz_column.specs.declared.packed.Packed.{Packed}
use Rattle.fz_column.specs.declared.packed.Numbered.{Numbered}
use Rattle.fz_column.specs.Supports.{HasNumber, AreSized}

-- the words of a number
abbrev pub words_of : Packed → Numbered → List ℕ
words_of packed x = slice_range packed.words.items x.first (x.first + packed.width)

-- a number has a row in its words
abbrev pub HasRow : Packed → ℤ → ℕ → Type 0
HasRow packed n i = (k : ℕ) × (x : Numbered) × (slice_get packed.numbers.items k ≡ Some x) × (x.number ≡ n) × HasMember (words_of packed x) i

-- each number has its words
abbrev pub IsWhole : Packed → Type 0
IsWhole packed = (k : ℕ) (x : Numbered) → slice_get packed.numbers.items k ≡ Some x → x.first + packed.width ≤ length packed.words.items

-- it has the numbers and rows of a column, and its words reach no further than the column's rows
pub record ArePacked (column : List Support) (packed : Packed) : Type 0 where
  pub whole : IsWhole packed
  pub width : (size : ℕ) → AreSized column size → packed.width ≤ size
  pub rows : (n : ℤ) (i : ℕ) → HasRow packed n i ↔ HasNumber column n i
