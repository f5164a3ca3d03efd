-- The place of a byte of a text, as line and column, both counted from 1. A line ends with LF, and a column is a count of bytes.
use Rattle.std.specs.Prelude.{◌≡◌, ℕ, ◌+◌, ◌==◌, not, List, take, take_while, reverse, length, count_by, Bool}

abbrev pub is_line_end : ℕ → Bool
is_line_end b = b == 10

abbrev pub is_in_line : ℕ → Bool
is_in_line b = not (is_line_end b)

-- one more than the line ends before the byte
abbrev pub line_of : List ℕ → ℕ → ℕ
line_of text at = count_by is_line_end (take at text) + 1

-- one more than the bytes between the last line end before the byte and the byte
abbrev pub column_of : List ℕ → ℕ → ℕ
column_of text at = length (take_while is_in_line (reverse (take at text))) + 1

-- the line and the column of the byte at a place, or of the text's end
pub record IsPlaceOf (text : List ℕ) (at line column : ℕ) : Type 0 where
  pub line_is : line ≡ line_of text at
  pub column_is : column ≡ column_of text at
