-- Rows of bits as words, as many for each.
use Rattle.std.specs.Prelude.{ℕ, ◌<◌, ◌≤◌, ◌+◌, ◌*◌, ◌/◌, ◌%◌, length, slice_index}
use Rattle.fz_bits.specs.Words.{HasBit}
use Rattle.fz_regular.specs.declared.bit_rows.BitRows.{BitRows}

-- how many words that many bits take
abbrev pub width_for : ℕ → ℕ
width_for bits = (bits + 63) / 64

-- the row is there, and its bits have 32 bits
abbrev pub HasRow : BitRows → ℕ → Type 0
HasRow b i = (i * b.width + b.width ≤ length b.words.items) × (b.width ≤ 67108864)

-- a word of a row
abbrev pub word_at : BitRows → ℕ → ℕ → ℕ
word_at b i place = slice_index b.words.items (i * b.width + place)

-- a bit of a row is set
abbrev pub Has : BitRows → ℕ → ℕ → Type 0
Has b i k = (k / 64 < b.width) × HasBit (word_at b i (k / 64)) (k % 64)

-- the first number from one on with a property
pub record IsNext (P : ℕ → Type 0) (from k : ℕ) : Type 0 where
  pub at_least : from ≤ k
  pub has : P k
  pub first : (j : ℕ) → from ≤ j → j < k → P j → ⊥

-- a bit of a row of each of two is set
abbrev pub HaveBoth : BitRows → ℕ → BitRows → ℕ → ℕ → Type 0
HaveBoth b i c j k = Has b i k × Has c j k
