-- Some of 64 numbers that follow one another, as the ones of a word: bit i stands for base + i.
use Rattle.std.specs.Prelude.{◌≡◌, ℕ, ◌<◌, ℤ, pos, ◌+ℤ◌}
use Rattle.fz_bits.specs.Words.{HasBit}

-- one of the numbers of a word
abbrev pub IsBit : ℤ → ℕ → ℤ → Type 0
IsBit base bits x = (i : ℕ) × (i < 64) × (x ≡ base +ℤ pos i) × HasBit bits i
