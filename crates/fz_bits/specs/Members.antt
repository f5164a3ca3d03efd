-- Sets of numbers as lists of words: bit k of word w stands for 64 w + k.
use Rattle.std.specs.Prelude.{◌≡◌, ℕ, suc, ◌/◌, ◌%◌, List, slice_index}
use Rattle.fz_bits.specs.declared.chunk.Chunk.{Chunk}
use Rattle.fz_bits.specs.Words.{HasBit}

-- a number is in the set
abbrev pub HasMember : List ℕ → ℕ → Type 0
HasMember words i = HasBit (slice_index words (i / 64)) (i % 64)

-- a number is one of a word's
abbrev pub IsOneOf : Chunk → ℕ → Type 0
IsOneOf chunk i = (chunk.word ≡ i / 64) × HasBit chunk.bits (i % 64)

-- how many words a set of numbers below a size has
abbrev pub words_for : ℕ → ℕ
words_for size = suc (size / 64)
