-- Propagators by words of bits: propagator i is bit i % 64 of word i / 64.
use Rattle.std.specs.Prelude.{◌≡◌, ℕ, zero, suc, ◌+◌, ◌*◌, ◌/◌, ◌%◌, List, [], ◌∷◌, map, length, slice_index, nat_eq, if◌then◌else◌}
use Rattle.std.specs.List.{range_with_len}
use Rattle.std.specs.Int.{bit_at}
use Rattle.fz_bits.specs.Members.{words_for}

-- the propagators of the first n bits of a word that are set
unfoldable pub first_members : ℕ → ℕ → ℕ → List ℕ
first_members word bits zero = []
first_members word bits (suc n) = if nat_eq (bit_at bits n) 1 then ((word * 64 + n) ∷ first_members word bits n) else first_members word bits n

unfoldable pub members_of : ℕ → ℕ → List ℕ
members_of word bits = first_members word bits 64

-- a propagator's bit of some words
abbrev pub bit_of : List ℕ → ℕ → ℕ
bit_of words i = bit_at (slice_index words (i / 64)) (i % 64)

-- gone where it isn't alive, else queued or idle
abbrev pub state_at : List ℕ → List ℕ → ℕ → ℕ
state_at alive queued i = if nat_eq (bit_of alive i) 1 then bit_of queued i else 2

unfoldable pub states_of : List ℕ → List ℕ → ℕ → List ℕ
states_of alive queued count = map (state_at alive queued) (range_with_len 0 count)

-- a word for each of that many
pub record HaveWords (living waiting : List ℕ) (count : ℕ) : Type 0 where
  pub alive : length living ≡ words_for count
  pub queued : length waiting ≡ words_for count
