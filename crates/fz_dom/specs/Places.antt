-- Numbers as bits of a word: bit i of it stands for base + i.
use Rattle.std.specs.Prelude.{◌≡◌, ℕ, zero, suc, ◌<◌, ◌%◌, ◌/◌, ℤ, pos, ◌+ℤ◌, List, [], ◌∷◌, nat_eq, if◌then◌else◌}
use Rattle.std.specs.Ordering.{int_eq}
use Rattle.std.specs.Int.{bit_at}
pub use Rattle.fz_bits.specs.Windows.{IsBit}

-- x is one of the numbers at the first n bits
abbrev pub IsPlace : ℕ → ℤ → ℕ → ℤ → Type 0
IsPlace n base bits x = (i : ℕ) × (i < n) × (x ≡ base +ℤ pos i) × (bit_at bits i ≡ 1)

-- rising ranges with one number more, which is below them
abbrev pub join : ℤ → List (ℤ × ℤ) → List (ℤ × ℤ)
join b [] = (b, b) ∷ []
join b (r ∷ rs) = if int_eq r.0 (b +ℤ pos 1) then (b, r.1) ∷ rs else (b, b) ∷ r ∷ rs

-- the rising ranges of the numbers at the first n bits
unfoldable pub ranges_at : ℕ → ℤ → ℕ → List (ℤ × ℤ)
ranges_at zero base bits = []
ranges_at (suc n) base bits =
    if nat_eq (bits % 2) 0
    then ranges_at n (base +ℤ pos 1) (bits / 2)
    else join base (ranges_at n (base +ℤ pos 1) (bits / 2))

-- the rising ranges of a word
unfoldable pub bit_ranges : ℤ → ℕ → List (ℤ × ℤ)
bit_ranges base bits = ranges_at 64 base bits
