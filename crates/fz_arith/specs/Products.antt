-- When the ends of a factor are kept by those of the other and of the product.
use Rattle.std.specs.Prelude.{◌≡◌, ℤ, pos, ◌≤ℤ◌, ◌⊎◌}

-- one of two products is an end
abbrev pub IsEnd : ℤ × ℤ → ℤ × ℤ → Type 0
IsEnd products ends = ((products.0 ≡ ends.0) ⊎ (products.0 ≡ ends.1)) ⊎ ((products.1 ≡ ends.0) ⊎ (products.1 ≡ ends.1))

-- The other may be 0, and so says nothing of it; or an end of the product comes of its least number, and one of its greatest.
abbrev pub IsKept : ℤ → ℤ → ℤ × ℤ → ℤ × ℤ → ℤ × ℤ → Type 0
IsKept low high at_low at_high ends = ((low ≤ℤ pos 0) × (pos 0 ≤ℤ high)) ⊎ (IsEnd at_low ends × IsEnd at_high ends)
