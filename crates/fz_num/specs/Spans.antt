-- What spans mean: the numbers between two ends, and the smallest span round the numbers that have a property.
use Rattle.std.specs.Prelude.{◌≡◌, ℕ, ℤ, pos, ◌^◌, ◌≤ℤ◌, ◌<ℤ◌, ◌⊎◌, ◌+ℤ◌, ◌-ℤ◌, ◌*ℤ◌, neg_ℤ, int_div, ◌≢◌}
use Rattle.fz_num.specs.declared.span.Span.{Span}

abbrev pub IsInSpan : Span → ℤ → Type 0
IsInSpan s x = (s.lo ≤ℤ x) × (x ≤ℤ s.hi)

-- z lies between a and b, whichever is the lesser
abbrev pub IsBetween : ℤ → ℤ → ℤ → Type 0
IsBetween a b z = ((a ≤ℤ z) × (z ≤ℤ b)) ⊎ ((b ≤ℤ z) × (z ≤ℤ a))

-- both ends are at most 2 ^ k in size
abbrev pub IsSmall : ℕ → Span → Type 0
IsSmall k s = (neg_ℤ (pos (2 ^ k)) ≤ℤ s.lo) × (s.hi ≤ℤ pos (2 ^ k))

-- the smallest span round the numbers with a property: it has them all, and its ends are two of them
pub record IsHull (P : ℤ → Type 0) (s : Span) : Type 0 where
  pub holds : (x : ℤ) → P x → IsInSpan s x
  pub low : P s.lo
  pub high : P s.hi

-- z comes of a number of each span
abbrev pub IsSum : Span → Span → ℤ → Type 0
IsSum a b z = (x : ℤ) × (y : ℤ) × IsInSpan a x × IsInSpan b y × (z ≡ x +ℤ y)

abbrev pub IsDifference : Span → Span → ℤ → Type 0
IsDifference a b z = (x : ℤ) × (y : ℤ) × IsInSpan a x × IsInSpan b y × (z ≡ x -ℤ y)

abbrev pub IsProduct : Span → Span → ℤ → Type 0
IsProduct a b z = (x : ℤ) × (y : ℤ) × IsInSpan a x × IsInSpan b y × (z ≡ x *ℤ y)

abbrev pub IsMultiple : ℤ → Span → ℤ → Type 0
IsMultiple k a z = (x : ℤ) × IsInSpan a x × (z ≡ k *ℤ x)

-- the quotient is rounded toward zero, and there is none by zero
abbrev pub IsQuotient : Span → Span → ℤ → Type 0
IsQuotient a b z = (x : ℤ) × (y : ℤ) × IsInSpan a x × IsInSpan b y × (y ≢ pos 0) × (z ≡ int_div x y)

-- the smallest span round four numbers
abbrev pub IsOneOf : ℤ → ℤ → ℤ → ℤ → ℤ → Type 0
IsOneOf a b c d z = (z ≡ a) ⊎ ((z ≡ b) ⊎ ((z ≡ c) ⊎ (z ≡ d)))

abbrev pub IsAround : ℤ → ℤ → ℤ → ℤ → Span → Type 0
IsAround a b c d s = IsHull (IsOneOf a b c d) s

-- the numbers of a span that are below zero, and those above it
abbrev pub IsNegative : Span → ℤ → Type 0
IsNegative s x = IsInSpan s x × (x <ℤ pos 0)

abbrev pub IsPositive : Span → ℤ → Type 0
IsPositive s x = IsInSpan s x × (pos 0 <ℤ x)
