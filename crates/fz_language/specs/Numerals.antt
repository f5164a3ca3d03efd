-- The numbers and sets that are written, and the floats among them.
use Rattle.std.specs.Prelude.{ℕ, ℤ, pos, ◌+ℤ◌, cond, int_lt, int_le, Option, Some, None, List, [], ◌∷◌, ◌++◌, flat_map, map, option_map}
use Rattle.std.specs.Ordering.{int_eq}
use Rattle.fz_sets.specs.Sets.{interval}
use Rattle.fz_language.specs.Trees.{Number, Whole, Float, SetLiteral, Range, Braces, Basic, Truth, Numeral, Literal, Named}

abbrev pub value_of : Number → Option ℤ
value_of (Whole integer) = Some integer.value
value_of (Float at) = None

-- all of them, if there is each
abbrev pub all_of : {X : Type 0} → List (Option X) → Option (List X)
all_of [] = Some []
all_of (Some x ∷ xs) = option_map (λ ys. x ∷ ys) (all_of xs)
all_of (None ∷ xs) = None

-- rising ranges after a range that is below them, joined to the first where the two touch
abbrev pub behind : ℤ × ℤ → List (ℤ × ℤ) → List (ℤ × ℤ)
behind r [] = r ∷ []
behind r (s ∷ rs) = cond (int_eq s.0 (r.1 +ℤ pos 1)) ((r.0, s.1) ∷ rs) (r ∷ s ∷ rs)

-- rising ranges with one number more
abbrev pub with_number : ℤ → List (ℤ × ℤ) → List (ℤ × ℤ)
with_number x [] = (x, x) ∷ []
with_number x (r ∷ rs) = cond (int_lt x r.0) (behind (x, x) (r ∷ rs)) (cond (int_le x r.1) (r ∷ rs) (behind r (with_number x rs)))

-- the rising ranges of numbers
abbrev pub ranges_of : List ℤ → List (ℤ × ℤ)
ranges_of [] = []
ranges_of (x ∷ xs) = with_number x (ranges_of xs)

-- the rising ranges of a set that is written without floats
abbrev pub set_in : SetLiteral → Option (List (ℤ × ℤ))
set_in (Range low high) = elim (value_of low) [ Some l ↦ option_map (interval l) (value_of high) | None ↦ None ]
set_in (Braces at members) = option_map ranges_of (all_of (map value_of members))

-- the places of floats
abbrev pub float_places : Number → List ℕ
float_places (Whole integer) = []
float_places (Float at) = at ∷ []

abbrev pub floats_of_set : SetLiteral → List ℕ
floats_of_set (Range low high) = float_places low ++ float_places high
floats_of_set (Braces at members) = flat_map float_places members

abbrev pub floats_in : Basic → List ℕ
floats_in (Numeral number) = float_places number
floats_in (Literal set) = floats_of_set set
floats_in (Truth value at) = []
floats_in (Named name) = []
