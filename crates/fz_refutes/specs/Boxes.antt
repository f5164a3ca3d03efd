-- Boxes: a set of numbers for each variable.
use Rattle.std.specs.Prelude.{◌≡◌, ◌⊎◌, ℕ, ℤ, pos, negsuc, ◌+ℤ◌, ◌≤ℤ◌, List, [], ◌∷◌, ◌++◌, slice_index_or, slice_set}
use Rattle.std.specs.List.{AllByRecursion}
use Rattle.std.specs.Int.{int_min, int_max}
use Rattle.fz_sets.specs.Sets.{IsInSet, AreRanges, interval, single}
use Rattle.fz_spec.specs.declared.term.Term.{Term}
use Rattle.fz_spec.specs.declared.term.Term.TheVariants.{Num, Var}
use Rattle.fz_spec.specs.Instance.{Variable}

-- one number for each set, in it
abbrev pub IsInBox : List (List (ℤ × ℤ)) → List ℤ → Type 0
IsInBox [] [] = Unit {0}
IsInBox (d ∷ ds) (x ∷ xs) = IsInSet d x × IsInBox ds xs
IsInBox [] (x ∷ xs) = ⊥
IsInBox (d ∷ ds) [] = ⊥

-- the declared sets
abbrev pub declared_box : List Variable → List (List (ℤ × ℤ))
declared_box [] = []
declared_box (v ∷ vs) = v.set ∷ declared_box vs

-- rising ranges
abbrev pub AreSets : List (List (ℤ × ℤ)) → Type 0
AreSets box = AllByRecursion AreRanges box

-- some set is empty
abbrev pub HasEmpty : List (List (ℤ × ℤ)) → Type 0
HasEmpty [] = ⊥
HasEmpty (d ∷ ds) = (d ≡ []) ⊎ HasEmpty ds

-- the set of a variable, and of a term; a variable that there isn't counts as 0
abbrev pub set_at : List (List (ℤ × ℤ)) → ℕ → List (ℤ × ℤ)
set_at box v = slice_index_or box v (single (pos 0))

abbrev pub set_of : List (List (ℤ × ℤ)) → Term → List (ℤ × ℤ)
set_of box (Num n) = single n
set_of box (Var v) = set_at box v

-- the numbers of a set up to a number, and above it
abbrev pub up_to : ℤ → List (ℤ × ℤ) → List (ℤ × ℤ)
up_to n [] = []
up_to n (r ∷ rs) = interval r.0 (int_min r.1 n) ++ up_to n rs

abbrev pub above : ℤ → List (ℤ × ℤ) → List (ℤ × ℤ)
above n [] = []
above n (r ∷ rs) = interval (int_max r.0 (n +ℤ pos 1)) r.1 ++ above n rs

-- the same in a box, of one variable
abbrev pub low_half : ℕ → ℤ → List (List (ℤ × ℤ)) → List (List (ℤ × ℤ))
low_half v n box = slice_set box v (up_to n (set_at box v))

abbrev pub high_half : ℕ → ℤ → List (List (ℤ × ℤ)) → List (List (ℤ × ℤ))
high_half v n box = slice_set box v (above n (set_at box v))

-- a number of 32 bits
abbrev pub IsWord : ℤ → Type 0
IsWord n = (negsuc 2147483647 ≤ℤ n) × (n ≤ℤ pos 2147483647)
