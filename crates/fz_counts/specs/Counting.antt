-- Numbers of places that have values, and the places that may have one and needn't.
use Rattle.std.specs.Prelude.{◌≡◌, ◌≢◌, ℤ, pos, List}
use Rattle.std.specs.List.{AllByRecursion}
use Rattle.fz_sets.specs.Sets.{IsInSet}
use Rattle.fz_spec.specs.declared.term.Term.{Term}
use Rattle.fz_spec.specs.Constraints.{term_value, term_values}
use Rattle.fz_spec.specs.Truth.{AreCounts, count_of}
use Rattle.fz_strength.specs.Domains.{term_set}
use Rattle.fz_strength.specs.Events.{IsOnly}
use Rattle.fz_counts.specs.declared.places.Choice.{Choice}
use Rattle.fz_counts.specs.declared.places.Choice.TheVariants.{Without, With}

-- an assignment gives a term the number of the terms that have a value, and so to each of a list for its value of a cover
abbrev pub IsCount : List Term → ℤ → Term → List ℤ → Type 0
IsCount xs value count a = term_value a count ≡ pos (count_of value (term_values a xs))

abbrev pub AreCountsOf : List Term → List ℤ → List Term → List ℤ → Type 0
AreCountsOf xs cover counts a = AreCounts (term_values a xs) cover (term_values a counts)

-- a term may have a value and needn't; and where it may it has to
abbrev pub IsOpen : ℤ → List (List (ℤ × ℤ)) → Term → Type 0
IsOpen value ds t = IsInSet (term_set ds t) value × (IsOnly (term_set ds t) value → ⊥)

abbrev pub IsSettled : ℤ → List (List (ℤ × ℤ)) → Term → Type 0
IsSettled value ds t = IsInSet (term_set ds t) value → IsOnly (term_set ds t) value

-- a number that goes this way
abbrev pub IsChosen : Choice → ℤ → ℤ → Type 0
IsChosen Without value x = x ≢ value
IsChosen With value x = x ≡ value

-- an assignment lets a term go this way if it is open, and all terms that are
abbrev pub Goes : Choice → ℤ → List (List (ℤ × ℤ)) → List ℤ → Term → Type 0
Goes choice value ds a t = IsOpen value ds t → IsChosen choice value (term_value a t)

abbrev pub AllGo : Choice → ℤ → List Term → List (List (ℤ × ℤ)) → List ℤ → Type 0
AllGo choice value xs ds a = AllByRecursion (Goes choice value ds a) xs
