-- Terms that have the values of a cover so many times.
use Rattle.std.specs.Prelude.{◌≡◌, ℕ, ℤ, pos, ◌≤ℤ◌, ◌&&◌, Bool, int_le, List, [], ◌++◌, length, slice_get, Some, count_by}
use Rattle.std.specs.Ordering.{int_eq}
use Rattle.std.specs.List.{AllByRecursion, list_any}
use Rattle.fz_sets.specs.Sets.{IsInSet}
use Rattle.fz_dom.specs.Shape.{least, greatest}
use Rattle.fz_spec.specs.declared.term.Term.{Term}
use Rattle.fz_spec.specs.Constraints.{term_values}
use Rattle.fz_spec.specs.Truth.{AreCounts}
use Rattle.fz_strength.specs.declared.cost.Cost.TheVariants.{Quadratic}
use Rattle.fz_strength.specs.declared.event.Event.TheVariants.{Any, Bound}
use Rattle.fz_strength.specs.Domains.{term_set}
use Rattle.fz_strength.specs.Events.{IsOnly, waits_for}
use Rattle.fz_strength.specs.Meanings.{Meaning}

-- a value is left of a term, and alone
abbrev pub may_be : List (List (ℤ × ℤ)) → ℤ → Term → Bool
may_be ds value t = list_any (λ (r : ℤ × ℤ). int_le r.0 value && int_le value r.1) (term_set ds t)

abbrev pub is_surely : List (List (ℤ × ℤ)) → ℤ → Term → Bool
is_surely ds value t = int_eq (least (term_set ds t)) value && int_eq (greatest (term_set ds t)) value

-- at how many places it is alone, and at how many it is left
abbrev pub fewest : List Term → List (List (ℤ × ℤ)) → ℤ → ℕ
fewest xs ds value = count_by (is_surely ds value) xs

abbrev pub most : List Term → List (List (ℤ × ℤ)) → ℤ → ℕ
most xs ds value = count_by (may_be ds value) xs

-- where it is left, it is alone
abbrev pub IsDecided : List Term → List (List (ℤ × ℤ)) → ℤ → Type 0
IsDecided xs ds value = AllByRecursion (λ (t : Term). IsInSet (term_set ds t) value → IsOnly (term_set ds t) value) xs

-- What is left of the count lies from the fewest places to the most. If no more places may have the value, or all these have to, it is
-- alone where it is left.
pub record IsCountLine (xs : List Term) (ds : List (List (ℤ × ℤ))) (value : ℤ) (count : Term) : Type 0 where
  pub low : pos (fewest xs ds value) ≤ℤ least (term_set ds count)
  pub high : greatest (term_set ds count) ≤ℤ pos (most xs ds value)
  pub full : greatest (term_set ds count) ≡ pos (fewest xs ds value) → IsDecided xs ds value
  pub needed : least (term_set ds count) ≡ pos (most xs ds value) → IsDecided xs ds value

-- a count for each value of the cover
pub record AreCountLines (xs : List Term) (cover : List ℤ) (counts : List Term) (ds : List (List (ℤ × ℤ))) : Type 0 where
  pub size : length cover ≡ length counts
  pub each : (j : ℕ) (value : ℤ) (count : Term) → slice_get cover j ≡ Some value → slice_get counts j ≡ Some count → IsCountLine xs ds value count

-- that terms have the values of a cover so many times
abbrev pub global_cardinality : List Term → List ℤ → List Term → Meaning
global_cardinality xs cover counts = record {
  truth = λ a. AreCounts (term_values a xs) cover (term_values a counts);
  line = λ ds. AreCountLines xs cover counts ds;
  waits = waits_for Any xs ++ waits_for Bound counts;
  terms = xs ++ counts;
  truths = [];
  cost = Quadratic;
}
