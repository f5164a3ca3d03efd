-- How many terms begin and end at each number, where all that is left of them lies within 64 numbers.
use Rattle.std.specs.Prelude.{◌≡◌, ◌≢◌, ◌<◌, ◌≤◌, ℕ, ℤ, pos, ◌+ℤ◌, ◌≤ℤ◌, Bool, false, List, length, count_by, slice_get, slice_index_or, Some}
use Rattle.std.specs.List.{AllByRecursion}
use Rattle.std.specs.Ordering.{int_eq}
use Rattle.fz_dom.specs.Shape.{least, greatest}
use Rattle.fz_spec.specs.declared.term.Term.{Term}
use Rattle.fz_strength.specs.Domains.{term_set}
use Rattle.fz_strength.specs.Differences.{IsSpread, interval_size, is_between}
use Rattle.fz_hall.specs.declared.counts.Tally.{Tally}

-- all that is left of a term lies within these numbers
pub record IsInSpan (ds : List (List (ℤ × ℤ))) (low high : ℤ) (t : Term) : Type 0 where
  pub from : low ≤ℤ least (term_set ds t)
  pub to : greatest (term_set ds t) ≤ℤ high

-- one begins where it has its least number, and ends where it has its greatest
abbrev pub begins_at : List (List (ℤ × ℤ)) → ℤ → Term → Bool
begins_at ds n t = int_eq (least (term_set ds t)) n

abbrev pub ends_at : List (List (ℤ × ℤ)) → ℤ → Term → Bool
ends_at ds n t = int_eq (greatest (term_set ds t)) n

abbrev pub begins_in : List (List (ℤ × ℤ)) → ℤ → ℤ → Term → Bool
begins_in ds low high t = is_between low high (least (term_set ds t))

abbrev pub ends_in : List (List (ℤ × ℤ)) → ℤ → ℤ → Term → Bool
ends_in ds low high t = is_between low high (greatest (term_set ds t))

-- at each of 64 numbers so many have a property
pub record AreCounts (p : ℤ → Term → Bool) (xs : List Term) (low : ℤ) (counts : List ℕ) : Type 0 where
  pub each : (v : ℕ) → v < 64 → slice_index_or counts v 0 ≡ count_by (p (low +ℤ pos v)) xs
  pub size : length counts ≡ 64

-- where it isn't told, only fixed terms begin
pub record AreOpens (ds : List (List (ℤ × ℤ))) (xs : List Term) (low : ℤ) (opens : List Bool) : Type 0 where
  pub each : (v : ℕ) → v < 64 → slice_index_or opens v false ≡ false → AllByRecursion (λ t. least (term_set ds t) ≡ (low +ℤ pos v) → greatest (term_set ds t) ≡ (low +ℤ pos v)) xs
  pub size : length opens ≡ 64

pub record IsTally (xs : List Term) (ds : List (List (ℤ × ℤ))) (t : Tally) : Type 0 where
  pub begins : AreCounts (begins_at ds) xs t.span.low t.begins
  pub ends : AreCounts (ends_at ds) xs t.span.low t.ends
  pub opens : AreOpens ds xs t.span.low t.opens
  pub span : AllByRecursion (IsInSpan ds t.span.low t.span.high) xs
  pub narrow : t.span.high ≤ℤ (t.span.low +ℤ pos 63)
  pub few : length xs < 256

-- how many numbers there are, none if the last is below the first
pub record IsWidth (low high : ℤ) (width : ℕ) : Type 0 where
  pub behind : low ≤ℤ high → (low +ℤ pos width) ≡ (high +ℤ pos 1)
  pub some : 0 < width → low ≤ℤ high
  pub most : width ≤ 64

-- up to none of these numbers do more end than there are numbers, and so many
abbrev pub IsExcess : List Term → List (List (ℤ × ℤ)) → ℤ → ℤ → ℤ → Type 0
IsExcess xs ds low high excess = (u : ℤ) → low ≤ℤ u → u ≤ℤ high → pos (count_by (ends_in ds low u) xs) ≤ℤ (interval_size low u +ℤ excess)

-- no interval from a number on has too many
abbrev pub AreSpreadOn : List Term → List (List (ℤ × ℤ)) → ℤ → Type 0
AreSpreadOn xs ds low = (high : ℤ) → low ≤ℤ high → IsSpread xs ds low high

-- so it is where a term begins that isn't fixed; of a fixed one it is so of its number
pub record IsSeenAt (xs : List Term) (ds : List (List (ℤ × ℤ))) (n : ℤ) : Type 0 where
  pub wide : (i : ℕ) (t : Term) → slice_get xs i ≡ Some t → least (term_set ds t) ≡ n → least (term_set ds t) ≢ greatest (term_set ds t) → AreSpreadOn xs ds n
  pub single : (i : ℕ) (t : Term) → slice_get xs i ≡ Some t → least (term_set ds t) ≡ n → least (term_set ds t) ≡ greatest (term_set ds t) → IsSpread xs ds n n
