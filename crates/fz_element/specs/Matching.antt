-- An index into a list of terms: when an assignment makes it true, its matches, and what is done of the work on a store.
use Rattle.std.specs.Prelude.{◌≡◌, ℕ, ◌<◌, ℤ, pos, ◌+ℤ◌, ◌↔◌, List, length}
use Rattle.fz_bits.specs.Words.{HasBit}
use Rattle.fz_sets.specs.Sets.{IsInSet}
use Rattle.fz_dom.specs.Shape.{IsDomain}
use Rattle.fz_dom.specs.declared.change.Change.{Change}
use Rattle.fz_dom.specs.declared.change.Change.TheVariants.{Same, Changed, Wiped}
use Rattle.fz_spec.specs.declared.term.Term.{Term}
use Rattle.fz_spec.specs.Constraints.{term_value, term_values}
use Rattle.fz_spec.specs.Truth.{IsElement}
use Rattle.fz_strength.specs.Domains.{term_set, Within, room}
use Rattle.fz_strength.specs.VariableElements.{StandsAt, IsMatch, IsVariableElementLine}
use Rattle.fz_prop.specs.Stores.{Stored}

abbrev pub IsChosen : List Term → Term → Term → List ℤ → Type 0
IsChosen xs k c a = IsElement (term_value a k) (term_values a xs) (term_value a c)

-- ---- matches

-- a number that is left of the term at an index
abbrev pub IsLeftAt : List Term → List (List (ℤ × ℤ)) → ℤ → ℤ → Type 0
IsLeftAt xs ds i n = (x : Term) × StandsAt i xs x × IsInSet (term_set ds x) n

-- an index, and a number, that has a match
abbrev pub IsMatchedAt : List Term → Term → Term → List (List (ℤ × ℤ)) → ℤ → Type 0
IsMatchedAt xs k c ds i = (n : ℤ) × IsMatch xs k c ds i n

abbrev pub IsMatchedBy : List Term → Term → Term → List (List (ℤ × ℤ)) → ℤ → Type 0
IsMatchedBy xs k c ds n = (i : ℤ) × IsMatch xs k c ds i n

-- the indices and the numbers of all matches
pub record AreMatches (xs : List Term) (k c : Term) (ds : List (List (ℤ × ℤ))) (P Q : ℤ → Type 0) : Type 0 where
  pub indices_are : (i : ℤ) → P i ↔ IsMatchedAt xs k c ds i
  pub numbers_are : (n : ℤ) → Q n ↔ IsMatchedBy xs k c ds n

-- each index that is left and each number that is left of c has a match
pub record AreAllMatched (xs : List Term) (k c : Term) (ds : List (List (ℤ × ℤ))) : Type 0 where
  pub index : (i : ℤ) → IsInSet (term_set ds k) i → IsMatchedAt xs k c ds i
  pub number : (n : ℤ) → IsInSet (term_set ds c) n → IsMatchedBy xs k c ds n

-- each index that is left has a match, and so has each number that a bit of a word stands for
pub record AreFound (xs : List Term) (k c : Term) (ds : List (List (ℤ × ℤ))) (base : ℤ) (word : ℕ) : Type 0 where
  pub index : (i : ℤ) → IsInSet (term_set ds k) i → IsMatchedAt xs k c ds i
  pub number : (j : ℕ) → j < 64 → HasBit word j → IsMatchedBy xs k c ds (base +ℤ pos j)

-- a domain of some numbers, and exactly those that are in both sets
abbrev pub AreShared : List (ℤ × ℤ) → List (ℤ × ℤ) → List (ℤ × ℤ) → Type 0
AreShared d e f = ((n : ℤ) → IsInSet f n ↔ (IsInSet d n × IsInSet e n)) × IsDomain f × (0 < length f)

-- ---- what is done

abbrev pub IsNeverChosen : List Term → Term → Term → List (List (ℤ × ℤ)) → Type 0
IsNeverChosen xs k c ds = (a : List ℤ) → Within ds a → IsChosen xs k c a → ⊥

-- what became of all terms
abbrev pub IsNarrowed : Change → List Term → Term → Term → Stored → Stored → Type 0
IsNarrowed Same xs k c s t = (t ≡ s) × IsVariableElementLine xs k c s.doms
IsNarrowed Changed xs k c s t = room t.doms < room s.doms
IsNarrowed Wiped xs k c s t = IsNeverChosen xs k c s.doms
