-- Stores, and what a call that narrows does to one.
use Rattle.std.specs.Prelude.{◌≡◌, ◌≢◌, ◌⊎◌, ℕ, ◌<◌, ◌≤◌, max, ℤ, List, [], ◌∷◌, ◌++◌, length, map, replicate, slice_index, slice_set, nat_eq, if◌then◌else◌}
use Rattle.std.specs.List.{AllByRecursion}
use Rattle.fz_sets.specs.Sets.{IsInSet, IsWithinLimits, set_size}
use Rattle.fz_dom.specs.Shape.{least, greatest}
use Rattle.fz_dom.specs.Changes.{IsChange, IsKeeping}
use Rattle.fz_dom.specs.declared.change.Change.{Change}
use Rattle.fz_dom.specs.declared.change.Change.TheVariants.{Same, Changed, Wiped}
use Rattle.fz_spec.specs.Truth.{SomeByRecursion}
use Rattle.fz_spec.specs.Instance.{Variable}
use Rattle.fz_spec.specs.declared.term.Term.{Term}
use Rattle.fz_spec.specs.declared.term.Term.TheVariants.{Num, Var}
use Rattle.fz_strength.specs.declared.event.Event.{Event}
use Rattle.fz_strength.specs.Domains.{dom_at, AreDomains, IsNarrower, room}
use Rattle.fz_strength.specs.Events.{level, IsQuiet}
use Rattle.fz_prop.specs.Cuts.{change_level}

-- A domain for each variable. `marks` has for each variable the greatest level of its changes since it was last taken from
-- `changed`, 0 where there was none; `changed` has the changed variables, first in first out.
pub record Stored : Type 0 where
  pub doms : List (List (ℤ × ℤ))
  pub marks : List ℕ
  pub changed : List ℕ

abbrev pub mark_at : Stored → ℕ → ℕ
mark_at s v = slice_index s.marks v

abbrev pub IsListed : List ℕ → ℕ → Type 0
IsListed changed v = SomeByRecursion (λ u. u ≡ v) changed

-- none is listed twice
abbrev pub AreListedOnce : List ℕ → Type 0
AreListedOnce [] = Unit {0}
AreListedOnce (v ∷ vs) = (IsListed vs v → ⊥) × AreListedOnce vs

-- Each is a domain with a number. The variables with a mark are listed, each once, and no others, so that no more are listed than
-- there are variables.
pub record IsStore (s : Stored) : Type 0 where
  pub size : length s.marks ≡ length s.doms
  pub domains : AreDomains s.doms
  pub listed : (v : ℕ) → 0 < mark_at s v → IsListed s.changed v
  pub marked : (v : ℕ) → IsListed s.changed v → 0 < mark_at s v
  pub once : AreListedOnce s.changed
  pub inside : AllByRecursion (λ v. v < length s.doms) s.changed
  pub few : length s.changed ≤ length s.doms

-- what every call that narrows does
pub record Shrinks (s t : Stored) : Type 0 where
  pub narrower : IsNarrower s.doms t.doms
  pub marks_grow : (v : ℕ) → mark_at s v ≤ mark_at t v
  pub marks_tell : (v : ℕ) (event : Event) → mark_at t v < level event → IsQuiet event (dom_at s.doms v) (dom_at t.doms v)
  pub falls : (t ≡ s) ⊎ (room t.doms < room s.doms)

-- what became of a domain, and how much of a change it was
abbrev pub IsCut : Change → ℕ → (ℤ → Type 0) → List (ℤ × ℤ) → List (ℤ × ℤ) → Type 0
IsCut Changed n P d e = IsChange Changed P d e × (n ≡ change_level (least d) (greatest d) e)
IsCut change n P d e = IsChange change P d e × (n ≡ 0)

-- the list with a variable that stands at its end, unless its mark says that it stands there already
abbrev pub with_listed : ℕ → ℕ → List ℕ → List ℕ
with_listed mark v changed = if nat_eq mark 0 then changed ++ v ∷ [] else changed

-- what becomes of marks and of a list where the domain of v has a change of this level
abbrev pub IsNoted : Change → ℕ → ℕ → List ℕ → List ℕ → List ℕ → List ℕ → Type 0
IsNoted Changed n v ms ns cs gs = (ns ≡ slice_set ms v (max (slice_index ms v) n)) × (gs ≡ with_listed (slice_index ms v) v cs)
IsNoted _ n v ms ns cs gs = (ns ≡ ms) × (gs ≡ cs)

-- v has another domain, to which a change of this level led
abbrev pub with_dom : Stored → ℕ → List (ℤ × ℤ) → ℕ → Stored
with_dom s v e n = record {
  doms = slice_set s.doms v e;
  marks = slice_set s.marks v (max (mark_at s v) n);
  changed = with_listed (mark_at s v) v s.changed;
}

-- At v exactly the numbers with a property stay, and all else does; v is marked and listed.
pub record NarrowsAt (v : ℕ) (P : ℤ → Type 0) (s t : Stored) : Type 0 where
  pub kept : IsKeeping P (dom_at s.doms v) (dom_at t.doms v)
  pub others : (u : ℕ) → u ≢ v → dom_at t.doms u ≡ dom_at s.doms u
  pub whole : t ≡ with_dom s v (dom_at t.doms v) (change_level (least (dom_at s.doms v)) (greatest (dom_at s.doms v)) (dom_at t.doms v))
  pub smaller : set_size (dom_at t.doms v) < set_size (dom_at s.doms v)
  pub filled : 0 < length (dom_at t.doms v)
  pub falls : room t.doms < room s.doms

-- s becomes t where the numbers of v with a property are to stay: all of them do; some leave; or none would stay, and then
-- the store is left as it is
abbrev pub IsChangeAt : Change → ℕ → (ℤ → Type 0) → Stored → Stored → Type 0
IsChangeAt Same v P s t = (t ≡ s) × ((x : ℤ) → IsInSet (dom_at s.doms v) x → P x)
IsChangeAt Changed v P s t = NarrowsAt v P s t
IsChangeAt Wiped v P s t = (t ≡ s) × ((x : ℤ) → IsInSet (dom_at s.doms v) x → P x → ⊥)

-- the first changed variable is taken from the list
abbrev pub without_first : Stored → ℕ → List ℕ → Stored
without_first s v rest = record { doms = s.doms; marks = slice_set s.marks v 0; changed = rest }

pub record IsTaken (s t : Stored) : Type 0 where
  pub first : ℕ
  pub rest : List ℕ
  pub list : s.changed ≡ first ∷ rest
  pub taken : t ≡ without_first s first rest

-- the domains that variables are declared with
abbrev pub declared_sets : List Variable → List (List (ℤ × ℤ))
declared_sets vs = map (λ (v : Variable). v.set) vs

-- one of them is empty
pub record HasEmpty (ds : List (List (ℤ × ℤ))) : Type 0 where
  pub variable : ℕ
  pub within : variable < length ds
  pub empty : dom_at ds variable ≡ []

-- a store in which nothing changed
abbrev pub fresh : List (List (ℤ × ℤ)) → Stored
fresh ds = record { doms = ds; marks = replicate (length ds) 0; changed = [] }

-- ---- terms

-- a number within the limits, or a variable
abbrev pub FitsTerm : Term → Type 0
FitsTerm (Num number) = IsWithinLimits number
FitsTerm (Var v) = Unit {0}

-- what became of the domain of a term; a number has none that changes
abbrev pub IsTermChange : Change → Term → (ℤ → Type 0) → Stored → Stored → Type 0
IsTermChange change (Var v) P s t = IsChangeAt change v P s t
IsTermChange Same (Num n) P s t = (t ≡ s) × P n
IsTermChange Wiped (Num n) P s t = (t ≡ s) × (P n → ⊥)
IsTermChange Changed (Num n) P s t = ⊥
