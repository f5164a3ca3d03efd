-- What is done of the work of an equation on a store, and what its propagator keeps.
use Rattle.std.specs.Prelude.{◌≡◌, Bool, true, false, ℕ, ◌<◌, ℤ, ◌≤ℤ◌, ◌↔◌, List, slice_get, Some}
use Rattle.std.specs.List.{AllByRecursion}
use Rattle.fz_sets.specs.Sets.{IsWithinLimits}
use Rattle.fz_dom.specs.Changes.{IsFromTo}
use Rattle.fz_dom.specs.declared.change.Change.{Change}
use Rattle.fz_dom.specs.declared.change.Change.TheVariants.{Same, Changed, Wiped}
use Rattle.fz_spec.specs.Constraints.{term_value}
use Rattle.fz_strength.specs.declared.bounds.Bounds.{Bounds}
use Rattle.fz_strength.specs.Domains.{Within, room}
use Rattle.fz_strength.specs.Operations.{Equation, EquationTruth, bounds_of, IsBounded, LacksZero, divisors_of}
use Rattle.fz_prop.specs.declared.answer.Answer.{Answer}
use Rattle.fz_prop.specs.declared.answer.Answer.TheVariants.{Fix, NoFix}
use Rattle.fz_prop.specs.Stores.{Stored}

-- among numbers within the limits it bounds the same ones
pub record IsClamped (value clamped : ℤ) : Type 0 where
  pub from : (x : ℤ) → IsWithinLimits x → (clamped ≤ℤ x) ↔ (value ≤ℤ x)
  pub to : (x : ℤ) → IsWithinLimits x → (x ≤ℤ clamped) ↔ (x ≤ℤ value)

-- the number of a term lies between its bounds
abbrev pub LiesBetween : List ℤ → Bounds → Type 0
LiesBetween a b = IsFromTo b.low b.high (term_value a b.term)

-- all that is left of the term at a place lies between its bounds
abbrev pub IsBoundedAt : Equation → List (List (ℤ × ℤ)) → ℕ → Type 0
IsBoundedAt e ds i = (b : Bounds) → slice_get (bounds_of e ds) i ≡ Some b → IsBounded ds b

-- what became of a divisor, if there is one: 0 isn't left of it; 0 left; or nothing else is left
abbrev pub IsDivided : Change → Equation → Stored → Stored → Type 0
IsDivided Same e r s = (s ≡ r) × AllByRecursion (LacksZero r.doms) (divisors_of e.operation e.operands)
IsDivided Changed e r s = room s.doms < room r.doms
IsDivided Wiped e r s = (a : List ℤ) → Within r.doms a → EquationTruth e a → ⊥

-- what became of the term at a place: it lies between its bounds; something left; or no number lies between them
abbrev pub IsStep : Change → Equation → ℕ → Stored → Stored → Type 0
IsStep Same e i r s = (s ≡ r) × IsBoundedAt e r.doms i
IsStep Changed e i r s = room s.doms < room r.doms
IsStep Wiped e i r s = (a : List ℤ) → Within r.doms a → EquationTruth e a → ⊥

-- what became of the terms before a place
abbrev pub AreSteps : Bool → Equation → ℕ → Stored → Stored → Type 0
AreSteps false e i r s = (s ≡ r) × ((j : ℕ) → j < i → IsBoundedAt e r.doms j)
AreSteps true e i r s = room s.doms < room r.doms

-- what became of the terms of an equation that were narrowed beyond its line; where nothing is told, some numbers may have left
abbrev pub IsHelped : Change → Equation → Stored → Stored → Type 0
IsHelped Same e r s = Unit {0}
IsHelped Changed e r s = room s.doms < room r.doms
IsHelped Wiped e r s = (a : List ℤ) → Within r.doms a → EquationTruth e a → ⊥

-- a change that is told only where nothing is left
abbrev pub only_wiped : Change → Change
only_wiped Wiped = Wiped
only_wiped Same = Same
only_wiped Changed = Same

-- the answer of a run that changed something before
abbrev pub answer_after : Change → Answer → Answer
answer_after Changed Fix = NoFix
answer_after earlier answer = answer
