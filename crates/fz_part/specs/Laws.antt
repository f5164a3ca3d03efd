-- Laws that the definitions keep.
use Rattle.std.specs.Prelude.{◌≡◌, ℤ, ◌<ℤ◌, Option, Some, IfSome, List, [], ◌∷◌, ◌↔◌, IsTrue, flat_map}
use Rattle.std.specs.List.{AllByRecursion, AllZip}
use Rattle.fz_spec.specs.Constraints.{term_value}
use Rattle.fz_spec.specs.declared.goal.Goal.{Goal}
use Rattle.fz_spec.specs.declared.goal.Goal.TheVariants.{Satisfy, Minimize, Maximize}
use Rattle.fz_spec.specs.Instance.{Instance, Satisfies, Lists, IsWhole, IsBetter}
use Rattle.fz_tree.specs.declared.decision.Decision.{Decision}
use Rattle.fz_part.specs.Parts.{IsPartOf, is_in_part, AreParts, with_part, with_bound, task_of}

-- An assignment satisfies a model with a part exactly where it satisfies the model and is in the part.
abbrev pub WithPartIsInPart : Type 0
WithPartIsInPart = (m : Instance) (p : List Decision) (a : List ℤ) → IsPartOf m p → Satisfies (with_part m p) a ↔ (Satisfies m a × IsTrue (is_in_part a p))

-- the model itself is a part, and alone parts it
abbrev pub WholeIsPart : Type 0
WholeIsPart = (m : Instance) → AreParts m ([] ∷ [])

-- What lists the satisfying assignments of each part lists together those of the model.
abbrev pub PartsList : Type 0
PartsList = (m : Instance) (ps : List (List Decision)) (ls : List (List (List ℤ))) → AreParts m ps → AllByRecursion (IsPartOf m) ps
    → AllZip (λ (p : List Decision) (l : List (List ℤ)). Lists (with_part m p) l) ps ls → Lists m (flat_map (λ (l : List (List ℤ)). l) ls)

-- ---- bounds

-- the goal's term has a better value than this; without a goal there is nothing to better
abbrev pub IsBetterThan : Goal → List ℤ → ℤ → Type 0
IsBetterThan Satisfy a v = Unit {0}
IsBetterThan (Minimize term) a v = term_value a term <ℤ v
IsBetterThan (Maximize term) a v = v <ℤ term_value a term

-- the goal's term has this value
abbrev pub HasValue : Goal → List ℤ → ℤ → Type 0
HasValue Satisfy a v = ⊥
HasValue (Minimize term) a v = term_value a term ≡ v
HasValue (Maximize term) a v = term_value a term ≡ v

-- An assignment satisfies a model with a bound exactly where it satisfies the model and is better than the bound.
abbrev pub BetterIsBetter : Type 0
BetterIsBetter = (m : Instance) (v : ℤ) (a : List ℤ) → Satisfies (with_bound m (Some v)) a ↔ (Satisfies m a × IsBetterThan m.goal a v)

-- The same of a part, where there may be a bound.
abbrev pub TaskIsInPart : Type 0
TaskIsInPart = (m : Instance) (p : List Decision) (bound : Option ℤ) (a : List ℤ) → IsPartOf m p
    → Satisfies (task_of m p bound) a ↔ (Satisfies m a × IsTrue (is_in_part a p) × IfSome bound (IsBetterThan m.goal a))

-- An assignment is better than the value of another exactly where it is better than that one.
abbrev pub BetterThanIsBetter : Type 0
BetterThanIsBetter = (m : Instance) (a b : List ℤ) (v : ℤ) → IsWhole m a → IsWhole m b → HasValue m.goal b v → IsBetterThan m.goal a v ↔ IsBetter m a b
