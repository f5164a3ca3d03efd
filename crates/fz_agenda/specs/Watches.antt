-- What is looked at only for a while: the terms of a list from which an index selects one, and a variable of which a Boolean says
-- whether it is a number (Schulte, Stuckey: "Efficient Constraint Propagation Engines", event sets that get smaller).
use Rattle.std.specs.Prelude.{◌≡◌, Bool, true, false, ℕ, ℤ, List, ◌∷◌, [], ◌++◌}
use Rattle.fz_sets.specs.Sets.{IsInSet}
use Rattle.fz_spec.specs.declared.term.Term.{Term}
use Rattle.fz_spec.specs.declared.term.Term.TheVariants.{Num, Var}
use Rattle.fz_spec.specs.declared.shape.Relation.TheVariants.{Equal, NotEqual}
use Rattle.fz_strength.specs.declared.event.Event.TheVariants.{Any, Fixed}
use Rattle.fz_strength.specs.Domains.{term_set}
use Rattle.fz_strength.specs.Events.{Wait, wait_for, waits_for}
use Rattle.fz_strength.specs.Sayings.{Saying, CompareIf, SelectTerm, waits_of}
use Rattle.fz_strength.specs.VariableElements.{StandsAt}

-- What is said looks at a variable only while a number is left of a term (true): at one that stands in the list of an element, while
-- its place is left of the index. Or only once the number is gone (false): at a variable of which a Boolean says whether it is it.
abbrev pub Looks : Saying → ℕ → Term → ℤ → Bool → Type 0
Looks (SelectTerm xs k c) v t n true = (t ≡ k) × StandsAt n xs (Var v)
Looks (CompareIf Equal x (Num c) r) v t n false = (x ≡ Var v) × (t ≡ x) × (n ≡ c)
Looks (CompareIf NotEqual x (Num c) r) v t n false = (x ≡ Var v) × (t ≡ x) × (n ≡ c)
Looks saying v t n left = ⊥

-- the number is left of the term, or is gone
abbrev pub IsSeen : Bool → List (List (ℤ × ℤ)) → Term → ℤ → Type 0
IsSeen true ds t n = IsInSet (term_set ds t) n
IsSeen false ds t n = IsInSet (term_set ds t) n → ⊥

-- the changes that it always waits for
abbrev pub steady_waits : Saying → List Wait
steady_waits (SelectTerm xs k c) = waits_for Any (k ∷ c ∷ [])
steady_waits (CompareIf Equal x (Num c) r) = wait_for Fixed x ++ wait_for Any r
steady_waits (CompareIf NotEqual x (Num c) r) = wait_for Fixed x ++ wait_for Any r
steady_waits saying = waits_of saying
