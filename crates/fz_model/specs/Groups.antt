-- The constraints of a model, as they are kept: written ones, and after them those of the elements of an array.
use Rattle.std.specs.Prelude.{◌≡◌, ◌<◌, ◌≤◌, ◌+◌, ◌^◌, ℕ, ℤ, List, [], ◌∷◌, ◌++◌, map, length, slice_index_or, false}
use Rattle.fz_spec.specs.declared.builtin.Builtin.TheVariants.{SetIn}
use Rattle.fz_spec.specs.declared.term.Term.{Term}
use Rattle.fz_spec.specs.Constraints as meaning
use Rattle.fz_model.specs.declared.constraints.ConstraintAt.{ConstraintAt}
use Rattle.fz_model.specs.declared.constraints.ConstraintAt.TheVariants.{Written, Element}

-- a term lies in a set
abbrev pub within : List (ℤ × ℤ) → Term → meaning.Constraint
within set term = record { name = SetIn; arguments = meaning.One term ∷ meaning.Set set ∷ []; whole = false }

abbrev pub constraint_at : ConstraintAt → meaning.Constraint
constraint_at (Written constraint) = constraint.now
constraint_at (Element term set) = within set.now.value term

-- written constraints, and after them those of the elements of one array; how many constraints there are up to the last of these
pub record Group : Type 0 where
  pub written : List meaning.Constraint
  pub terms : List Term
  pub set : List (ℤ × ℤ)
  pub end : ℕ

abbrev pub items_in : Group → List meaning.Constraint
items_in g = g.written ++ map (within g.set) g.terms

-- each group knows how many constraints there are up to its end; the first number is of those before the groups, the last of all
abbrev pub AreEnds : ℕ → List Group → ℕ → Type 0
AreEnds before [] all = before ≡ all
AreEnds before (g ∷ gs) all = (g.end ≡ before + length (items_in g)) × AreEnds g.end gs all

-- that many stand in groups, and that many after them
pub record IsNumbered (groups : List Group) (grouped behind : ℕ) : Type 0 where
  pub ends : AreEnds 0 groups grouped
  pub few : grouped + behind < 2 ^ 64

-- the place of the first group that ends beyond a number
pub record IsPlaceOf (groups : List Group) (number place : ℕ) : Type 0 where
  pub inside : place < length groups
  pub before : (j : ℕ) (d : Group) → j < place → (slice_index_or groups j d).end ≤ number
  pub beyond : (d : Group) → number < (slice_index_or groups place d).end
