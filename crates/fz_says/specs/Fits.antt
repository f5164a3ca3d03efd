-- What a model keeps of what its constraints say.
use Rattle.std.specs.Prelude.{◌≡◌, ◌≢◌, ◌⊎◌, ◌≤◌, suc, List, length}
use Rattle.std.specs.List.{AllByRecursion}
use Rattle.fz_spec.specs.declared.kind.Kind.TheVariants as kinds
use Rattle.fz_spec.specs.declared.term.Term.{Term}
use Rattle.fz_spec.specs.declared.limits.TheConstants.{ELEMENT_LIMIT}
use Rattle.fz_spec.specs.Constraints.{Constraint}
use Rattle.fz_spec.specs.Instance.{Variable}
use Rattle.fz_model.specs.Kept as kept
use Rattle.fz_model.specs.Kept.{IsVariable, IsConstraint}
use Rattle.fz_spec.specs.declared.shape.Relation.TheVariants.{Below}
use Rattle.fz_strength.specs.Sayings.{Saying, Sum, SumIf, SumByNumbers, said_terms, saying_of, truths_of}
use Rattle.fz_strength.specs.Domains.{IsTermOf}
use Rattle.fz_prop.specs.Stores.{FitsTerm, declared_sets}
use Rattle.fz_strength.specs.Promises.{Suits}

-- a number within the limits, or a variable of the model
abbrev pub IsKnown : List Variable → Term → Type 0
IsKnown vs t = FitsTerm t × IsTermOf (length vs) t

-- of a sum: no strict relation, and as many factors as terms, not too many; by numbers two or three
abbrev pub FitsSum : Saying → Type 0
FitsSum (Sum relation ks ts c) = (relation ≢ Below) × (length ks ≡ length ts) × (length ts ≤ suc ELEMENT_LIMIT)
FitsSum (SumIf relation ks ts c r) = (relation ≢ Below) × (length ks ≡ length ts) × (length ts ≤ ELEMENT_LIMIT)
FitsSum (SumByNumbers ks ts c) = (length ks ≡ length ts) × ((length ts ≡ 2) ⊎ (length ts ≡ 3))
FitsSum s = Unit {0}

-- its terms are those of the model, those that it takes for 0 or 1 are Booleans, and a sum is one that propagators take
pub record IsFit (vs : List Variable) (s : Saying) : Type 0 where
  pub terms : AllByRecursion (IsKnown vs) (said_terms s)
  pub truths : AllByRecursion (kept.IsTermOf vs kinds.Bool) (truths_of s)
  pub sum : FitsSum s

-- what a model's constraint says fits the model
abbrev pub SaidFits : Type 0
SaidFits = (vs : List Variable) (c : Constraint) → IsConstraint vs c → IsFit vs (saying_of c)

-- and suits a store of what the variables are declared with
abbrev pub FitSuits : Type 0
FitSuits = (vs : List Variable) (s : Saying) → AllByRecursion IsVariable vs → IsFit vs s → Suits s (declared_sets vs)
