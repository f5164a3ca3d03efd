-- What the spaces of a model share.
use Rattle.std.specs.Prelude.{◌≡◌, ◌⊎◌, ◌≤◌, ◌+◌, ◌^◌, ℕ, ℤ, List, ◌++◌, ◌∷◌, [], length, map, replicate, slice_get, Some}
use Rattle.std.specs.List.{AllByRecursion}
use Rattle.fz_spec.specs.Constraints.{Constraint, IsTrueOf}
use Rattle.fz_spec.specs.Instance.{Instance, Variable}
use Rattle.fz_strength.specs.declared.cost.Cost.{Cost}
use Rattle.fz_strength.specs.Promises.{Suits}
use Rattle.fz_strength.specs.Sayings.{Saying, said_terms, saying_of, truth_of, cost_of}
use Rattle.fz_strength.specs.Domains.{IsTermOf, Within}
use Rattle.fz_prop.specs.Stores.{declared_sets}
use Rattle.fz_agenda.specs.Queues.{Lineup, queue_at, class_of, cost_at}
use Rattle.fz_agenda.specs.Wakes.{Waking, IsIndexOf, HaveSize}
use Rattle.fz_says.specs.Fits.{IsFit}
use Rattle.fz_plain.specs.Plain.{IsPlainOf}
use Rattle.fz_propagators.specs.declared.any.AnyPropagator.{AnyPropagator}
use Rattle.fz_propagators.specs.Forms.{said_of}
use Rattle.fz_engine.specs.Stronger.{stronger_of}

-- a model, what each propagator says, and who waits for which change
pub record Networked : Type 0 where
  pub model : Instance
  pub sayings : List Saying
  pub wakes : Waking

abbrev pub sayings_of : List AnyPropagator → List Saying
sayings_of propagators = map said_of propagators

-- one of these
abbrev pub IsAmong : List Saying → Saying → Type 0
IsAmong sayings saying = (j : ℕ) × (slice_get sayings j ≡ Some saying)

-- What each constraint says is among these, and what is said once more of it; and of numbers in the declared sets all of these are true
-- where all constraints are.
pub record AreSaid (vs : List Variable) (cs : List Constraint) (sayings : List Saying) : Type 0 where
  pub each : (i : ℕ) (c : Constraint) → slice_get cs i ≡ Some c → IsAmong sayings (saying_of c)
  pub more : (i : ℕ) (c : Constraint) → slice_get cs i ≡ Some c → AllByRecursion (IsAmong sayings) (stronger_of vs c)
  pub follow : (a : List ℤ) → Within (declared_sets vs) a → AllByRecursion (IsTrueOf a) cs → AllByRecursion (λ (saying : Saying). truth_of saying a) sayings

-- what was said, and maybe a plainer form of something
abbrev pub IsSaidPlain : Saying → List Saying → List Saying → Type 0
IsSaidPlain saying before after = (after ≡ before) ⊎ ((plain : Saying) × IsPlainOf saying plain × (after ≡ before ++ plain ∷ []))

-- What constraints of these variables say fits the model, and is at most four times as much.
pub record AreSaidOf (vs : List Variable) (cs : List Constraint) (sayings : List Saying) : Type 0 where
  pub said : AreSaid vs cs sayings
  pub fit : AllByRecursion (IsFit vs) sayings
  pub few : length sayings ≤ length cs + length cs + length cs + length cs

-- over that many variables, each is listed at all changes that it waits for, and the class of its cost is known
pub record IsListing (sayings : List Saying) (w : Waking) (n : ℕ) : Type 0 where
  pub index : IsIndexOf sayings w
  pub costs : w.costs ≡ map cost_of sayings
  pub size : HaveSize w n

-- the terms of each are of a store, and those that it takes for 0 or 1 are
abbrev pub AreOf : List Saying → List (List (ℤ × ℤ)) → Type 0
AreOf sayings ds = (i : ℕ) (saying : Saying) → slice_get sayings i ≡ Some saying → AllByRecursion (IsTermOf (length ds)) (said_terms saying) × Suits saying ds

-- propagators of a model: of each constraint at least one, and more of what is said once more
pub record IsNetwork (n : Networked) : Type 0 where
  pub said : AreSaid n.model.variables n.model.constraints n.sayings
  pub listing : IsListing n.sayings n.wakes (length n.model.variables)
  pub terms : AreOf n.sayings (declared_sets n.model.variables)
  pub few : length n.sayings ≤ 2 ^ 32

-- all of that many are queued, each with those of its class
pub record IsFull (costs : List Cost) (l : Lineup) : Type 0 where
  pub states : l.states ≡ replicate (length costs) 1
  pub classes : (class : ℕ) → AllByRecursion (λ (i : ℕ). class_of (cost_at costs i) ≡ class) (queue_at l class)
