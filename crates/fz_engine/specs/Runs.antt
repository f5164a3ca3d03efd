-- What runs of propagators leave.
use Rattle.std.specs.Prelude.{◌≡◌, ◌⊎◌, ℕ, ◌+◌, ◌*◌, ◌<◌, ℤ, List, length, slice_get, Some}
use Rattle.std.specs.List.{AllByRecursion}
use Rattle.fz_spec.specs.Constraints.{Constraint, IsTrueOf}
use Rattle.fz_spec.specs.Instance.{Instance, Variable}
use Rattle.fz_strength.specs.Domains.{Within, IsNarrower, room}
use Rattle.fz_strength.specs.Sayings.{Saying, Rests, line_of}
use Rattle.fz_prop.specs.Stores.{Stored, IsStore, declared_sets}
use Rattle.fz_agenda.specs.Agendas.{IsSettled}
use Rattle.fz_agenda.specs.Queues.{queued}
use Rattle.fz_engine.specs.Networks.{Networked, AreOf}
use Rattle.fz_engine.specs.Stronger.{stronger_of}

-- a domain for each variable, of its declared set, to which what is said fits, and propagators that are settled
pub record IsAlive (n : Networked) (states : List ℕ) (s : Stored) : Type 0 where
  pub size : length s.doms ≡ length n.model.variables
  pub declared : IsNarrower (declared_sets n.model.variables) s.doms
  pub terms : AreOf n.sayings s.doms
  pub settled : IsSettled n.sayings states s

-- The domains are at most as wide, no assignment of the constraints is lost, and the propagators are settled.
pub record IsRun (n : Networked) (s t : Stored) (after : List ℕ) : Type 0 where
  pub store : IsStore t
  pub narrower : IsNarrower s.doms t.doms
  pub correct : (a : List ℤ) → AllByRecursion (IsTrueOf a) n.model.constraints → Within s.doms a → Within t.doms a
  pub alive : IsAlive n after t

-- no assignment within the domains makes all constraints true
abbrev pub AreNeverTrue : List Constraint → List (List (ℤ × ℤ)) → Type 0
AreNeverTrue cs ds = (a : List ℤ) → AllByRecursion (IsTrueOf a) cs → Within ds a → ⊥

-- the line of a constraint holds, and that of what is said once more of it
pub record RestsWhole (vs : List Variable) (c : Constraint) (ds : List (List (ℤ × ℤ))) : Type 0 where
  pub first : Rests c ds
  pub more : AllByRecursion (λ (saying : Saying). line_of saying ds) (stronger_of vs c)

-- so it is for each constraint of a model
abbrev pub AllRest : Instance → List (List (ℤ × ℤ)) → Type 0
AllRest m ds = (i : ℕ) (c : Constraint) → slice_get m.constraints i ≡ Some c → RestsWhole m.variables c ds

-- a number left a domain, or one propagator less is queued
abbrev pub HasMoved : Stored → List ℕ → Stored → List ℕ → Type 0
HasMoved s states t after = (room t.doms < room s.doms) ⊎ ((t ≡ s) × (queued after < queued states))

-- how much may still happen: each number that leaves may queue every propagator
abbrev pub work : Stored → List ℕ → ℕ
work s states = room s.doms * (length states + 1) + queued states
