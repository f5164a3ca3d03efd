-- What holds of a space.
use Rattle.std.specs.Prelude.{◌≡◌, ◌↔◌, ◌≢◌, ℕ, ◌<◌, ◌≤◌, ℤ, ◌≤ℤ◌, ◌<ℤ◌, Bool, true, false, IsTrue, List, [], ◌∷◌, length, Option, Some, None}
use Rattle.fz_spec.specs.Instance.{Instance, IsWhole, IsBetter}
use Rattle.fz_tree.specs.declared.decision.Comparison.{Comparison}
use Rattle.fz_tree.specs.declared.decision.Comparison.TheVariants.{Equal, NotEqual, AtMost, Above}
use Rattle.fz_tree.specs.declared.decision.Decision.{Decision}
use Rattle.fz_tree.specs.Choice.{meets}
use Rattle.fz_strength.specs.Domains.{Within, dom_at, number_at}
use Rattle.fz_prop.specs.Stores.{Stored}
use Rattle.fz_search_space.specs.Spaces.{Spaced, IsUndecided}
use Rattle.fz_search_space.specs.declared.space.Status.{Status}
use Rattle.fz_search_space.specs.declared.space.Status.TheVariants as status
use Rattle.fz_engine.specs.Runs.{AllRest}

abbrev pub spaced : Instance → Stored → Bool → Spaced
spaced m s failed = record { model = m; doms = s.doms; failed = failed }

-- of that many variables at the front one number is left each
pub record FrontFixed (n : ℕ) (ds : List (List (ℤ × ℤ))) : Type 0 where
  pub within : n ≤ length ds
  pub single : (v : ℕ) → v < n → (x : ℤ) × (dom_at ds v ≡ (x, x) ∷ [])

-- the variables at the front have these numbers, one each
pub record AreSettled (ns : List ℤ) (ds : List (List (ℤ × ℤ))) : Type 0 where
  pub within : length ns ≤ length ds
  pub single : (v : ℕ) → v < length ns → dom_at ds v ≡ (number_at ns v, number_at ns v) ∷ []

-- a number compares so with a value
abbrev pub Compares : Comparison → ℤ → ℤ → Type 0
Compares Equal value x = x ≡ value
Compares NotEqual value x = x ≢ value
Compares AtMost value x = x ≤ℤ value
Compares Above value x = value <ℤ x

-- exactly the assignments that meet a decision are left; or none of them meets it
abbrev pub IsDecided : Bool → Decision → List (List (ℤ × ℤ)) → List (List (ℤ × ℤ)) → Type 0
IsDecided true d ds es = (a : List ℤ) → Within es a ↔ (Within ds a × IsTrue (meets a d))
IsDecided false d ds es = (a : List ℤ) → Within ds a → IsTrue (meets a d) → ⊥

-- the decision that exactly what betters an assignment meets; none where nothing betters it
abbrev pub IsBound : Instance → List ℤ → Option Decision → Type 0
IsBound m known (Some d) = (a : List ℤ) → IsWhole m a → IsBetter m a known ↔ IsTrue (meets a d)
IsBound m known None = (a : List ℤ) → IsBetter m a known → ⊥

-- what is left of domains at rest
abbrev pub IsLeft : Status → List (List (ℤ × ℤ)) → Type 0
IsLeft status.Failed ds = ⊥
IsLeft status.Solved ds = (v : ℕ) → v < length ds → (x : ℤ) × (dom_at ds v ≡ (x, x) ∷ [])
IsLeft status.Branch ds = IsUndecided ds

-- where some variable has more than one number left, the line of each constraint holds, and that of what is said once more of it
abbrev pub HaveLines : Status → Instance → List (List (ℤ × ℤ)) → Type 0
HaveLines status.Branch m ds = AllRest m ds
HaveLines other m ds = Unit {0}

-- whether a propagator ran: none runs in a space that has failed, and where none runs all lines hold
abbrev pub HasRun : Bool → Spaced → Spaced → Type 0
HasRun true old new = old.failed ≡ false
HasRun false old new = (new ≡ old) × (new.failed ≡ false → AllRest new.model new.doms)
