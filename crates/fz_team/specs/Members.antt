-- Workers, and what they found.
use Rattle.std.specs.Prelude.{◌≡◌, ℕ, ◌<◌, ℤ, List, [], ◌∷◌, Option, Some, None, IfSome, min, nat_abs}
use Rattle.fz_spec.specs.Instance.{Instance, Satisfies, score}
use Rattle.atomic_table.specs.Seated.{TableId}
use Rattle.fz_bound.specs.Rule.{UNSET}
use Rattle.fz_path.specs.Tasks.{Neared, Tasked}
use Rattle.fz_team.specs.declared.member.Member.{Member}

-- what was put is the score of an assignment that satisfies, or nothing
abbrev pub IsScoreOf : Instance → ℕ → Option (List ℤ) → Type 0
IsScoreOf m least None = least ≡ UNSET
IsScoreOf m least (Some a) = Satisfies m a × (least ≡ nat_abs (score m a))

-- no space of another model comes with it
abbrev pub IsTaskOf : Instance → Tasked → Type 0
IsTaskOf m t = IfSome t.near (λ (n : Neared). n.space.model ≡ m)

-- a worker of that many, of this model and this word
pub record IsMember {S : Type 0} (m : Instance) (word : TableId) (workers : ℕ) (x : Member S) : Type 0 where
  pub numbered : x.worker < workers
  pub bound : x.seat.bound ≡ word
  pub parts : x.seat.parts ≡ 1
  pub best : IsScoreOf m x.seat.least x.best
  pub least : x.least ≡ x.seat.least
  pub hand : IfSome x.hand (IsTaskOf m)

-- the least of 2^32 and these scores
abbrev pub least_score : Instance → List (List ℤ) → ℕ
least_score m [] = UNSET
least_score m (a ∷ l) = min (nat_abs (score m a)) (least_score m l)

abbrev pub listed : Option (List ℤ) → List (List ℤ)
listed None = []
listed (Some a) = a ∷ []
