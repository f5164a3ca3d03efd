-- How a team ends, and a portfolio.
use Rattle.std.specs.Prelude.{◌≡◌, ℕ, ◌+◌, ◌≤◌, ℤ, List, [], length, Option, All, Any, IsSomeAnd}
use Rattle.fz_spec.specs.Instance.{Instance, Satisfies}
use Rattle.fz_tree.specs.declared.mode.Mode.{Mode}
use Rattle.fz_tree.specs.Book.{Book}
use Rattle.fz_book.specs.Room.{Roomy}
use Rattle.atomic_table.specs.Seated.{TableId}
use Rattle.fz_bound.specs.Rule.{UNSET, PARTS}
use Rattle.fz_bound.specs.Seats.{Seated}
use Rattle.fz_team.specs.declared.end.End.{End}
use Rattle.fz_team.specs.declared.end.End.TheVariants.{Enough, Closed, Short, Stopped}
use Rattle.fz_team.specs.declared.member.Member.{Member}
use Rattle.fz_team.specs.Members.{IsMember, least_score}

-- Enough and Closed come only with a book of the model and mode handed in that shows it.
abbrev pub Ends : End → Option ℕ → Instance → Mode → Book → Type 0
Ends Enough enough m mode b = (b.model ≡ m) × (b.mode ≡ mode) × IsSomeAnd enough (λ n. n ≤ length b.recorded)
Ends Closed enough m mode b = (b.model ≡ m) × (b.mode ≡ mode) × (b.parts ≡ [])
Ends Short enough m mode b = Unit {0}
Ends Stopped enough m mode b = Unit {0}

-- each of them satisfies, and the word is the least of their scores
pub record IsWordOf (m : Instance) (bests : List (List ℤ)) (word : ℕ) : Type 0 where
  pub sound : All (Satisfies m) bests
  pub least : word ≡ least_score m bests

-- Of several books, Enough and Closed come only with one that shows it.
abbrev pub EndsOne : End → Option ℕ → Instance → Mode → List Roomy → Type 0
EndsOne Enough enough m mode books = Any (λ (b : Roomy). Ends Enough enough m mode b.book) books
EndsOne Closed enough m mode books = Any (λ (b : Roomy). Ends Closed enough m mode b.book) books
EndsOne Short enough m mode books = Unit {0}
EndsOne Stopped enough m mode books = Unit {0}

abbrev pub HasBests : End → Instance → List (List ℤ) → ℕ → Type 0
HasBests Enough m bests word = IsWordOf m bests word
HasBests Closed m bests word = IsWordOf m bests word
HasBests Short m bests word = Unit {0}
HasBests Stopped m bests word = Unit {0}

-- its workers are of this model and word, and together with the seat that is left they have all parts
pub record IsTeam {S : Type 0} (m : Instance) (word : TableId) (workers : ℕ) (left : Seated) (all : List (Member S)) : Type 0 where
  pub bound : left.bound ≡ word
  pub fresh : left.least ≡ UNSET
  pub parts : left.parts + length all ≡ PARTS
  pub members : All (IsMember m word workers) all
