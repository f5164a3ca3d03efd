-- The nodes at the front of a search tree, by the parts of their decisions.
use Rattle.std.specs.Prelude.{◌≡◌, ℕ, ℤ, ◌+◌, List, [], ◌∷◌, ◌++◌, length, count_by, cond}
use Rattle.std.specs.List.{AllByRecursion}
use Rattle.fz_spec.specs.Instance.{Instance, Satisfies}
use Rattle.fz_tree.specs.declared.decision.Decision.{Decision}
use Rattle.fz_search_space.specs.declared.space.Status.{Status}
use Rattle.fz_search_space.specs.declared.space.Status.TheVariants.{Failed, Solved, Branch}
use Rattle.fz_part.specs.Parts.{IsPartOf, is_in_part}
use Rattle.fz_split.specs.Splits.{IsSingle}
use Rattle.fz_split.specs.declared.nodes.Nodes.{Nodes}

abbrev pub count_of : Nodes → ℕ
count_of n = length n.single.items + length n.queue.items

-- in how many of the parts an assignment is
abbrev pub times_in : Nodes → List ℤ → ℕ
times_in n a = count_by (is_in_part a) n.single.items + count_by (is_in_part a) n.queue.items

-- parts of the model, and those that are single are
pub record IsFront (m : Instance) (n : Nodes) : Type 0 where
  pub of_model : AllByRecursion (IsPartOf m) n.single.items
  pub queue_of_model : AllByRecursion (IsPartOf m) n.queue.items
  pub single : AllByRecursion (IsSingle m) n.single.items

-- the open part of least depth goes
abbrev pub IsTaken : List Decision → Nodes → Nodes → Type 0
IsTaken p old new = (old.queue.items ≡ p ∷ new.queue.items) × (new.single.items ≡ old.single.items)

-- A part comes by what is known of its node: one that failed doesn't, and one that is solved is single.
abbrev pub Comes : Status → List Decision → Nodes → Nodes → Type 0
Comes Failed p old new = (new.single.items ≡ old.single.items) × (new.queue.items ≡ old.queue.items)
Comes Solved p old new = (new.single.items ≡ old.single.items ++ p ∷ []) × (new.queue.items ≡ old.queue.items)
Comes Branch p old new = (new.single.items ≡ old.single.items) × (new.queue.items ≡ old.queue.items ++ p ∷ [])

-- What satisfies the model and is in this part is once more in one of those at the front; nothing else is.
pub record Gains (m : Instance) (p : List Decision) (old new : Nodes) : Type 0 where
  pub front : IsFront m new
  pub times : (a : List ℤ) → Satisfies m a → times_in new a ≡ times_in old a + cond (is_in_part a p) 1 0

-- What satisfies the model is in as many of them as before.
pub record Keeps (m : Instance) (old new : Nodes) : Type 0 where
  pub front : IsFront m new
  pub times : (a : List ℤ) → Satisfies m a → times_in new a ≡ times_in old a
