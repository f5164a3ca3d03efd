-- Values of a goal, by their ranks.
use Rattle.std.proofs.Common.{◌≢◌, ◌⊎◌, ◌↔◌, inl, inr, ℤ, pos, ◌-ℤ◌, ◌<ℤ◌, ◌≤ℤ◌, List, refl, arith, Option, Some, None, IfSome, IsSomeAnd}
use Rattle.std.proofs.lemmas.Int.{ints, by_lt_z}
use Rattle.fz_sets.specs.Sets.{LEAST, GREATEST}
use Rattle.fz_spec.specs.Constraints.{term_value}
use Rattle.fz_spec.specs.declared.goal.Goal.{Goal}
use Rattle.fz_spec.specs.declared.goal.Goal.TheVariants.{Satisfy, Minimize, Maximize}
use Rattle.fz_spec.specs.Instance.{Instance, IsBetter, IsWhole, score_of}
use Rattle.fz_part.specs.Laws.{IsBetterThan}
use Rattle.fz_join.specs.Joins.{rank, rank_of_goal}

low_scores : (x y k : ℤ) → ((x -ℤ k) <ℤ (y -ℤ k)) ↔ (x <ℤ y)
low_scores x y k = (λ h. omega (arith, ints, h), λ h. omega (arith, ints, h))

high_scores : (x y k : ℤ) → ((k -ℤ x) <ℤ (k -ℤ y)) ↔ ((pos 0 -ℤ x) <ℤ (pos 0 -ℤ y))
high_scores x y k = (λ h. omega (arith, ints, h), λ h. omega (arith, ints, h))

scored : (g : Goal) (a b : List ℤ) → g ≢ Satisfy → (score_of g a <ℤ score_of g b) ↔ (rank_of_goal g a <ℤ rank_of_goal g b)
scored Satisfy a b goal = absurd (goal refl)
scored (Minimize t) a b goal = low_scores (term_value a t) (term_value b t) LEAST
scored (Maximize t) a b goal = high_scores (term_value a t) (term_value b t) GREATEST

pub better_rank : (m : Instance) (a b : List ℤ) → IsBetter m a b → rank_of_goal m.goal a <ℤ rank_of_goal m.goal b
better_rank m a b better = (scored m.goal a b better.goal).0 better.less

pub rank_better : (m : Instance) (a b : List ℤ) → m.goal ≢ Satisfy → IsWhole m a → IsWhole m b → rank_of_goal m.goal a <ℤ rank_of_goal m.goal b → IsBetter m a b
rank_better m a b goal whole other less = record { goal = goal; whole = whole; other_whole = other; less = (scored m.goal a b goal).1 less }

pub lt_or_le : (x y : ℤ) → (x <ℤ y) ⊎ (y ≤ℤ x)
lt_or_le x y = by_lt_z x y (λ h. inl h) (λ h. inr h)

turned : (x v : ℤ) → (v <ℤ x) ⊎ ((pos 0 -ℤ v) ≤ℤ (pos 0 -ℤ x))
turned x v = by_lt_z v x (λ h. inl h) (λ h. inr (omega (arith, ints, h)))

-- better than a value, or of no lesser rank
better_or_not : (g : Goal) (a : List ℤ) (v : ℤ) → IsBetterThan g a v ⊎ (rank g v ≤ℤ rank_of_goal g a)
better_or_not Satisfy a v = inl tt
better_or_not (Minimize t) a v = lt_or_le (term_value a t) v
better_or_not (Maximize t) a v = turned (term_value a t) v

pub bound_or_not : (g : Goal) (bound : Option ℤ) (a : List ℤ) → IfSome bound (IsBetterThan g a) ⊎ IsSomeAnd bound (λ (v : ℤ). rank g v ≤ℤ rank_of_goal g a)
bound_or_not g None a = inl tt
bound_or_not g (Some v) a = better_or_not g a v
