-- What runs for a best one say together.
use Rattle.std.proofs.Common.{◌≡◌, ◌≢◌, inl, inr, ℕ, suc, ◌-◌, ℤ, ◌<ℤ◌, ◌≤ℤ◌, List, [], ◌∷◌, refl, sym, subst, ap, arith, Bool, true, Option, Some, None, IfSome, IsSomeAnd, MatchOption, length, slice_get}
use Rattle.std.specs.List.{AllByRecursion}
use Rattle.std.proofs.lemmas.Int.{ints}
use Rattle.fz_spec.specs.Truth.{SomeByRecursion}
use Rattle.fz_spec.specs.declared.goal.Goal.{Goal}
use Rattle.fz_spec.specs.declared.goal.Goal.TheVariants.{Satisfy, Minimize, Maximize}
use Rattle.fz_spec.specs.declared.term.Term.{Term}
use Rattle.fz_spec.specs.Instance.{Instance, Satisfies, AreImproving, IsBest, IsBetter}
use Rattle.fz_tree.proofs.Orders.{declared_length}
use Rattle.fz_part.specs.Parts.{IsPartOf, is_in_part, task_of}
use Rattle.fz_part.proofs.Tasks.{task_in}
use Rattle.fz_cmd.specs.Meaning.{Options}
use Rattle.fz_runs.specs.Runs.{AreBest, EndsBest, PrintsBest, PrintsFor, PrintsGoal}
use Rattle.fz_join.specs.Joins.{AsksFor, IsRan, IsReached, Ran, rank, rank_of_goal}
use Rattle.fz_join.specs.After.{last_of}
use Rattle.fz_join.proofs.BestAfter.{IsBestWithin, best_further}
use Rattle.fz_join.proofs.BestRanks.{better_rank, bound_or_not, lt_or_le, rank_better}
use Rattle.fz_join.proofs.SumCounts.{some_with}

-- ---- by plain options

goal_best : (all : Bool) (generate : Option ℕ) (every : Bool) (term : Term) (t : Instance) (l : List (List ℤ)) (s : List ℕ) → generate ≡ None → every ≡ all → PrintsGoal generate every term t l s → PrintsBest all t l s
goal_best all generate every term t l s none is prints =
    subst (λ (e : Bool). PrintsBest e t l s) is (subst (λ (n : Option ℕ). PrintsGoal n every term t l s) none prints)

best_goal : (all : Bool) (generate : Option ℕ) (every : Bool) (term : Term) (t : Instance) (l : List (List ℤ)) (s : List ℕ) → generate ≡ None → every ≡ all → PrintsBest all t l s → PrintsGoal generate every term t l s
best_goal all generate every term t l s none is prints =
    subst (λ (n : Option ℕ). PrintsGoal n every term t l s) (sym none) (subst (λ (e : Bool). PrintsBest e t l s) (sym is) prints)

best_asked : (o : Options) (all : Bool) (g : Goal) (t : Instance) (l : List (List ℤ)) (s : List ℕ) → g ≢ Satisfy → AsksFor all o → PrintsFor g o t l s → PrintsBest all t l s
best_asked o all Satisfy t l s goal asks prints = absurd (goal refl)
best_asked o all (Minimize term) t l s goal asks prints = goal_best all o.generate o.all term t l s asks.plain.generate asks.all prints
best_asked o all (Maximize term) t l s goal asks prints = goal_best all o.generate o.all term t l s asks.plain.generate asks.all prints

pub asked_best : (o : Options) (all : Bool) (g : Goal) (t : Instance) (l : List (List ℤ)) (s : List ℕ) → g ≢ Satisfy → AsksFor all o → PrintsBest all t l s → PrintsFor g o t l s
asked_best o all Satisfy t l s goal asks prints = absurd (goal refl)
asked_best o all (Minimize term) t l s goal asks prints = best_goal all o.generate o.all term t l s asks.plain.generate asks.all prints
asked_best o all (Maximize term) t l s goal asks prints = best_goal all o.generate o.all term t l s asks.plain.generate asks.all prints

run_best : (m : Instance) (all : Bool) (r : Ran) → m.goal ≢ Satisfy → IsRan m all r → AreBest all (task_of m r.part r.bound) r.list
run_best m all r goal ran = (best_asked ran.options all m.goal (task_of m r.part r.bound) r.list ran.run.run.shown goal ran.asks ran.run.run.prints).are

-- ---- the last of a list

last_more : (x y : List ℤ) (ys : List (List ℤ)) → last_of (x ∷ y ∷ ys) ≡ last_of (y ∷ ys)
last_more x y ys =
    let place : length (x ∷ y ∷ ys) - 1 ≡ suc (length (y ∷ ys) - 1) = omega arith in
    ap (slice_get (x ∷ y ∷ ys)) place

abbrev EndsSo : Instance → Option (List ℤ) → Type 0
EndsSo t last = MatchOption last ((a : List ℤ) → Satisfies t a → ⊥) (IsBest t)

ends_so : (t : Instance) (l : List (List ℤ)) → EndsBest t l → EndsSo t (last_of l)
ends_so t [] ends = ends
ends_so t (x ∷ []) ends = ends
ends_so t (x ∷ y ∷ ys) ends = subst (EndsSo t) (sym (last_more x y ys)) (ends_so t (y ∷ ys) ends)

-- the last has a rank that is at most this one
abbrev IsLastWithin : Goal → Option (List ℤ) → ℤ → Type 0
IsLastWithin g last k = IsSomeAnd last (λ (z : List ℤ). rank_of_goal g z ≤ℤ k)

within_more : (g : Goal) (last : Option (List ℤ)) (j k : ℤ) → IsLastWithin g last j → j <ℤ k → IsLastWithin g last k
within_more g None j k within less = within
within_more g (Some z) j k within less = omega (arith, ints, within, less)

-- no one of a list of improving ones has a lesser rank
last_least : (t : Instance) (l : List (List ℤ)) → AreImproving t l → AllByRecursion (λ (a : List ℤ). IsLastWithin t.goal (last_of l) (rank_of_goal t.goal a)) l
last_least t [] improving = tt
last_least t (x ∷ []) improving = (omega (arith, ints), tt)
last_least t (x ∷ y ∷ ys) improving =
    let later = last_least t (y ∷ ys) improving.1 in
    subst (λ (last : Option (List ℤ)). AllByRecursion (λ (a : List ℤ). IsLastWithin t.goal last (rank_of_goal t.goal a)) (x ∷ y ∷ ys)) (sym (last_more x y ys))
    (within_more t.goal (last_of (y ∷ ys)) (rank_of_goal t.goal y) (rank_of_goal t.goal x) later.0 (better_rank t y x improving.0), later)

-- ---- each run

-- of a run, and of the best one that is known: it is as good as the run's last
pub record IsKnown (m : Instance) (all : Bool) (best : Option (ℤ × List ℕ)) (r : Ran) : Type 0 where
  pub ran : IsRan m all r
  pub value : IfSome (last_of r.list) (λ (a : List ℤ). IsBestWithin best (rank_of_goal m.goal a))

pub known_each : (m : Instance) (all : Bool) (best : Option (ℤ × List ℕ)) (rs : List Ran) → AllByRecursion (IsRan m all) rs
    → AllByRecursion (λ (r : Ran). IfSome (last_of r.list) (λ (a : List ℤ). IsBestWithin best (rank_of_goal m.goal a))) rs → AllByRecursion (IsKnown m all best) rs
known_each m all best [] rans values = tt
known_each m all best (r ∷ rs) rans values = (record { ran = rans.0; value = values.0 }, known_each m all best rs rans.1 values.1)

last_known : (g : Goal) (best : Option (ℤ × List ℕ)) (last : Option (List ℤ)) (k : ℤ) → IfSome last (λ (a : List ℤ). IsBestWithin best (rank_of_goal g a)) → IsLastWithin g last k → IsBestWithin best k
last_known g best None k value within = absurd within
last_known g best (Some z) k value within = best_further best (rank_of_goal g z) k value within

one_reached : (m : Instance) (all : Bool) (best : Option (ℤ × List ℕ)) (r : Ran) (k : ℤ) → m.goal ≢ Satisfy → IsKnown m all best r → SomeByRecursion (λ (a : List ℤ). rank_of_goal m.goal a ≤ℤ k) r.list → IsBestWithin best k
one_reached m all best r k goal known some =
    some_with (λ (a : List ℤ). rank_of_goal m.goal a ≤ℤ k) (λ (a : List ℤ). IsLastWithin m.goal (last_of r.list) (rank_of_goal m.goal a)) (IsBestWithin best k) r.list
    (λ a le within. best_further best (rank_of_goal m.goal a) k (last_known m.goal best (last_of r.list) (rank_of_goal m.goal a) known.value within) le) some
    (last_least (task_of m r.part r.bound) r.list (run_best m all r goal known.ran).improving)

-- what runs show is no better than the best one
pub shown_within : (m : Instance) (all : Bool) (best : Option (ℤ × List ℕ)) (rs : List Ran) (v : ℤ) → m.goal ≢ Satisfy → AllByRecursion (IsKnown m all best) rs → IsReached m rs v → IsBestWithin best (rank m.goal v)
shown_within m all best rs v goal known reached =
    some_with (λ (r : Ran). SomeByRecursion (λ (a : List ℤ). rank_of_goal m.goal a ≤ℤ rank m.goal v) r.list) (IsKnown m all best) (IsBestWithin best (rank m.goal v)) rs
    (λ r some k. one_reached m all best r (rank m.goal v) goal k some) reached known

-- ---- an assignment of a run's part

-- nothing that satisfies the run's task is better than the last
unbettered : (t : Instance) (best : Option (ℤ × List ℕ)) (last : Option (List ℤ)) (b : List ℤ) → t.goal ≢ Satisfy → EndsSo t last → IfSome last (λ (a : List ℤ). IsBestWithin best (rank_of_goal t.goal a)) → Satisfies t b → IsBestWithin best (rank_of_goal t.goal b)
unbettered t best None b goal ends value satisfies = absurd (ends b satisfies)
unbettered t best (Some z) b goal ends value satisfies = elim (lt_or_le (rank_of_goal t.goal b) (rank_of_goal t.goal z)) [
  | inl less ↦ absurd (ends.unbettered b satisfies (rank_better t b z goal (declared_length t.variables b satisfies.declared) (declared_length t.variables z ends.satisfies.declared) less))
  | inr le ↦ best_further best (rank_of_goal t.goal z) (rank_of_goal t.goal b) value le
]

beyond_bound : (g : Goal) (best : Option (ℤ × List ℕ)) (bound : Option ℤ) (b : List ℤ) → IfSome bound (λ (v : ℤ). IsBestWithin best (rank g v)) → IsSomeAnd bound (λ (v : ℤ). rank g v ≤ℤ rank_of_goal g b) → IsBestWithin best (rank_of_goal g b)
beyond_bound g best None b reached beyond = absurd beyond
beyond_bound g best (Some v) b reached beyond = best_further best (rank g v) (rank_of_goal g b) reached beyond

-- the best one is as good as any of the run's part
pub part_within : (m : Instance) (all : Bool) (best : Option (ℤ × List ℕ)) (r : Ran) (b : List ℤ) → m.goal ≢ Satisfy → IsPartOf m r.part → IsKnown m all best r → IfSome r.bound (λ (v : ℤ). IsBestWithin best (rank m.goal v)) → Satisfies m b → is_in_part b r.part ≡ true
    → IsBestWithin best (rank_of_goal m.goal b)
part_within m all best r b goal of_model known reached satisfies inside = elim (bound_or_not m.goal r.bound b) [
  | inl better ↦
      unbettered (task_of m r.part r.bound) best (last_of r.list) b goal (ends_so (task_of m r.part r.bound) r.list (run_best m all r goal known.ran).last) known.value ((task_in m r.part r.bound b of_model).1 (satisfies, inside, better))
  | inr beyond ↦ beyond_bound m.goal best r.bound b reached beyond
]

last_satisfies : (t : Instance) (last : Option (List ℤ)) (a : List ℤ) → last ≡ Some a → EndsSo t last → Satisfies t a
last_satisfies t last a is ends = let best : IsBest t a = subst (EndsSo t) is ends in best.satisfies

-- the last of a run satisfies the model
pub last_of_model : (m : Instance) (all : Bool) (r : Ran) (a : List ℤ) → m.goal ≢ Satisfy → IsPartOf m r.part → IsRan m all r → last_of r.list ≡ Some a → Satisfies m a
last_of_model m all r a goal of_model ran is =
    ((task_in m r.part r.bound a of_model).0 (last_satisfies (task_of m r.part r.bound) (last_of r.list) a is (ends_so (task_of m r.part r.bound) r.list (run_best m all r goal ran).last))).0

-- ---- the best one

none_best : (all : Bool) (m : Instance) → ((b : List ℤ) → Satisfies m b → ⊥) → AreBest all m []
none_best all m none = record { sound = tt; improving = tt; alone = λ one. omega arith; last = none }

one_best : (all : Bool) (m : Instance) (a : List ℤ) → IsBest m a → AreBest all m (a ∷ [])
one_best all m a best = record { sound = (best.satisfies, tt); improving = tt; alone = λ one. omega arith; last = best }

pub no_solution : (all : Bool) (m : Instance) (best : Option (ℤ × List ℕ)) → best ≡ None → ((b : List ℤ) → Satisfies m b → IsBestWithin best (rank_of_goal m.goal b)) → AreBest all m []
no_solution all m best none within = none_best all m (λ b satisfies. subst (λ (o : Option (ℤ × List ℕ)). IsBestWithin o (rank_of_goal m.goal b)) none (within b satisfies))

not_better : (m : Instance) (a b : List ℤ) → rank_of_goal m.goal a ≤ℤ rank_of_goal m.goal b → IsBetter m b a → ⊥
not_better m a b le better = let less = better_rank m b a better in omega (arith, ints, le, less)

pub best_solution : (all : Bool) (m : Instance) (best : Option (ℤ × List ℕ)) (a : List ℤ) (text : List ℕ) → Satisfies m a → best ≡ Some (rank_of_goal m.goal a, text) → ((b : List ℤ) → Satisfies m b → IsBestWithin best (rank_of_goal m.goal b)) → AreBest all m (a ∷ [])
best_solution all m best a text satisfies is within =
    one_best all m a (record { satisfies = satisfies; unbettered = λ b other. not_better m a b (subst (λ (o : Option (ℤ × List ℕ)). IsBestWithin o (rank_of_goal m.goal b)) is (within b other)) })
