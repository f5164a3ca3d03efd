-- What is joined where a best one is asked for.
use Rattle.std.proofs.Common.{◌≡◌, ◌≢◌, ◌⊎◌, inl, inr, ℕ, ℤ, List, [], ◌∷◌, subst, arith, Bool, true, false, Option, Some, None, IfSome}
use Rattle.std.specs.List.{AllByRecursion}
use Rattle.fz_spec.specs.Truth.{SomeByRecursion}
use Rattle.fz_spec.specs.declared.goal.Goal.{Goal}
use Rattle.fz_spec.specs.declared.goal.Goal.TheVariants.{Satisfy}
use Rattle.fz_spec.specs.Instance.{Instance, Satisfies}
use Rattle.fz_spec.specs.Run.{block}
use Rattle.fz_tree.specs.declared.decision.Decision.{Decision}
use Rattle.fz_part.specs.Parts.{AreParts, IsPartOf, is_in_part}
use Rattle.fz_part.specs.Texts.{part_text}
use Rattle.fz_join.specs.Joins.{AreReached, ArePartsOf, AreRuns, IsRan, IsReached, Ran, rank, rank_of_goal}
use Rattle.fz_join.specs.Machine.{begun, is_reached}
use Rattle.fz_join.specs.After.{after_runs, last_of}
use Rattle.fz_join.proofs.BestAfter.{IsBestWithin, IsFrom, IsLeastFrom, IsLeastWithin, best_from, best_within, bound_from, bound_within, lacks_none, reaches}
use Rattle.fz_join.proofs.BestRuns.{IsKnown, known_each, last_of_model, part_within, shown_within}
use Rattle.fz_join.proofs.SumCounts.{counted_some}
use Rattle.fz_join.proofs.SumRuns.{all_each, runs_and_parts}
use Rattle.fz_join.proofs.WholeSolutions.{all_ran, parts_known}

-- ---- none is better

bound_reached : (g : Goal) (least : Option ℤ) (best : Option (ℤ × List ℕ)) (bound : Option ℤ) → is_reached least best ≡ true → IfSome bound (λ (v : ℤ). IsLeastWithin least (rank g v)) → IfSome bound (λ (v : ℤ). IsBestWithin best (rank g v))
bound_reached g least best None reached within = within
bound_reached g least best (Some v) reached within = reaches least best (rank g v) reached within

in_some_part : (m : Instance) (all : Bool) (best : Option (ℤ × List ℕ)) (rs : List Ran) (b : List ℤ) → m.goal ≢ Satisfy → AllByRecursion (λ (r : Ran). IsPartOf m r.part) rs → AllByRecursion (IsKnown m all best) rs
    → AllByRecursion (λ (r : Ran). IfSome r.bound (λ (v : ℤ). IsBestWithin best (rank m.goal v))) rs → Satisfies m b → SomeByRecursion (λ (r : Ran). is_in_part b r.part ≡ true) rs → IsBestWithin best (rank_of_goal m.goal b)
in_some_part m all best [] b goal of_model known reached satisfies some = absurd some
in_some_part m all best (r ∷ rs) b goal of_model known reached satisfies (inl here) = part_within m all best r b goal of_model.0 known.0 reached.0 satisfies here
in_some_part m all best (r ∷ rs) b goal of_model known reached satisfies (inr later) = in_some_part m all best rs b goal of_model.1 known.1 reached.1 satisfies later

runs_known : (m : Instance) (all : Bool) (ps : List (List Decision)) (rs : List Ran) (text : List ℕ) → AreRuns m all ps rs text → m.goal ≢ Satisfy → AllByRecursion (IsKnown m all (after_runs m all (begun ps) rs).state.best) rs
runs_known m all ps rs text runs goal = known_each m all (after_runs m all (begun ps) rs).state.best rs runs.each (best_within m all (begun ps) rs goal)

pub best_of_all : (m : Instance) (all : Bool) (ps : List (List Decision)) (rs : List Ran) (text : List ℕ) → ArePartsOf m ps → AreRuns m all ps rs text → AreParts m ps → m.goal ≢ Satisfy
    → AllByRecursion (λ (p : List Decision). (after_runs m all (begun ps) rs).state.times (part_text p) ≡ Some 1) ps
    → is_reached (after_runs m all (begun ps) rs).state.bound (after_runs m all (begun ps) rs).state.best ≡ true
    → (b : List ℤ) → Satisfies m b → IsBestWithin (after_runs m all (begun ps) rs).state.best (rank_of_goal m.goal b)
best_of_all m all ps rs text parts runs are goal times reached b satisfies =
    let best = (after_runs m all (begun ps) rs).state.best in
    let least = (after_runs m all (begun ps) rs).state.bound in
    let one = runs_and_parts ps rs b parts.different runs.known (all_ran m all ps rs times) in
    in_some_part m all best rs b goal (parts_known m ps rs all text parts runs) (runs_known m all ps rs text runs goal)
    (all_each (λ (r : Ran). IfSome r.bound (λ (v : ℤ). IsLeastWithin least (rank m.goal v))) (λ (r : Ran). IfSome r.bound (λ (v : ℤ). IsBestWithin best (rank m.goal v))) rs (λ r within. bound_reached m.goal least best r.bound reached within)
    (bound_within m all (begun ps) rs)) satisfies
    (counted_some (λ (r : Ran). is_in_part b r.part) rs (omega (arith, one, are b satisfies)))

-- ---- which one it is

-- the best one, with its block, satisfies the model
pub record IsBlockOf (m : Instance) (best : Option (ℤ × List ℕ)) : Type 0 where
  pub shown : List ℤ
  pub satisfies : Satisfies m shown
  pub is : best ≡ Some (rank_of_goal m.goal shown, block m shown)

block_from : (m : Instance) (all : Bool) (best : Option (ℤ × List ℕ)) (rs : List Ran) → m.goal ≢ Satisfy → AllByRecursion (λ (r : Ran). IsPartOf m r.part) rs → AllByRecursion (IsRan m all) rs → SomeByRecursion (λ (r : Ran). IsFrom m best (last_of r.list)) rs → IsBlockOf m best
block_from m all best [] goal of_model rans some = absurd some
block_from m all best (r ∷ rs) goal of_model rans (inl here) = record { shown = here.0; satisfies = last_of_model m all r here.0 goal of_model.0 rans.0 here.1; is = here.2 }
block_from m all best (r ∷ rs) goal of_model rans (inr later) = block_from m all best rs goal of_model.1 rans.1 later

pub none_or_block : (m : Instance) (all : Bool) (ps : List (List Decision)) (rs : List Ran) (text : List ℕ) → ArePartsOf m ps → AreRuns m all ps rs text → m.goal ≢ Satisfy
    → ((after_runs m all (begun ps) rs).state.best ≡ None) ⊎ IsBlockOf m (after_runs m all (begun ps) rs).state.best
none_or_block m all ps rs text parts runs goal = elim (best_from m all (begun ps) rs goal) [
  | inl none ↦ inl none
  | inr some ↦ inr (block_from m all (after_runs m all (begun ps) rs).state.best rs goal (parts_known m ps rs all text parts runs) runs.each some)
]

-- ---- a bound that isn't reached

bound_met : (m : Instance) (v : ℤ) (rs : List Ran) (bound : Option ℤ) → bound ≡ Some v → IfSome bound (IsReached m rs) → IsReached m rs v
bound_met m v rs bound is reached = subst (λ (o : Option ℤ). IfSome o (IsReached m rs)) is reached

some_bound : (m : Instance) (all : Bool) (best : Option (ℤ × List ℕ)) (least : Option ℤ) (qs rs : List Ran) → m.goal ≢ Satisfy → is_reached least best ≡ false → AllByRecursion (IsKnown m all best) rs → SomeByRecursion (λ (r : Ran). IsLeastFrom m.goal least r.bound) qs
    → AllByRecursion (λ (r : Ran). IfSome r.bound (IsReached m rs)) qs → ⊥
some_bound m all best least [] rs goal lacks known some reached = some
some_bound m all best least (q ∷ qs) rs goal lacks known (inl here) reached = lacks_none least best (rank m.goal here.0) lacks here.2 (shown_within m all best rs here.0 goal known (bound_met m here.0 rs q.bound here.1 reached.0))
some_bound m all best least (q ∷ qs) rs goal lacks known (inr later) reached = some_bound m all best least qs rs goal lacks known later reached.1

no_bound : (least : Option ℤ) (best : Option (ℤ × List ℕ)) → least ≡ None → is_reached least best ≡ false → ⊥
no_bound None best none lacks = cc (lacks)
no_bound (Some d) best none lacks = cc (none)

pub lacks_bound : (m : Instance) (all : Bool) (ps : List (List Decision)) (rs : List Ran) (text : List ℕ) → AreRuns m all ps rs text → m.goal ≢ Satisfy
    → is_reached (after_runs m all (begun ps) rs).state.bound (after_runs m all (begun ps) rs).state.best ≡ false → AreReached m rs → ⊥
lacks_bound m all ps rs text runs goal lacks reached = elim (bound_from m all (begun ps) rs) [
  | inl none ↦ no_bound (after_runs m all (begun ps) rs).state.bound (after_runs m all (begun ps) rs).state.best none lacks
  | inr some ↦ some_bound m all (after_runs m all (begun ps) rs).state.best (after_runs m all (begun ps) rs).state.bound rs rs goal lacks (runs_known m all ps rs text runs goal) some reached
]
