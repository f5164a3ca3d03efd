-- What is known once runs are read says what lacks, and what is joined.
use Rattle.std.proofs.Common.{sym, subst, ◌∙◌, ap, ap₂, inl, inr, take, append-nil}
use Rattle.std.specs.Prelude.{◌≡◌, ◌≢◌, ◌⊎◌, ◌↔◌, ℕ, ℤ, Bool, true, false, Option, Some, List, [], ◌∷◌, ◌++◌, codes, slice_get, IfSome, if◌then◌else◌}
use Rattle.std.specs.List.{AllByRecursion}
use Rattle.fz_spec.specs.declared.goal.Goal.TheVariants.{Satisfy}
use Rattle.fz_spec.specs.Instance.{Instance, Lists}
use Rattle.fz_spec.specs.Run.{block, blocks, closing}
use Rattle.fz_tree.specs.declared.decision.Decision.{Decision}
use Rattle.fz_part.specs.Parts.{AreParts}
use Rattle.fz_part.specs.Texts.{part_text}
use Rattle.fz_runs.specs.Runs.{AreBest, PrintsWanted}
use Rattle.fz_join.specs.Joins.{ArePartsOf, AreReached, AreRuns, IsFound, IsJoined, Ran, times_run}
use Rattle.fz_join.specs.Machine.{best_text, begun, is_reached}
use Rattle.fz_join.specs.After.{after_runs}
use Rattle.fz_join.proofs.BestRuns.{asked_best, best_solution, no_solution}
use Rattle.fz_join.proofs.SumAfter.{lists_of, printed_after, printed_of_goal, shown_after}
use Rattle.fz_join.proofs.SumRuns.{joined_lists, joined_sound, prints_asked, run_text, runs_and_parts}
use Rattle.fz_join.proofs.WholeBest.{best_of_all, lacks_bound, none_or_block}
use Rattle.fz_join.proofs.WholeSolutions.{all_or_none, all_ran, closed_text, either_each, first_printed, if_each, parts_known, some_listed, times_at, wanted_each}

-- one solution is asked for and shown
pub found_joined : (m : Instance) (ps : List (List Decision)) (rs : List Ran) (text : List ℕ) → ArePartsOf m ps → AreRuns m false ps rs text → m.goal ≡ Satisfy → (after_runs m false (begun ps) rs).state.shown ≡ true
    → IsJoined m false (after_runs m false (begun ps) rs).printed
found_joined m ps rs text parts runs goal shown = (
  take 1 (lists_of rs),
  λ o asks.
      run_text m o (take 1 (lists_of rs)) (after_runs m false (begun ps) rs).printed asks.plain
      (prints_asked o false m.goal m (take 1 (lists_of rs)) (after_runs m false (begun ps) rs).printed goal asks
      (subst (λ (s : List ℕ). PrintsWanted false (Some 1) m (take 1 (lists_of rs)) s) (sym (printed_after m false (begun ps) rs goal))
      (inl (first_printed m (lists_of rs) (sym (shown_after m false (begun ps) rs goal) ∙ shown) (joined_sound m false rs goal (parts_known m ps rs false text parts runs) runs.each))))),
)

-- then a run shows one
pub found_shown : (m : Instance) (all : Bool) (ps : List (List Decision)) (rs : List Ran) → IsFound m all rs → (after_runs m all (begun ps) rs).state.shown ≡ true
found_shown m all ps rs found = shown_after m all (begun ps) rs found.goal ∙ some_listed rs found.some

-- a part has run once exactly where one run is of it
pub times_known : (m : Instance) (all : Bool) (ps : List (List Decision)) (rs : List Ran) (k : ℕ) → IfSome (slice_get ps k) (λ p. ((after_runs m all (begun ps) rs).state.times (part_text p) ≡ Some 1) ↔ (times_run rs (part_text p) ≡ 1))
times_known m all ps rs k = if_each (slice_get ps k) (λ (p : List Decision). ((after_runs m all (begun ps) rs).state.times (part_text p) ≡ Some 1) ↔ (times_run rs (part_text p) ≡ 1)) (λ p at. times_at m all ps rs k p at)

-- all parts have run, and solutions are asked for
pub all_joined : (m : Instance) (all : Bool) (ps : List (List Decision)) (rs : List Ran) (text : List ℕ) → ArePartsOf m ps → AreRuns m all ps rs text → AreParts m ps → m.goal ≡ Satisfy
    → AllByRecursion (λ p. (after_runs m all (begun ps) rs).state.times (part_text p) ≡ Some 1) ps
    → ((all ≡ true) ⊎ ((after_runs m all (begun ps) rs).state.shown ≡ false))
    → IsJoined m all ((after_runs m all (begun ps) rs).printed ++ (if (after_runs m all (begun ps) rs).state.shown then codes "==========\n" else codes "=====UNSATISFIABLE=====\n"))
all_joined m all ps rs text parts runs are goal times shown =
    let either = all_or_none all (lists_of rs) (after_runs m all (begun ps) rs).state.shown (shown_after m all (begun ps) rs goal) shown in
    let lists : Lists m (lists_of rs) =
    joined_lists m all rs goal (parts_known m ps rs all text parts runs) runs.each (either_each all rs either)
    (λ a satisfies. runs_and_parts ps rs a parts.different runs.known (all_ran m all ps rs times) ∙ are a satisfies) in
    let printed : List ℕ = (after_runs m all (begun ps) rs).printed ++ (if (after_runs m all (begun ps) rs).state.shown then codes "==========\n" else codes "=====UNSATISFIABLE=====\n") in (
      lists_of rs,
      λ o asks.
          run_text m o (lists_of rs) printed asks.plain
          (prints_asked o all m.goal m (lists_of rs) printed goal asks
          (wanted_each all m (lists_of rs) printed either (record { lists = lists; text = closed_text m all ps rs goal either }))),
    )

joined_best : (m : Instance) (all : Bool) (l : List (List ℤ)) (s : List ℕ) (best : Option (ℤ × List ℕ)) → m.goal ≢ Satisfy → s ++ best_text best ≡ blocks m l ++ closing l → AreBest all m l → IsJoined m all (s ++ best_text best)
joined_best m all l s best goal is are = (
  l,
  λ o asks. run_text m o l (s ++ best_text best) asks.plain (asked_best o all m.goal m l (s ++ best_text best) goal asks (record { are = are; text = is })),
)

-- all parts have run, and a best one is asked for
pub best_joined : (m : Instance) (all : Bool) (ps : List (List Decision)) (rs : List Ran) (text : List ℕ) → ArePartsOf m ps → AreRuns m all ps rs text → AreParts m ps → m.goal ≢ Satisfy
    → AllByRecursion (λ p. (after_runs m all (begun ps) rs).state.times (part_text p) ≡ Some 1) ps
    → is_reached (after_runs m all (begun ps) rs).state.bound (after_runs m all (begun ps) rs).state.best ≡ true
    → IsJoined m all ((after_runs m all (begun ps) rs).printed ++ best_text (after_runs m all (begun ps) rs).state.best)
best_joined m all ps rs text parts runs are goal times reached =
    let within = best_of_all m all ps rs text parts runs are goal times reached in
    elim (none_or_block m all ps rs text parts runs goal) [
      | inl none ↦ joined_best m all [] (after_runs m all (begun ps) rs).printed (after_runs m all (begun ps) rs).state.best goal
          (ap₂ (λ (s : List ℕ) (b : Option (ℤ × List ℕ)). s ++ best_text b) (printed_of_goal m all (begun ps) rs goal) none) (no_solution all m (after_runs m all (begun ps) rs).state.best none within)
      | inr b ↦ joined_best m all (b.shown ∷ []) (after_runs m all (begun ps) rs).printed (after_runs m all (begun ps) rs).state.best goal
          (ap₂ (λ (s : List ℕ) (o : Option (ℤ × List ℕ)). s ++ best_text o) (printed_of_goal m all (begun ps) rs goal) b.is ∙ ap (λ (s : List ℕ). s ++ codes "==========\n") (sym (append-nil (block m b.shown))))
          (best_solution all m (after_runs m all (begun ps) rs).state.best b.shown (block m b.shown) b.satisfies b.is within)
    ]

-- a value that was to be bettered is better than all that are shown
pub bound_lacks : (m : Instance) (all : Bool) (ps : List (List Decision)) (rs : List Ran) (text : List ℕ) → AreRuns m all ps rs text → m.goal ≢ Satisfy
    → is_reached (after_runs m all (begun ps) rs).state.bound (after_runs m all (begun ps) rs).state.best ≡ false → AreReached m rs → ⊥
bound_lacks m all ps rs text runs goal lacks reached = lacks_bound m all ps rs text runs goal lacks reached
