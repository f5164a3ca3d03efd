-- What is joined where solutions are asked for.
use Rattle.std.proofs.Common.{◌≡◌, ◌≢◌, ◌⊎◌, ◌↔◌, inl, inr, ℕ, ◌+◌, ◌≤◌, min, ℤ, List, [], ◌∷◌, ◌++◌, refl, sym, subst, ◌∙◌, ap, ap₂, arith, Bool, true, false, if◌then◌else◌, Option, Some, None, IfSome, codes, slice_get, length, take, Contains}
use Rattle.std.specs.List.{AllByRecursion}
use Rattle.fz_sets.proofs.Lists.{all_at, all_of, some_is}
use Rattle.fz_spec.specs.Truth.{SomeByRecursion}
use Rattle.fz_spec.specs.declared.goal.Goal.TheVariants.{Satisfy}
use Rattle.fz_spec.specs.Instance.{Instance, Satisfies, occurrences, is_same}
use Rattle.fz_spec.specs.Run.{blocks, closing}
use Rattle.fz_tree.specs.declared.decision.Decision.{Decision}
use Rattle.fz_tree.proofs.Counts.{one_if, count_cons}
use Rattle.fz_part.specs.Parts.{IsPartOf}
use Rattle.fz_part.specs.Texts.{part_text}
use Rattle.fz_runs.specs.Runs.{PrintsEach, PrintsSome, PrintsWanted, wanted_of}
use Rattle.fz_join.specs.Joins.{ArePartsOf, AreRuns, HaveAllRun, Ran, times_run}
use Rattle.fz_join.specs.Machine.{begun}
use Rattle.fz_join.specs.After.{after_runs, is_some_listed, shown_of}
use Rattle.fz_join.proofs.SumAfter.{lists_of, none_began, printed_after, shown_after, times_after}
use Rattle.fz_join.proofs.SumRuns.{all_contains, all_each}

-- ---- how often parts have run

just_one : (k : ℕ) → (Some (min (0 + k) 255) ≡ Some 1) ↔ (k ≡ 1)
just_one k = (λ is. omega (arith, some_is (min (0 + k) 255) 1 is), λ one. ap Some (omega (arith, one)))

pub times_at : (m : Instance) (all : Bool) (ps : List (List Decision)) (rs : List Ran) (k : ℕ) (p : List Decision) → slice_get ps k ≡ Some p → ((after_runs m all (begun ps) rs).state.times (part_text p) ≡ Some 1) ↔ (times_run rs (part_text p) ≡ 1)
times_at m all ps rs k p at =
    subst (λ (o : Option ℕ). (o ≡ Some 1) ↔ (times_run rs (part_text p) ≡ 1)) (sym (times_after m all (begun ps) rs (part_text p) 0 (none_began ps k p at))) (just_one (times_run rs (part_text p)))

pub if_each : {X : Type 0} (o : Option X) (P : X → Type 0) → ((x : X) → o ≡ Some x → P x) → IfSome o P
if_each None P each = tt
if_each (Some x) P each = each x refl

pub all_ran : (m : Instance) (all : Bool) (ps : List (List Decision)) (rs : List Ran) → AllByRecursion (λ (p : List Decision). (after_runs m all (begun ps) rs).state.times (part_text p) ≡ Some 1) ps → HaveAllRun ps rs
all_ran m all ps rs times =
    all_of (λ (p : List Decision). times_run rs (part_text p) ≡ 1) ps
    (λ k p at. (times_at m all ps rs k p at).0 (all_at (λ (q : List Decision). (after_runs m all (begun ps) rs).state.times (part_text q) ≡ Some 1) ps k p times at))

pub parts_known : (m : Instance) (ps : List (List Decision)) (rs : List Ran) (all : Bool) (text : List ℕ) → ArePartsOf m ps → AreRuns m all ps rs text → AllByRecursion (λ (r : Ran). IsPartOf m r.part) rs
parts_known m ps rs all text parts runs = all_each (λ (r : Ran). Contains ps r.part) (λ (r : Ran). IsPartOf m r.part) rs (λ r at. all_contains (IsPartOf m) ps r.part parts.of_model at) runs.known

-- ---- what is listed

left_none : (l k : List (List ℤ)) → l ++ k ≡ [] → l ≡ []
left_none [] k none = refl
left_none (a ∷ l) k none = absurd (cc none)

right_none : (l k : List (List ℤ)) → l ++ k ≡ [] → k ≡ []
right_none [] k none = none
right_none (a ∷ l) k none = absurd (cc none)

none_listed : (l : List (List ℤ)) → is_some_listed l ≡ false → l ≡ []
none_listed [] is = refl
none_listed (a ∷ l) is = absurd (cc (is))

some_left : (l k : List (List ℤ)) → l ≢ [] → is_some_listed (l ++ k) ≡ true
some_left [] k some = absurd (some refl)
some_left (a ∷ l) k some = refl

some_right : (l k : List (List ℤ)) → is_some_listed k ≡ true → is_some_listed (l ++ k) ≡ true
some_right [] k some = some
some_right (a ∷ l) k some = refl

pub some_listed : (rs : List Ran) → SomeByRecursion (λ (r : Ran). r.list ≢ []) rs → is_some_listed (lists_of rs) ≡ true
some_listed [] some = absurd some
some_listed (r ∷ rs) (inl here) = some_left r.list (lists_of rs) here
some_listed (r ∷ rs) (inr later) = some_right r.list (lists_of rs) (some_listed rs later)

-- ---- one is asked for

one_at_most : (b : Bool) (n : ℕ) → n ≡ one_if b + 0 → n ≤ 1
one_at_most true n is = omega (arith, is)
one_at_most false n is = omega (arith, is)

pub first_printed : (m : Instance) (l : List (List ℤ)) → is_some_listed l ≡ true → AllByRecursion (Satisfies m) l → PrintsSome false m 1 (take 1 l) (blocks m (take 1 l))
first_printed m [] some sound = absurd (cc (some))
first_printed m (x ∷ l) some sound = record {
  are = record {
    sound = (sound.0, tt);
    different = λ a satisfies. one_at_most (is_same a x) (occurrences a (x ∷ [])) (count_cons (is_same a) x []);
    count = refl;
  };
  text = refl;
}

-- ---- all have run

pub wanted_each : (all : Bool) (m : Instance) (l : List (List ℤ)) (s : List ℕ) → (all ≡ true) ⊎ (l ≡ []) → PrintsEach false m l s → PrintsWanted false (wanted_of all None) m l s
wanted_each true m l s either each = each
wanted_each false m l s (inl is) each = absurd (cc (is))
wanted_each false m l s (inr none) each = inr (omega (arith, ap length none), each)

whole_shown : (all : Bool) (l : List (List ℤ)) → (all ≡ true) ⊎ (l ≡ []) → shown_of all false l ≡ l
whole_shown true l either = refl
whole_shown false l (inl is) = absurd (cc (is))
whole_shown false l (inr none) = ap (λ (k : List (List ℤ)). take 1 k) none ∙ sym none

closed : (l : List (List ℤ)) → (if is_some_listed l then codes "==========\n" else codes "=====UNSATISFIABLE=====\n") ≡ closing l
closed [] = refl
closed (a ∷ l) = refl

pub all_or_none : (all : Bool) (l : List (List ℤ)) (shown : Bool) → shown ≡ is_some_listed l → (all ≡ true) ⊎ (shown ≡ false) → (all ≡ true) ⊎ (l ≡ [])
all_or_none all l shown is (inl every) = inl every
all_or_none all l shown is (inr none) = inr (none_listed l (sym is ∙ none))

pub either_each : (all : Bool) (rs : List Ran) → (all ≡ true) ⊎ (lists_of rs ≡ []) → AllByRecursion (λ (r : Ran). (all ≡ true) ⊎ (r.list ≡ [])) rs
either_each all [] either = tt
either_each all (r ∷ rs) (inl every) = (inl every, either_each all rs (inl every))
either_each all (r ∷ rs) (inr none) = (inr (left_none r.list (lists_of rs) none), either_each all rs (inr (right_none r.list (lists_of rs) none)))

pub closed_text : (m : Instance) (all : Bool) (ps : List (List Decision)) (rs : List Ran) → m.goal ≡ Satisfy → (all ≡ true) ⊎ (lists_of rs ≡ [])
    → (after_runs m all (begun ps) rs).printed ++ (if (after_runs m all (begun ps) rs).state.shown then codes "==========\n" else codes "=====UNSATISFIABLE=====\n") ≡ blocks m (lists_of rs) ++ closing (lists_of rs)
closed_text m all ps rs goal either =
    ap₂ (λ (s c : List ℕ). s ++ c) (printed_after m all (begun ps) rs goal ∙ ap (blocks m) (whole_shown all (lists_of rs) either))
    (ap (λ (b : Bool). if b then codes "==========\n" else codes "=====UNSATISFIABLE=====\n") (shown_after m all (begun ps) rs goal) ∙ closed (lists_of rs))
