-- The best value and the bound that are known once runs are read.
use Rattle.std.proofs.Common.{◌≡◌, ◌≢◌, ◌⊎◌, inl, inr, ℕ, ℤ, ◌≤ℤ◌, int_lt, not, List, [], ◌∷◌, refl, sym, ◌∙◌, subst, arith, Bool, true, false, if◌then◌else◌, Option, Some, None, IfSome, IsSomeAnd, option_map}
use Rattle.std.specs.List.{AllByRecursion}
use Rattle.std.proofs.lemmas.Int.{ints}
use Rattle.fz_sets.proofs.Lists.{some_is}
use Rattle.fz_spec.specs.Truth.{SomeByRecursion}
use Rattle.fz_spec.specs.declared.goal.Goal.{Goal}
use Rattle.fz_spec.specs.declared.goal.Goal.TheVariants.{Satisfy, Minimize, Maximize}
use Rattle.fz_spec.specs.Instance.{Instance}
use Rattle.fz_spec.specs.Run.{block}
use Rattle.fz_join.specs.Joins.{Ran, rank, rank_of_goal}
use Rattle.fz_join.specs.Machine.{Reading, better_of, is_reached, least_of}
use Rattle.fz_join.specs.After.{after_run, after_runs, last_block, last_of, told_of}

-- there is one, of at most this rank
abbrev pub IsBestWithin : Option (ℤ × List ℕ) → ℤ → Type 0
IsBestWithin best k = IsSomeAnd best (λ (b : ℤ × List ℕ). b.0 ≤ℤ k)

abbrev pub IsLeastWithin : Option ℤ → ℤ → Type 0
IsLeastWithin least k = IsSomeAnd least (λ (b : ℤ). b ≤ℤ k)

pub best_further : (best : Option (ℤ × List ℕ)) (j k : ℤ) → IsBestWithin best j → j ≤ℤ k → IsBestWithin best k
best_further None j k within le = within
best_further (Some b) j k within le = omega (arith, ints, within, le)

-- ---- one run

lesser_kept : (t : Bool) (v k : ℤ) (b : ℤ × List ℕ) (block : List ℕ) → int_lt v b.0 ≡ t → b.0 ≤ℤ k → IsBestWithin (if t then Some (v, block) else Some b) k
lesser_kept true v k b block lt within = omega (arith, ints, lt, within)
lesser_kept false v k b block lt within = within

better_kept : (best : Option (ℤ × List ℕ)) (told : Option ℤ) (block : List ℕ) (k : ℤ) → IsBestWithin best k → IsBestWithin (better_of best told block) k
better_kept best None block k within = within
better_kept None (Some v) block k within = absurd within
better_kept (Some b) (Some v) block k within = lesser_kept (int_lt v b.0) v k b block refl within

lesser_told : (t : Bool) (v : ℤ) (b : ℤ × List ℕ) (block : List ℕ) → int_lt v b.0 ≡ t → IsBestWithin (if t then Some (v, block) else Some b) v
lesser_told true v b block lt = omega (arith, ints)
lesser_told false v b block lt = omega (arith, ints, lt)

told_within : (best : Option (ℤ × List ℕ)) (told : Option ℤ) (block : List ℕ) → IfSome told (IsBestWithin (better_of best told block))
told_within best None block = tt
told_within None (Some v) block = omega (arith, ints)
told_within (Some b) (Some v) block = lesser_told (int_lt v b.0) v b block refl

-- a value that is told, with its block
abbrev IsTold : Option (ℤ × List ℕ) → Option ℤ → List ℕ → Type 0
IsTold best told block = (v : ℤ) × (told ≡ Some v) × (best ≡ Some (v, block))

lesser_from : (t : Bool) (v : ℤ) (b : ℤ × List ℕ) (block : List ℕ) → ((if t then Some (v, block) else Some b) ≡ Some b) ⊎ IsTold (if t then Some (v, block) else Some b) (Some v) block
lesser_from true v b block = inr (v, refl, refl)
lesser_from false v b block = inl refl

better_from : (best : Option (ℤ × List ℕ)) (told : Option ℤ) (block : List ℕ) → (better_of best told block ≡ best) ⊎ IsTold (better_of best told block) told block
better_from best None block = inl refl
better_from None (Some v) block = inr (v, refl, refl)
better_from (Some b) (Some v) block = lesser_from (int_lt v b.0) v b block

-- ---- of the last that a run lists

told_is : (g : Goal) (last : Option (List ℤ)) → g ≢ Satisfy → told_of g last ≡ option_map (rank_of_goal g) last
told_is Satisfy last goal = absurd (goal refl)
told_is (Minimize t) last goal = refl
told_is (Maximize t) last goal = refl

mapped_within : (best : Option (ℤ × List ℕ)) (rank_of : List ℤ → ℤ) (last : Option (List ℤ)) → IfSome (option_map rank_of last) (IsBestWithin best) → IfSome last (λ (a : List ℤ). IsBestWithin best (rank_of a))
mapped_within best rank_of None within = within
mapped_within best rank_of (Some a) within = within

-- the best one is that one
abbrev pub IsFrom : Instance → Option (ℤ × List ℕ) → Option (List ℤ) → Type 0
IsFrom m best last = (a : List ℤ) × (last ≡ Some a) × (best ≡ Some (rank_of_goal m.goal a, block m a))

mapped_from : (m : Instance) (best : Option (ℤ × List ℕ)) (last : Option (List ℤ)) → IsTold best (option_map (rank_of_goal m.goal) last) (last_block m last) → IsFrom m best last
mapped_from m best None told = absurd (cc (told.1))
mapped_from m best (Some a) told = (a, refl, cc (told.1, told.2))

-- ---- all runs

best_kept : (m : Instance) (all : Bool) (x : Reading) (rs : List Ran) (k : ℤ) → IsBestWithin x.state.best k → IsBestWithin (after_runs m all x rs).state.best k
best_kept m all x [] k within = within
best_kept m all x (r ∷ rs) k within = best_kept m all (after_run m all x r) rs k (better_kept x.state.best (told_of m.goal (last_of r.list)) (last_block m (last_of r.list)) k within)

kept_last : (m : Instance) (all : Bool) (x : Reading) (rs : List Ran) (last : Option (List ℤ)) → IfSome last (λ (a : List ℤ). IsBestWithin x.state.best (rank_of_goal m.goal a)) → IfSome last (λ (a : List ℤ). IsBestWithin (after_runs m all x rs).state.best (rank_of_goal m.goal a))
kept_last m all x rs None within = within
kept_last m all x rs (Some a) within = best_kept m all x rs (rank_of_goal m.goal a) within

run_within : (m : Instance) (all : Bool) (x : Reading) (r : Ran) → m.goal ≢ Satisfy → IfSome (last_of r.list) (λ (a : List ℤ). IsBestWithin (after_run m all x r).state.best (rank_of_goal m.goal a))
run_within m all x r goal =
    mapped_within (after_run m all x r).state.best (rank_of_goal m.goal) (last_of r.list)
    (subst (λ (told : Option ℤ). IfSome told (IsBestWithin (after_run m all x r).state.best)) (told_is m.goal (last_of r.list) goal)
    (told_within x.state.best (told_of m.goal (last_of r.list)) (last_block m (last_of r.list))))

-- the best is as good as the last of each run
pub best_within : (m : Instance) (all : Bool) (x : Reading) (rs : List Ran) → m.goal ≢ Satisfy → AllByRecursion (λ (r : Ran). IfSome (last_of r.list) (λ (a : List ℤ). IsBestWithin (after_runs m all x rs).state.best (rank_of_goal m.goal a))) rs
best_within m all x [] goal = tt
best_within m all x (r ∷ rs) goal = (kept_last m all (after_run m all x r) rs (last_of r.list) (run_within m all x r goal), best_within m all (after_run m all x r) rs goal)

run_from : (m : Instance) (all : Bool) (x : Reading) (r : Ran) → m.goal ≢ Satisfy → ((after_run m all x r).state.best ≡ x.state.best) ⊎ IsFrom m (after_run m all x r).state.best (last_of r.list)
run_from m all x r goal = elim (better_from x.state.best (told_of m.goal (last_of r.list)) (last_block m (last_of r.list))) [
  | inl same ↦ inl same
  | inr told ↦ inr (mapped_from m (after_run m all x r).state.best (last_of r.list) (subst (λ (o : Option ℤ). IsTold (after_run m all x r).state.best o (last_block m (last_of r.list))) (told_is m.goal (last_of r.list) goal) told))
]

carried : (m : Instance) (best after : Option (ℤ × List ℕ)) (last : Option (List ℤ)) → after ≡ best → IsFrom m best last → IsFrom m after last
carried m best after last same is = subst (λ (b : Option (ℤ × List ℕ)). IsFrom m b last) (sym same) is

-- it is the last of a run
pub best_from : (m : Instance) (all : Bool) (x : Reading) (rs : List Ran) → m.goal ≢ Satisfy
    → ((after_runs m all x rs).state.best ≡ x.state.best) ⊎ SomeByRecursion (λ (r : Ran). IsFrom m (after_runs m all x rs).state.best (last_of r.list)) rs
best_from m all x [] goal = inl refl
best_from m all x (r ∷ rs) goal = elim (best_from m all (after_run m all x r) rs goal) [
  | inl same ↦ elim (run_from m all x r goal) [ inl before ↦ inl (same ∙ before) | inr here ↦ inr (inl (carried m (after_run m all x r).state.best (after_runs m all (after_run m all x r) rs).state.best (last_of r.list) same here)) ]
  | inr later ↦ inr (inr later)
]

-- ---- the bound

least_cases : (t : Bool) (a b k : ℤ) → int_lt b a ≡ t → a ≤ℤ k → IsLeastWithin (if t then Some b else Some a) k
least_cases true a b k lt within = omega (arith, ints, lt, within)
least_cases false a b k lt within = within

least_kept : (least bound : Option ℤ) (k : ℤ) → IsLeastWithin least k → IsLeastWithin (least_of least bound) k
least_kept least None k within = within
least_kept None (Some b) k within = absurd within
least_kept (Some a) (Some b) k within = least_cases (int_lt b a) a b k refl within

least_here : (t : Bool) (a b : ℤ) → int_lt b a ≡ t → IsLeastWithin (if t then Some b else Some a) b
least_here true a b lt = omega (arith, ints)
least_here false a b lt = omega (arith, ints, lt)

least_within : (least bound : Option ℤ) → IfSome bound (IsLeastWithin (least_of least bound))
least_within least None = tt
least_within None (Some b) = omega (arith, ints)
least_within (Some a) (Some b) = least_here (int_lt b a) a b refl

-- it is that value
abbrev pub IsLeastFrom : Goal → Option ℤ → Option ℤ → Type 0
IsLeastFrom g least bound = (v : ℤ) × (bound ≡ Some v) × (least ≡ Some (rank g v))

least_either : (t : Bool) (g : Goal) (a v : ℤ) → ((if t then Some (rank g v) else Some a) ≡ Some a) ⊎ IsLeastFrom g (if t then Some (rank g v) else Some a) (Some v)
least_either true g a v = inr (v, refl, refl)
least_either false g a v = inl refl

least_from : (g : Goal) (least bound : Option ℤ) → (least_of least (option_map (rank g) bound) ≡ least) ⊎ IsLeastFrom g (least_of least (option_map (rank g) bound)) bound
least_from g least None = inl refl
least_from g None (Some v) = inr (v, refl, refl)
least_from g (Some a) (Some v) = least_either (int_lt (rank g v) a) g a v

bound_kept : (m : Instance) (all : Bool) (x : Reading) (rs : List Ran) (k : ℤ) → IsLeastWithin x.state.bound k → IsLeastWithin (after_runs m all x rs).state.bound k
bound_kept m all x [] k within = within
bound_kept m all x (r ∷ rs) k within = bound_kept m all (after_run m all x r) rs k (least_kept x.state.bound (option_map (rank m.goal) r.bound) k within)

kept_bound : (m : Instance) (all : Bool) (x : Reading) (rs : List Ran) (bound : Option ℤ) → IfSome (option_map (rank m.goal) bound) (IsLeastWithin x.state.bound) → IfSome bound (λ (v : ℤ). IsLeastWithin (after_runs m all x rs).state.bound (rank m.goal v))
kept_bound m all x rs None within = within
kept_bound m all x rs (Some v) within = bound_kept m all x rs (rank m.goal v) within

-- the bound is within that of each run
pub bound_within : (m : Instance) (all : Bool) (x : Reading) (rs : List Ran) → AllByRecursion (λ (r : Ran). IfSome r.bound (λ (v : ℤ). IsLeastWithin (after_runs m all x rs).state.bound (rank m.goal v))) rs
bound_within m all x [] = tt
bound_within m all x (r ∷ rs) = (kept_bound m all (after_run m all x r) rs r.bound (least_within x.state.bound (option_map (rank m.goal) r.bound)), bound_within m all (after_run m all x r) rs)

carried_bound : (g : Goal) (least after bound : Option ℤ) → after ≡ least → IsLeastFrom g least bound → IsLeastFrom g after bound
carried_bound g least after bound same is = subst (λ (b : Option ℤ). IsLeastFrom g b bound) (sym same) is

-- it is that of a run
pub bound_from : (m : Instance) (all : Bool) (x : Reading) (rs : List Ran) → ((after_runs m all x rs).state.bound ≡ x.state.bound) ⊎ SomeByRecursion (λ (r : Ran). IsLeastFrom m.goal (after_runs m all x rs).state.bound r.bound) rs
bound_from m all x [] = inl refl
bound_from m all x (r ∷ rs) = elim (bound_from m all (after_run m all x r) rs) [
  | inl same ↦ elim (least_from m.goal x.state.bound r.bound) [ inl before ↦ inl (same ∙ before) | inr here ↦ inr (inl (carried_bound m.goal (after_run m all x r).state.bound (after_runs m all (after_run m all x r) rs).state.bound r.bound same here)) ]
  | inr later ↦ inr (inr later)
]

-- ---- whether the best reaches the bound

not_true : (b : Bool) → not b ≡ true → b ≡ false
not_true true is = cc (is)
not_true false is = refl

not_false : (b : Bool) → not b ≡ false → b ≡ true
not_false true is = refl
not_false false is = cc (is)

pub reaches : (bound : Option ℤ) (best : Option (ℤ × List ℕ)) (k : ℤ) → is_reached bound best ≡ true → IsLeastWithin bound k → IsBestWithin best k
reaches None best k reached within = absurd within
reaches (Some d) None k reached within = absurd (cc (reached))
reaches (Some d) (Some b) k reached within = let lt : int_lt d b.0 ≡ false = not_true (int_lt d b.0) reached in omega (arith, ints, lt, within)

pub lacks_none : (bound : Option ℤ) (best : Option (ℤ × List ℕ)) (k : ℤ) → is_reached bound best ≡ false → bound ≡ Some k → IsBestWithin best k → ⊥
lacks_none None best k lacks is within = cc (is)
lacks_none (Some d) None k lacks is within = within
lacks_none (Some d) (Some b) k lacks is within = let lt : int_lt d b.0 ≡ true = not_false (int_lt d b.0) lacks in omega (arith, ints, lt, within, some_is d k is)
