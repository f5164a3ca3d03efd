-- What a join says at its end.
use Rattle.std.proofs.Common.{◌≡◌, ◌≢◌, ◌∙◌, ◌⊎◌, ◌↔◌, inl, inr, ℕ, Bool, true, false, Option, Some, None, Ok, Err, List, [], ◌∷◌, ◌++◌, refl, sym, ap, subst, append_assoc, append-nil}
use Rattle.std.proofs.lemmas.Bool.{false≢true}
use Rattle.std.specs.Prelude.{ℤ, IfSome, IsSomeAnd, slice_get}
use Rattle.std.specs.List.{AllByRecursion}
use Rattle.fz_spec.specs.declared.goal.Goal.{Goal}
use Rattle.fz_spec.specs.declared.goal.Goal.TheVariants.{Satisfy, Minimize, Maximize}
use Rattle.fz_spec.specs.Instance.{Instance}
use Rattle.fz_tree.specs.declared.decision.Decision.{Decision}
use Rattle.fz_model.specs.Kept.{IsModel}
use Rattle.fz_part.specs.Parts.{AreParts}
use Rattle.fz_part.specs.Texts.{part_text}
use Rattle.fz_shown.specs.Shown.{IsSolutionText, ShowsAll}
use Rattle.fz_join.specs.declared.lack.Lack.TheVariants.{CutOff, Part, Bound, NoSolution}
use Rattle.fz_join.specs.Joins.{AreNamed, ArePartsOf, AreRuns, IsFound, IsJoined, Ran, times_run}
use Rattle.fz_join.specs.Joining.{AreBlocks, AreClosed, AreSolutions, Ends, HaveRun, IsClosing, Joining}
use Rattle.fz_join.specs.Checking.{HasFalse, IsFalseBest}
use Rattle.fz_join.specs.Machine.{IsWhole, Reading, State, begun, best_text, closing_text, ending_text, is_enough, is_reached, read_text}
use Rattle.fz_join.specs.After.{after_run, after_runs}
use Rattle.fz_join.specs.Tallies.{IsShown}
use Rattle.fz_join.proofs.Matching.{best_is_one, none_false}
use Rattle.fz_join.proofs.Passed.{one_more_solution}
use Rattle.fz_join.proofs.Reading.{read_runs}
use Rattle.fz_join.proofs.Whole.{all_joined, best_joined, bound_lacks, found_joined, found_shown, times_known}

-- what is known once all is read
pub record IsRead (j : Joining) (x : Reading) : Type 0 where
  pub model : IsModel j.model
  pub named : AreNamed j.model
  pub is : read_text j.model j.all (begun j.parts) j.read ≡ x
  pub blocks : AreBlocks j.model j.printed
  pub sound : ShowsAll j.model → AreSolutions j.model j.printed

-- texts of runs are known so
runs_known : (j : Joining) (x : Reading) (rs : List Ran) → IsRead j x → HaveRun j rs → x ≡ after_runs j.model j.all (begun j.parts) rs
runs_known j x rs known run = sym known.is ∙ read_runs j.model j.all j.parts rs j.read known.model known.named run.of_model run.runs

-- nothing more is printed, or a closing line alone
quiet_sound : (m : Instance) (printed : List ℕ) → AreSolutions m printed → AreSolutions m (printed ++ [])
quiet_sound m printed are = subst (AreSolutions m) (sym (append-nil printed)) are

closed_sound : (m : Instance) (printed closing : List ℕ) → IsClosing closing → AreSolutions m printed → AreClosed m (printed ++ closing)
closed_sound m printed closing is are = record { solutions = printed; are = are; closing = closing; is_closing = is; is = refl }

-- ---- a text is cut off

-- between two lines, and between two runs
record IsEnded (x : Reading) : Type 0 where
  whole : IsWhole x.state
  partial : x.partial ≡ []

runs_end : (m : Instance) (all : Bool) (x : Reading) (rs : List Ran) → IsEnded x → IsEnded (after_runs m all x rs)
runs_end m all x [] ended = ended
runs_end m all x (r ∷ rs) ended = runs_end m all (after_run m all x r) rs (record { whole = record { right = refl; ended = refl }; partial = refl })

pub cut_off : (j : Joining) (x : Reading) (text : List ℕ) → IsRead j x → ((IsWhole x.state × (x.partial ≡ [])) → ⊥) → Ends (Err CutOff) j text text
cut_off j x text known lacks = record {
  more = [];
  text = sym (append-nil text);
  quiet = refl;
  blocks = known.blocks;
  sound = λ shows. quiet_sound j.model j.printed (known.sound shows);
  answers = λ rs run. let ended : IsEnded x = subst IsEnded (sym (runs_known j x rs known run)) (runs_end j.model j.all (begun j.parts) rs (record { whole = record { right = refl; ended = refl }; partial = refl })) in lacks (ended.whole, ended.partial);
}

-- ---- a block is of no solution

pub false_block : (j : Joining) (x : Reading) (text : List ℕ) → IsRead j x → HasFalse j.model x.printed j.printed → Ends (Err NoSolution) j text text
false_block j x text known wrong = record {
  more = [];
  text = sym (append-nil text);
  quiet = refl;
  blocks = known.blocks;
  sound = λ shows. quiet_sound j.model j.printed (known.sound shows);
  answers = λ rs run. none_false j.model j.all j.parts rs j.read x.printed j.printed known.named run.of_model run.runs (ap (λ (y : Reading). y.printed) (runs_known j x rs known run)) known.blocks wrong;
}

pub false_best : (j : Joining) (x : Reading) (text : List ℕ) → IsRead j x → IsFalseBest j.model x.state.best → Ends (Err NoSolution) j text text
false_best j x text known wrong = record {
  more = [];
  text = sym (append-nil text);
  quiet = refl;
  blocks = known.blocks;
  sound = λ shows. quiet_sound j.model j.printed (known.sound shows);
  answers = λ rs run. best_is_one j.model j.all j.parts rs j.read run.of_model run.runs (subst (λ (y : Reading). IsFalseBest j.model y.state.best) (runs_known j x rs known run) wrong);
}

-- ---- one is found

joined_found : (m : Instance) (all : Bool) (ps : List (List Decision)) (rs : List Ran) (text : List ℕ) → ArePartsOf m ps → AreRuns m all ps rs text → IsShown m.goal all (after_runs m all (begun ps) rs).state → IsJoined m all (after_runs m all (begun ps) rs).printed
joined_found m true ps rs text parts runs shown = absurd (false≢true (sym shown.one))
joined_found m false ps rs text parts runs shown = found_joined m ps rs text parts runs shown.satisfy shown.shown

pub found : (j : Joining) (x : Reading) (text : List ℕ) → IsRead j x → j.printed ≡ x.printed → IsShown j.model.goal j.all x.state → Ends (Ok tt) j text text
found j x text known printed shown = record {
  more = [];
  text = sym (append-nil text);
  quiet = tt;
  blocks = known.blocks;
  sound = λ shows. closed_sound j.model j.printed [] (inl refl) (known.sound shows);
  answers = λ rs run are. let is : x ≡ after_runs j.model j.all (begun j.parts) rs = runs_known j x rs known run in
      subst (IsJoined j.model j.all) (sym (append-nil j.printed ∙ printed ∙ ap (λ (y : Reading). y.printed) is))
      (joined_found j.model j.all j.parts rs j.read run.of_model run.runs (subst (λ (y : Reading). IsShown j.model.goal j.all y.state) is shown));
}

-- a run shows one
shows_found : (j : Joining) (x : Reading) (rs : List Ran) → IsRead j x → HaveRun j rs → IsFound j.model j.all rs → IsShown j.model.goal j.all x.state
shows_found j x rs known run is = record {
  satisfy = is.goal;
  one = is.one;
  shown = ap (λ (y : Reading). y.state.shown) (runs_known j x rs known run) ∙ found_shown j.model j.all j.parts rs is;
}

-- ---- a part lacks

pub part_lacks : (j : Joining) (x : Reading) (text : List ℕ) (place : ℕ) → IsRead j x → (IsShown j.model.goal j.all x.state → ⊥)
    → IsSomeAnd (slice_get j.parts place) (λ p. x.state.times (part_text p) ≡ Some 1 → ⊥) → Ends (Err (Part place)) j text text
part_lacks j x text place known other lacks = record {
  more = [];
  text = sym (append-nil text);
  quiet = refl;
  blocks = known.blocks;
  sound = λ shows. quiet_sound j.model j.printed (known.sound shows);
  answers = λ rs run. record {
    times = at_place (slice_get j.parts place) rs (runs_known j x rs known run) (times_known j.model j.all j.parts rs place) lacks;
    needed = λ is. other (shows_found j x rs known run is);
  };
}
  where
    at_place : (p : Option (List Decision)) (rs : List Ran) → x ≡ after_runs j.model j.all (begun j.parts) rs
        → IfSome p (λ q. ((after_runs j.model j.all (begun j.parts) rs).state.times (part_text q) ≡ Some 1) ↔ (times_run rs (part_text q) ≡ 1))
        → IsSomeAnd p (λ q. x.state.times (part_text q) ≡ Some 1 → ⊥) → IsSomeAnd p (λ q. times_run rs (part_text q) ≡ 1 → ⊥)
    at_place None rs is once never = never
    at_place (Some q) rs is once never = λ one. never (ap (λ (y : Reading). y.state.times (part_text q)) is ∙ once.1 one)

-- ---- a better value was asked for

lacks_bound : (g : Goal) (s : State) → is_enough g s ≡ false → (g ≢ Satisfy) × (is_reached s.bound s.best ≡ false)
lacks_bound Satisfy s lacks = absurd (false≢true (sym lacks))
lacks_bound (Minimize term) s lacks = (λ same. let bad : Minimize term ≡ Satisfy = same in cc, lacks)
lacks_bound (Maximize term) s lacks = (λ same. let bad : Maximize term ≡ Satisfy = same in cc, lacks)

pub bound_lacking : (j : Joining) (x : Reading) (text : List ℕ) → IsRead j x → is_enough j.model.goal x.state ≡ false → Ends (Err Bound) j text text
bound_lacking j x text known lacks = record {
  more = [];
  text = sym (append-nil text);
  quiet = refl;
  blocks = known.blocks;
  sound = λ shows. quiet_sound j.model j.printed (known.sound shows);
  answers = λ rs run. let lacked : (j.model.goal ≢ Satisfy) × (is_reached (after_runs j.model j.all (begun j.parts) rs).state.bound (after_runs j.model j.all (begun j.parts) rs).state.best ≡ false)
      = lacks_bound j.model.goal (after_runs j.model j.all (begun j.parts) rs).state (subst (λ (y : Reading). is_enough j.model.goal y.state ≡ false) (runs_known j x rs known run) lacks) in
      bound_lacks j.model j.all j.parts rs j.read run.runs lacked.0 lacked.1;
}

-- ---- all is joined

-- all solutions, or none
not_shown : (goal : Goal) (all : Bool) (s : State) → goal ≡ Satisfy → (IsShown goal all s → ⊥) → (all ≡ true) ⊎ (s.shown ≡ false)
not_shown goal true s satisfy other = inl refl
not_shown goal false s satisfy other = by_shown s.shown refl
  where
    by_shown : (shown : Bool) → s.shown ≡ shown → (false ≡ true) ⊎ (s.shown ≡ false)
    by_shown true is = absurd (other (record { satisfy = satisfy; one = refl; shown = is }))
    by_shown false is = inr is

-- what is printed at the end makes it whole
abbrev IsWholeBy : Joining → Reading → Type 0
IsWholeBy j y = (IsShown j.model.goal j.all y.state → ⊥) → AllByRecursion (λ p. y.state.times (part_text p) ≡ Some 1) j.parts → is_enough j.model.goal y.state ≡ true
    → IsJoined j.model j.all (y.printed ++ ending_text j.model.goal y.state)

runs_joined : (j : Joining) (rs : List Ran) → HaveRun j rs → AreParts j.model j.parts → IsWholeBy j (after_runs j.model j.all (begun j.parts) rs)
runs_joined j rs run are other all_ran enough = by_goal j.model.goal refl enough
  where
    by_goal : (g : Goal) → j.model.goal ≡ g → is_enough g (after_runs j.model j.all (begun j.parts) rs).state ≡ true
        → IsJoined j.model j.all ((after_runs j.model j.all (begun j.parts) rs).printed ++ ending_text j.model.goal (after_runs j.model j.all (begun j.parts) rs).state)
    by_goal Satisfy goal reached = subst (λ g. IsJoined j.model j.all ((after_runs j.model j.all (begun j.parts) rs).printed ++ ending_text g (after_runs j.model j.all (begun j.parts) rs).state)) (sym goal)
        (all_joined j.model j.all j.parts rs j.read run.of_model run.runs are goal all_ran (not_shown j.model.goal j.all (after_runs j.model j.all (begun j.parts) rs).state goal other))
    by_goal (Minimize term) goal reached = subst (λ g. IsJoined j.model j.all ((after_runs j.model j.all (begun j.parts) rs).printed ++ ending_text g (after_runs j.model j.all (begun j.parts) rs).state)) (sym goal)
        (best_joined j.model j.all j.parts rs j.read run.of_model run.runs are (λ same. let bad : Minimize term ≡ Satisfy = sym goal ∙ same in cc) all_ran reached)
    by_goal (Maximize term) goal reached = subst (λ g. IsJoined j.model j.all ((after_runs j.model j.all (begun j.parts) rs).printed ++ ending_text g (after_runs j.model j.all (begun j.parts) rs).state)) (sym goal)
        (best_joined j.model j.all j.parts rs j.read run.of_model run.runs are (λ same. let bad : Maximize term ≡ Satisfy = sym goal ∙ same in cc) all_ran reached)

-- what is printed at the end is a closing line, maybe behind a block of a solution
closing_line : (shown : Bool) → IsClosing (closing_text shown)
closing_line true = inr (inl refl)
closing_line false = inr (inr refl)

best_sound : (m : Instance) (printed : List ℕ) (best : Option (ℤ × List ℕ)) → IfSome best (λ (b : ℤ × List ℕ). IsSolutionText m b.1) → AreSolutions m printed → AreClosed m (printed ++ best_text best)
best_sound m printed None solution are = closed_sound m printed (closing_text false) (closing_line false) are
best_sound m printed (Some best) solution are = record {
  solutions = printed ++ best.1;
  are = one_more_solution m printed best.1 are solution;
  closing = closing_text true;
  is_closing = closing_line true;
  is = sym (append_assoc printed best.1 (closing_text true));
}

ending_sound : (m : Instance) (g : Goal) (s : State) (printed : List ℕ) → (g ≢ Satisfy → IfSome s.best (λ (b : ℤ × List ℕ). IsSolutionText m b.1)) → AreSolutions m printed → AreClosed m (printed ++ ending_text g s)
ending_sound m Satisfy s printed best are = closed_sound m printed (closing_text s.shown) (closing_line s.shown) are
ending_sound m (Minimize term) s printed best are = best_sound m printed s.best (best (λ same. let bad : Minimize term ≡ Satisfy = same in cc)) are
ending_sound m (Maximize term) s printed best are = best_sound m printed s.best (best (λ same. let bad : Maximize term ≡ Satisfy = same in cc)) are

pub whole : (j : Joining) (x : Reading) (text after : List ℕ) → IsRead j x → j.printed ≡ x.printed → (IsShown j.model.goal j.all x.state → ⊥)
    → AllByRecursion (λ p. x.state.times (part_text p) ≡ Some 1) j.parts → is_enough j.model.goal x.state ≡ true
    → (j.model.goal ≢ Satisfy → ShowsAll j.model → IfSome x.state.best (λ (b : ℤ × List ℕ). IsSolutionText j.model b.1))
    → after ≡ text ++ ending_text j.model.goal x.state → Ends (Ok tt) j text after
whole j x text after known printed other all_ran enough best is = record {
  more = ending_text j.model.goal x.state;
  text = is;
  quiet = tt;
  blocks = known.blocks;
  sound = λ shows. ending_sound j.model j.model.goal x.state j.printed (λ goal. best goal shows) (known.sound shows);
  answers = λ rs run are. subst (λ (s : List ℕ). IsJoined j.model j.all (s ++ ending_text j.model.goal x.state)) (sym printed)
      (subst (IsWholeBy j) (sym (runs_known j x rs known run)) (runs_joined j rs run are) other all_ran enough);
}
