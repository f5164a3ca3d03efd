-- What is known once runs are read, field by field.
use Rattle.std.proofs.Common.{◌≡◌, ◌≢◌, ℕ, suc, zero, ◌+◌, min, ℤ, List, [], ◌∷◌, ◌++◌, refl, sym, ◌∙◌, ap, arith, Bool, true, false, ◌||◌, if◌then◌else◌, Option, Some, option_map, slice_get, bytes_eq, flat_map, append_assoc, append-nil}
use Rattle.std.specs.Cmp.Lexicographic.{bytes_decides}
use Rattle.std.proofs.lemmas.List.Concat.{flat_map-append}
use Rattle.fz_sets.proofs.Lists.{some_is}
use Rattle.fz_spec.specs.declared.goal.Goal.{Goal}
use Rattle.fz_spec.specs.declared.goal.Goal.TheVariants.{Satisfy, Minimize, Maximize}
use Rattle.fz_spec.specs.Instance.{Instance}
use Rattle.fz_spec.specs.Run.{block, blocks}
use Rattle.fz_tree.specs.declared.decision.Decision.{Decision}
use Rattle.fz_tree.proofs.Counts.{one_if, count_cons}
use Rattle.fz_part.specs.Texts.{part_text}
use Rattle.fz_join.specs.Joins.{Ran, is_called, times_run}
use Rattle.fz_join.specs.Machine.{Reading, none_ran, one_more}
use Rattle.fz_join.specs.After.{after_run, after_runs, has_shown, is_some_listed, shown_of, shows}

-- all that the runs list, one after another
abbrev pub lists_of : List Ran → List (List ℤ)
lists_of rs = flat_map (λ (r : Ran). r.list) rs

-- ---- how often a part has run

if_either : (b : Bool) (o : Option ℕ) → o ≡ Some 0 → (if b then Some 0 else o) ≡ Some 0
if_either true o is = refl
if_either false o is = is

pub none_began : (ps : List (List Decision)) (k : ℕ) (p : List Decision) → slice_get ps k ≡ Some p → none_ran ps (part_text p) ≡ Some 0
none_began [] k p at = absurd (cc (at))
none_began (q ∷ ps) zero p at = ap (λ (b : Bool). if b then Some 0 else none_ran ps (part_text p)) ((bytes_decides (part_text q) (part_text p)).1 (ap part_text (some_is q p at)))
none_began (q ∷ ps) (suc k) p at = if_either (bytes_eq (part_text q) (part_text p)) (none_ran ps (part_text p)) (none_began ps k p at)

count_one : (b : Bool) (o : Option ℕ) (n : ℕ) → o ≡ Some (min n 255) → (if b then option_map one_more o else o) ≡ Some (min (n + one_if b) 255)
count_one true o n is = ap (option_map one_more) is ∙ ap Some (omega arith)
count_one false o n is = is ∙ ap Some (omega arith)

pub times_after : (m : Instance) (all : Bool) (x : Reading) (rs : List Ran) (text : List ℕ) (n : ℕ) → x.state.times text ≡ Some (min n 255) → (after_runs m all x rs).state.times text ≡ Some (min (n + times_run rs text) 255)
times_after m all x [] text n is = is ∙ ap Some (omega arith)
times_after m all x (r ∷ rs) text n is =
    times_after m all (after_run m all x r) rs text (n + one_if (is_called text r.part)) (count_one (bytes_eq (part_text r.part) text) (x.state.times text) n is)
    ∙ ap (λ (k : ℕ). Some (min k 255)) (omega (arith, count_cons (λ (q : Ran). is_called text q.part) r rs))

-- ---- what is shown, where solutions are asked for

or_false : (b : Bool) → b ≡ (b || false)
or_false true = refl
or_false false = refl

or_assoc : (b c d : Bool) → ((b || c) || d) ≡ (b || (c || d))
or_assoc true c d = refl
or_assoc false c d = refl

listed_both : (l k : List (List ℤ)) → is_some_listed (l ++ k) ≡ (is_some_listed l || is_some_listed k)
listed_both [] k = refl
listed_both (a ∷ l) k = refl

pub shown_after : (m : Instance) (all : Bool) (x : Reading) (rs : List Ran) → m.goal ≡ Satisfy → (after_runs m all x rs).state.shown ≡ (x.state.shown || is_some_listed (lists_of rs))
shown_after m all x [] goal = or_false x.state.shown
shown_after m all x (r ∷ rs) goal =
    shown_after m all (after_run m all x r) rs goal ∙ (ap (λ (g : Goal). has_shown g x.state.shown r.list || is_some_listed (lists_of rs)) goal ∙ (or_assoc x.state.shown (is_some_listed r.list) (is_some_listed (lists_of rs))
    ∙ ap (λ (b : Bool). x.state.shown || b) (sym (listed_both r.list (lists_of rs)))))

-- ---- what is printed

nothing_shown : (all shown : Bool) → shown_of all shown [] ≡ []
nothing_shown true shown = refl
nothing_shown false true = refl
nothing_shown false false = refl

shown_both : (all shown : Bool) (l k : List (List ℤ)) → shown_of all shown (l ++ k) ≡ shown_of all shown l ++ shown_of all (shown || is_some_listed l) k
shown_both true shown l k = refl
shown_both false true l k = refl
shown_both false false [] k = refl
shown_both false false (a ∷ l) k = refl

pub printed_after : (m : Instance) (all : Bool) (x : Reading) (rs : List Ran) → m.goal ≡ Satisfy → (after_runs m all x rs).printed ≡ x.printed ++ blocks m (shown_of all x.state.shown (lists_of rs))
printed_after m all x [] goal = sym (ap (λ (l : List (List ℤ)). x.printed ++ blocks m l) (nothing_shown all x.state.shown) ∙ append-nil x.printed)
printed_after m all x (r ∷ rs) goal =
    printed_after m all (after_run m all x r) rs goal ∙ (ap (λ (g : Goal). (x.printed ++ blocks m (shows g all x.state.shown r.list)) ++ blocks m (shown_of all (has_shown g x.state.shown r.list) (lists_of rs))) goal
    ∙ (append_assoc x.printed (blocks m (shown_of all x.state.shown r.list)) (blocks m (shown_of all (x.state.shown || is_some_listed r.list) (lists_of rs)))
    ∙ ap (λ (bytes : List ℕ). x.printed ++ bytes) (sym (ap (blocks m) (shown_both all x.state.shown r.list (lists_of rs)) ∙ flat_map-append (block m) (shown_of all x.state.shown r.list) (shown_of all (x.state.shown || is_some_listed r.list) (lists_of rs))))))

-- ---- where a best one is asked for

shows_none : (g : Goal) (all shown : Bool) (l : List (List ℤ)) → g ≢ Satisfy → shows g all shown l ≡ []
shows_none Satisfy all shown l goal = absurd (goal refl)
shows_none (Minimize term) all shown l goal = refl
shows_none (Maximize term) all shown l goal = refl

pub printed_of_goal : (m : Instance) (all : Bool) (x : Reading) (rs : List Ran) → m.goal ≢ Satisfy → (after_runs m all x rs).printed ≡ x.printed
printed_of_goal m all x [] goal = refl
printed_of_goal m all x (r ∷ rs) goal =
    printed_of_goal m all (after_run m all x r) rs goal ∙ (ap (λ (l : List (List ℤ)). x.printed ++ blocks m l) (shows_none m.goal all x.state.shown r.list goal) ∙ append-nil x.printed)
