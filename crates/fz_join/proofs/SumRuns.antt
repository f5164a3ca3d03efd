-- What runs for solutions list together.
use Rattle.std.proofs.Common.{◌≡◌, ◌⊎◌, inl, inr, ℕ, ℤ, List, [], ◌∷◌, ◌++◌, refl, sym, subst, ◌∙◌, ap, arith, Bool, true, false, ◌&&◌, Option, Some, None, IfSome, bytes_eq, length, append-nil, Contains}
use Rattle.std.specs.List.{AllByRecursion, count_by}
use Rattle.std.specs.Cmp.Lexicographic.{bytes_decides}
use Rattle.std.proofs.lemmas.Bool.Decides.{same_from_decides}
use Rattle.fz_sets.proofs.Lists.{all_both}
use Rattle.fz_spec.specs.Truth.{SomeByRecursion}
use Rattle.fz_spec.specs.declared.goal.Goal.{Goal}
use Rattle.fz_spec.specs.declared.goal.Goal.TheVariants.{Satisfy}
use Rattle.fz_spec.specs.Instance.{Instance, Satisfies, Lists, occurrences, is_same}
use Rattle.fz_tree.specs.declared.decision.Decision.{Decision}
use Rattle.fz_tree.proofs.Counts.{one_if, count_cons, count_append}
use Rattle.fz_tree.proofs.Same.{differ}
use Rattle.fz_part.specs.Laws.{IsBetterThan}
use Rattle.fz_part.specs.Parts.{IsPartOf, is_in_part, task_of}
use Rattle.fz_part.specs.Texts.{part_text}
use Rattle.fz_part.proofs.Tasks.{task_in}
use Rattle.fz_cmd.specs.Meaning.{Options, ArePlain}
use Rattle.fz_runs.specs.Runs.{IsRunText, PrintsFor, PrintsWanted, wanted_of, IsCertificate, certified}
use Rattle.fz_join.specs.Joins.{AsksFor, HaveAllRun, IsRan, Ran, is_called, times_run}
use Rattle.fz_join.proofs.SumAfter.{lists_of}
use Rattle.fz_join.proofs.SumCounts.{alone, by_either, paired, some_of}

all_with : {X : Type 0} (P Q R : X → Type 0) (xs : List X) → ((x : X) → P x → Q x → R x) → AllByRecursion P xs → AllByRecursion Q xs → AllByRecursion R xs
all_with P Q R [] both left right = tt
all_with P Q R (x ∷ xs) both left right = (both x left.0 right.0, all_with P Q R xs both left.1 right.1)

pub all_each : {X : Type 0} (P R : X → Type 0) (xs : List X) → ((x : X) → P x → R x) → AllByRecursion P xs → AllByRecursion R xs
all_each P R [] each all = tt
all_each P R (x ∷ xs) each all = (each x all.0, all_each P R xs each all.1)

all_at_some : {X : Type 0} (P : X → Type 0) (xs : List X) (q : X) → AllByRecursion P xs → SomeByRecursion (λ (x : X). x ≡ q) xs → P q
all_at_some P [] q all some = absurd some
all_at_some P (x ∷ xs) q all (inl is) = subst P is all.0
all_at_some P (x ∷ xs) q all (inr later) = all_at_some P xs q all.1 later

pub all_contains : {X : Type 0} (P : X → Type 0) (xs : List X) (q : X) → AllByRecursion P xs → Contains xs q → P q
all_contains P xs q all at = all_at_some P xs q all (some_of xs q at)

-- ---- by plain options

-- nothing is printed behind it
pub run_text : (m : Instance) (o : Options) (l : List (List ℤ)) (s : List ℕ) → ArePlain o → PrintsFor m.goal o m l s → IsRunText m o l s
run_text m o l s plain prints = record {
  shown = s;
  prints = prints;
  certificate = [];
  certifies = subst (λ (b : Bool). IsCertificate m (certified b m.goal l) []) (sym plain.certificate) refl;
  text = rw plain.stats (sym (append-nil (s ++ []) ∙ append-nil s));
}

asked_prints : (o : Options) (all : Bool) (g : Goal) (t : Instance) (l : List (List ℤ)) (s : List ℕ) → g ≡ Satisfy → AsksFor all o → PrintsFor g o t l s → PrintsWanted false (wanted_of all None) t l s
asked_prints o all g t l s goal asks prints =
    subst (λ (n : Option ℕ). PrintsWanted false (wanted_of all n) t l s) asks.plain.limit
    (subst (λ (e : Bool). PrintsWanted false (wanted_of e o.limit) t l s) asks.all
    (subst (λ (d : Bool). PrintsWanted d (wanted_of o.all o.limit) t l s) asks.plain.distinct
    (subst (λ (h : Goal). PrintsFor h o t l s) goal prints)))

pub prints_asked : (o : Options) (all : Bool) (g : Goal) (t : Instance) (l : List (List ℤ)) (s : List ℕ) → g ≡ Satisfy → AsksFor all o → PrintsWanted false (wanted_of all None) t l s → PrintsFor g o t l s
prints_asked o all g t l s goal asks prints =
    subst (λ (h : Goal). PrintsFor h o t l s) (sym goal)
    (subst (λ (d : Bool). PrintsWanted d (wanted_of o.all o.limit) t l s) (sym asks.plain.distinct)
    (subst (λ (e : Bool). PrintsWanted false (wanted_of e o.limit) t l s) (sym asks.all)
    (subst (λ (n : Option ℕ). PrintsWanted false (wanted_of all n) t l s) (sym asks.plain.limit) prints)))

-- ---- what a run says of its task

lists_wanted : (all : Bool) (t : Instance) (l : List (List ℤ)) (s : List ℕ) → (all ≡ true) ⊎ (l ≡ []) → PrintsWanted false (wanted_of all None) t l s → Lists t l
lists_wanted true t l s either prints = prints.lists
lists_wanted false t l s (inl is) (inl some) = absurd (cc is)
lists_wanted false t l s (inr none) (inl some) = absurd (omega (arith, ap length none, some.are.count))
lists_wanted false t l s either (inr each) = each.1.lists

sound_wanted : (all : Bool) (t : Instance) (l : List (List ℤ)) (s : List ℕ) → PrintsWanted false (wanted_of all None) t l s → AllByRecursion (Satisfies t) l
sound_wanted true t l s prints = prints.lists.sound
sound_wanted false t l s (inl some) = some.are.sound
sound_wanted false t l s (inr each) = each.1.lists.sound

run_prints : (m : Instance) (all : Bool) (r : Ran) → m.goal ≡ Satisfy → (ran : IsRan m all r) → PrintsWanted false (wanted_of all None) (task_of m r.part r.bound) r.list ran.run.run.shown
run_prints m all r goal ran = asked_prints ran.options all m.goal (task_of m r.part r.bound) r.list ran.run.run.shown goal ran.asks ran.run.run.prints

run_lists : (m : Instance) (all : Bool) (r : Ran) → m.goal ≡ Satisfy → IsRan m all r → (all ≡ true) ⊎ (r.list ≡ []) → Lists (task_of m r.part r.bound) r.list
run_lists m all r goal ran either = lists_wanted all (task_of m r.part r.bound) r.list ran.run.run.shown either (run_prints m all r goal ran)

task_sound : (m : Instance) (p : List Decision) (bound : Option ℤ) (l : List (List ℤ)) → IsPartOf m p → AllByRecursion (Satisfies (task_of m p bound)) l → AllByRecursion (Satisfies m) l
task_sound m p bound [] of_model sound = tt
task_sound m p bound (x ∷ l) of_model sound = (((task_in m p bound x of_model).0 sound.0).0, task_sound m p bound l of_model sound.1)

run_sound : (m : Instance) (all : Bool) (r : Ran) → m.goal ≡ Satisfy → IsPartOf m r.part → IsRan m all r → AllByRecursion (Satisfies m) r.list
run_sound m all r goal of_model ran = task_sound m r.part r.bound r.list of_model (sound_wanted all (task_of m r.part r.bound) r.list ran.run.run.shown (run_prints m all r goal ran))

-- each listed assignment satisfies the model
pub joined_sound : (m : Instance) (all : Bool) (rs : List Ran) → m.goal ≡ Satisfy → AllByRecursion (λ (r : Ran). IsPartOf m r.part) rs → AllByRecursion (IsRan m all) rs → AllByRecursion (Satisfies m) (lists_of rs)
joined_sound m all [] goal of_model each = tt
joined_sound m all (r ∷ rs) goal of_model each = all_both (Satisfies m) r.list (lists_of rs) (run_sound m all r goal of_model.0 each.0) (joined_sound m all rs goal of_model.1 each.1)

-- ---- how often an assignment is listed

unbounded : (g : Goal) (bound : Option ℤ) (a : List ℤ) → g ≡ Satisfy → IfSome bound (IsBetterThan g a)
unbounded g None a goal = tt
unbounded g (Some v) a goal = subst (λ (h : Goal). IsBetterThan h a v) (sym goal) tt

not_in : (m : Instance) (p : List Decision) (bound : Option ℤ) (a x : List ℤ) → IsPartOf m p → is_in_part a p ≡ false → Satisfies (task_of m p bound) x → a ≡ x → ⊥
not_in m p bound a x of_model out satisfies same =
    let inside = ((task_in m p bound a of_model).0 (subst (Satisfies (task_of m p bound)) (sym same) satisfies)).1 in
    let bad : true ≡ false = sym inside ∙ out in cc

none_of : (m : Instance) (p : List Decision) (bound : Option ℤ) (a : List ℤ) (l : List (List ℤ)) → IsPartOf m p → is_in_part a p ≡ false → AllByRecursion (Satisfies (task_of m p bound)) l → occurrences a l ≡ 0
none_of m p bound a [] of_model out sound = refl
none_of m p bound a (x ∷ l) of_model out sound = omega (arith, count_cons (is_same a) x l, differ a x (not_in m p bound a x of_model out sound.0), none_of m p bound a l of_model out sound.1)

once : (m : Instance) (p : List Decision) (bound : Option ℤ) (a : List ℤ) (l : List (List ℤ)) (b : Bool) → is_in_part a p ≡ b → m.goal ≡ Satisfy → IsPartOf m p → Satisfies m a → Lists (task_of m p bound) l → occurrences a l ≡ one_if b
once m p bound a l true is goal of_model satisfies lists = lists.each_once a ((task_in m p bound a of_model).1 (satisfies, is, unbounded m.goal bound a goal))
once m p bound a l false is goal of_model satisfies lists = none_of m p bound a l of_model is lists.sound

times_joined : (m : Instance) (rs : List Ran) (a : List ℤ) → m.goal ≡ Satisfy → Satisfies m a → AllByRecursion (λ (r : Ran). IsPartOf m r.part) rs → AllByRecursion (λ (r : Ran). Lists (task_of m r.part r.bound) r.list) rs
    → occurrences a (lists_of rs) ≡ count_by (λ (r : Ran). is_in_part a r.part) rs
times_joined m [] a goal satisfies of_model lists = refl
times_joined m (r ∷ rs) a goal satisfies of_model lists =
    omega (
      arith,
      count_append (is_same a) r.list (lists_of rs),
      count_cons (λ (q : Ran). is_in_part a q.part) r rs,
      once m r.part r.bound a r.list (is_in_part a r.part) refl goal of_model.0 satisfies lists.0,
      times_joined m rs a goal satisfies of_model.1 lists.1,
    )

-- ---- as many runs as parts have an assignment

bytes_turned : (xs ys : List ℕ) → bytes_eq xs ys ≡ bytes_eq ys xs
bytes_turned xs ys =
    let d = bytes_decides ys xs in
    same_from_decides (bytes_eq xs ys) (bytes_eq ys xs) (bytes_decides xs ys) (λ t. sym (d.0 t), λ e. d.1 (sym e))

in_one_part : (ps : List (List Decision)) (a : List ℤ) (q : List Decision) → AllByRecursion (λ (p : List Decision). count_by (is_called (part_text p)) ps ≡ 1) ps → Contains ps q
    → count_by (λ (p : List Decision). is_in_part a p && is_called (part_text p) q) ps ≡ one_if (is_in_part a q)
in_one_part ps a q different at =
    alone (is_in_part a) (λ (p : List Decision). bytes_eq (part_text q) (part_text p)) q ps (some_of ps q at) ((bytes_decides (part_text q) (part_text q)).1 refl)
    (sym (λ i. count_by (λ (p : List Decision). bytes_turned (part_text p) (part_text q) i) ps) ∙ all_contains (λ (p : List Decision). count_by (is_called (part_text p)) ps ≡ 1) ps q different at)

pub runs_and_parts : (ps : List (List Decision)) (rs : List Ran) (a : List ℤ) → AllByRecursion (λ (p : List Decision). count_by (is_called (part_text p)) ps ≡ 1) ps → AllByRecursion (λ (r : Ran). Contains ps r.part) rs → HaveAllRun ps rs
    → count_by (λ (r : Ran). is_in_part a r.part) rs ≡ count_by (is_in_part a) ps
runs_and_parts ps rs a different known all_run =
    paired (λ (r : Ran) (p : List Decision). is_in_part a p && is_called (part_text p) r.part) (λ (r : Ran). is_in_part a r.part) (is_in_part a) rs ps
    (all_each (λ (r : Ran). Contains ps r.part) (λ (r : Ran). count_by (λ (p : List Decision). is_in_part a p && is_called (part_text p) r.part) ps ≡ one_if (is_in_part a r.part)) rs (λ r at. in_one_part ps a r.part different at) known)
    (all_each (λ (p : List Decision). times_run rs (part_text p) ≡ 1) (λ (p : List Decision). count_by (λ (r : Ran). is_in_part a p && is_called (part_text p) r.part) rs ≡ one_if (is_in_part a p)) ps
    (λ p one. by_either (is_in_part a p) (λ (r : Ran). is_called (part_text p) r.part) rs one) all_run)

pub joined_lists : (m : Instance) (all : Bool) (rs : List Ran) → m.goal ≡ Satisfy → AllByRecursion (λ (r : Ran). IsPartOf m r.part) rs → AllByRecursion (IsRan m all) rs → AllByRecursion (λ (r : Ran). (all ≡ true) ⊎ (r.list ≡ [])) rs
    → ((a : List ℤ) → Satisfies m a → count_by (λ (r : Ran). is_in_part a r.part) rs ≡ 1) → Lists m (lists_of rs)
joined_lists m all rs goal of_model each either once_in = record {
  sound = joined_sound m all rs goal of_model each;
  each_once = λ a satisfies.
      times_joined m rs a goal satisfies of_model (all_with (IsRan m all) (λ (r : Ran). (all ≡ true) ⊎ (r.list ≡ [])) (λ (r : Ran). Lists (task_of m r.part r.bound) r.list) rs (λ r ran. run_lists m all r goal ran) each either)
      ∙ once_in a satisfies;
}
