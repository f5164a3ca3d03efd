-- What the text of a whole run says of the model.
use Rattle.std.proofs.Common.{◌≡◌, ◌≢◌, ◌∙◌, ◌≤◌, ◌⊎◌, inl, inr, ℕ, zero, suc, List, [], ◌∷◌, ◌++◌, length, refl, sym, ap, subst, arith, Bool, true, false, Option, Some, None}
use Rattle.std.specs.Prelude.{ℤ, count_by}
use Rattle.std.specs.List.{AllByRecursion}
use Rattle.fz_spec.specs.declared.goal.Goal.{Goal}
use Rattle.fz_spec.specs.declared.goal.Goal.TheVariants.{Satisfy, Minimize, Maximize}
use Rattle.fz_spec.specs.declared.term.Term.{Term}
use Rattle.fz_spec.specs.Instance.{Instance, Satisfies, IsBest, is_same}
use Rattle.fz_tree.specs.declared.mode.Mode.{Mode}
use Rattle.fz_tree.specs.Rows.{key}
use Rattle.fz_tree.specs.Account.{times_found}
use Rattle.fz_tree.proofs.Counts.{one_if, count_cons}
use Rattle.fz_tree.proofs.Same.{alike, same_means, found_both}
use Rattle.fz_cmd.specs.Meaning.{Options}
use Rattle.fz_runs.specs.Runs.{ListsEach, EndsBest, PrintsWanted, PrintsGoal, PrintsFor, IsRunText, times_listed, wanted, wanted_of}
use Rattle.fz_runs.specs.Modes.{mode_of}
use Rattle.fz_runs.proofs.Times.{times_are}

-- ---- solutions, as many as are asked for

record Says (d : Bool) (m : Instance) (l : List (List ℤ)) : Type 0 where
  sound : AllByRecursion (Satisfies m) l
  few : (a : List ℤ) → Satisfies m a → times_listed d m a l ≤ 1
  none : l ≡ [] → (a : List ℤ) → Satisfies m a → ⊥

sound_each : (d : Bool) (m : Instance) (l : List (List ℤ)) → ListsEach d m l → AllByRecursion (Satisfies m) l
sound_each true m l h = h.sound
sound_each false m l h = h.sound

each_once : (d : Bool) (m : Instance) (l : List (List ℤ)) → ListsEach d m l → (a : List ℤ) → Satisfies m a → times_listed d m a l ≡ 1
each_once true m l h = h.each_once
each_once false m l h = h.each_once

nothing : (d : Bool) (m : Instance) (a : List ℤ) → times_listed d m a [] ≡ 0
nothing true m a = refl
nothing false m a = refl

says_each : (d : Bool) (m : Instance) (l : List (List ℤ)) → ListsEach d m l → Says d m l
says_each d m l h = record {
  sound = sound_each d m l h;
  few = λ a s. (let once = each_once d m l h a s in omega (arith, once));
  none = λ e a s. (let once = subst (λ (k : List (List ℤ)). times_listed d m a k ≡ 1) e (each_once d m l h a s) in let z = nothing d m a in absurd (omega (arith, once, z)));
}

never_none : (all : Bool) (limit : Option ℕ) → wanted_of all limit ≡ Some zero → ⊥
never_none all (Some zero) e = cc e
never_none all (Some (suc n)) e = cc e
never_none true None e = cc e
never_none false None e = cc e

says_wanted : (d : Bool) (w : Option ℕ) (m : Instance) (l : List (List ℤ)) (printed : List ℕ) → (w ≡ Some zero → ⊥) → PrintsWanted d w m l printed → Says d m l
says_wanted d None m l printed some h = says_each d m l h.lists
says_wanted d (Some n) m l printed some (inl h) = record {
  sound = h.are.sound;
  few = h.are.different;
  none = λ e a s. absurd (some (ap Some (sym h.are.count ∙ ap length e)));
}
says_wanted d (Some n) m l printed some (inr h) = says_each d m l h.1.lists

-- ---- a best one

record Ends (m : Instance) (l : List (List ℤ)) : Type 0 where
  sound : AllByRecursion (Satisfies m) l
  last : EndsBest m l

ends_by : (generate : Option ℕ) (all : Bool) (t : Term) (m : Instance) (l : List (List ℤ)) (printed : List ℕ) → PrintsGoal generate all t m l printed → Ends m l
ends_by None all t m l printed h = record { sound = h.are.sound; last = h.are.last }
ends_by (Some items) all t m l printed h = record { sound = h.are.sound; last = h.are.last }

ends : (g : Goal) (o : Options) (m : Instance) (l : List (List ℤ)) (printed : List ℕ) → g ≢ Satisfy → PrintsFor g o m l printed → Ends m l
ends Satisfy o m l printed other h = absurd (other refl)
ends (Minimize t) o m l printed other h = ends_by o.generate o.all t m l printed h
ends (Maximize t) o m l printed other h = ends_by o.generate o.all t m l printed h

says : (g : Goal) (o : Options) (m : Instance) (l : List (List ℤ)) (printed : List ℕ) → g ≡ Satisfy → PrintsFor g o m l printed → Says o.distinct m l
says Satisfy o m l printed is h = says_wanted o.distinct (wanted o) m l printed (never_none o.all o.limit) h
says (Minimize t) o m l printed is h = absurd (cc is)
says (Maximize t) o m l printed is h = absurd (cc is)

-- ---- of every run

record Tells (m : Instance) (l : List (List ℤ)) : Type 0 where
  sound : AllByRecursion (Satisfies m) l
  none : l ≡ [] → (a : List ℤ) → Satisfies m a → ⊥

tells_best : (m : Instance) (l : List (List ℤ)) → Ends m l → Tells m l
tells_best m l h = record { sound = h.sound; none = λ e. subst (EndsBest m) e h.last }

tells : (g : Goal) (o : Options) (m : Instance) (l : List (List ℤ)) (printed : List ℕ) → PrintsFor g o m l printed → Tells m l
tells Satisfy o m l printed h = (let s = says Satisfy o m l printed refl h in record { sound = s.sound; none = s.none })
tells (Minimize t) o m l printed h = tells_best m l (ends_by o.generate o.all t m l printed h)
tells (Maximize t) o m l printed h = tells_best m l (ends_by o.generate o.all t m l printed h)

empty : (m : Instance) (l : List (List ℤ)) → AllByRecursion (Satisfies m) l → ((a : List ℤ) → Satisfies m a → ⊥) → l ≡ []
empty m [] sound none = refl
empty m (a ∷ l) sound none = absurd (none a sound.0)

pub nothing_exactly : (m : Instance) (o : Options) (l : List (List ℤ)) (printed : List ℕ) → IsRunText m o l printed → (l ≡ [] → (a : List ℤ) → Satisfies m a → ⊥) × (((a : List ℤ) → Satisfies m a → ⊥) → l ≡ [])
nothing_exactly m o l printed run =
    let t = tells m.goal o m l run.shown run.prints in
    (t.none, empty m l t.sound)

one_of : (P : List ℤ → Type 0) (before after : List (List ℤ)) (a : List ℤ) → AllByRecursion P (before ++ a ∷ after) → P a
one_of P [] after a h = h.0
one_of P (x ∷ before) after a h = one_of P before after a h.1

pub blocks_satisfy : (m : Instance) (o : Options) (before after : List (List ℤ)) (a : List ℤ) (printed : List ℕ) → IsRunText m o (before ++ a ∷ after) printed → Satisfies m a
blocks_satisfy m o before after a printed run =
    one_of (Satisfies m) before after a (tells m.goal o m (before ++ a ∷ after) run.shown run.prints).sound

ends_with : (m : Instance) (before : List (List ℤ)) (a : List ℤ) → EndsBest m (before ++ a ∷ []) → IsBest m a
ends_with m [] a h = h
ends_with m (x ∷ []) a h = h
ends_with m (x ∷ y ∷ before) a h = ends_with m (y ∷ before) a h

pub last_is_best : (m : Instance) (o : Options) (before : List (List ℤ)) (a : List ℤ) (printed : List ℕ) → m.goal ≢ Satisfy → IsRunText m o (before ++ a ∷ []) printed → IsBest m a
last_is_best m o before a printed other run =
    ends_with m before a (ends m.goal o m (before ++ a ∷ []) run.shown other run.prints).last

-- ---- two blocks of one run

twice : (mode : Mode) (m : Instance) (before between after : List (List ℤ)) (a b : List ℤ) → key mode m a ≡ key mode m b → 2 ≤ times_found mode m a (before ++ a ∷ (between ++ b ∷ after))
twice mode m before between after a b e =
    let is : List ℤ → Bool = λ x. is_same (key mode m a) (key mode m x) in
    let first = found_both mode m a before (a ∷ between ++ b ∷ after) in
    let one = count_cons is a (between ++ b ∷ after) in
    let second = found_both mode m a between (b ∷ after) in
    let two = count_cons is b after in
    let own = alike (key mode m a) (key mode m a) refl in
    let other = alike (key mode m a) (key mode m b) e in
    omega (arith, first, one, second, two, own, other)

pub blocks_differ : (m : Instance) (o : Options) (before between after : List (List ℤ)) (a b : List ℤ) (printed : List ℕ) → m.goal ≡ Satisfy
    → IsRunText m o (before ++ a ∷ (between ++ b ∷ after)) printed → key (mode_of o.distinct) m a ≢ key (mode_of o.distinct) m b
blocks_differ m o before between after a b printed is run = λ e.
    let l : List (List ℤ) = before ++ a ∷ (between ++ b ∷ after) in
    let s = says m.goal o m l run.shown is run.prints in
    let few = s.few a (one_of (Satisfies m) before (between ++ b ∷ after) a s.sound) in
    let many = twice (mode_of o.distinct) m before between after a b e in
    let same = times_are o.distinct m a l in
    absurd (omega (arith, few, many, same))

-- ---- two runs for all

record Found (P : List ℤ → Type 0) (mode : Mode) (m : Instance) (a : List ℤ) : Type 0 where
  other : List ℤ
  holds : P other
  alike : key mode m a ≡ key mode m other

found_or_none : (P : List ℤ → Type 0) (mode : Mode) (m : Instance) (a : List ℤ) (l : List (List ℤ)) → AllByRecursion P l → Found P mode m a ⊎ (times_found mode m a l ≡ 0)
found_or_none P mode m a [] h = inr refl
found_or_none P mode m a (x ∷ l) h =
    elim (is_same (key mode m a) (key mode m x)) as (λ b. is_same (key mode m a) (key mode m x) ≡ b → Found P mode m a ⊎ (times_found mode m a (x ∷ l) ≡ 0)) [
      | true ↦ λ e. inl (record { other = x; holds = h.0; alike = same_means (key mode m a) (key mode m x) e })
      | false ↦ λ e. elim (found_or_none P mode m a l h.1) [
        | inl found ↦ inl found
        | inr z ↦ inr (let step = count_cons (λ (y : List ℤ). is_same (key mode m a) (key mode m y)) x l in let no = ap one_if e in omega (arith, step, no, z))
      ]
    ] refl

by_key : (mode : Mode) (m : Instance) (a b : List ℤ) (l : List (List ℤ)) → key mode m a ≡ key mode m b → times_found mode m a l ≡ times_found mode m b l
by_key mode m a b l e = ap (λ (r : List ℤ). count_by (λ (x : List ℤ). is_same r (key mode m x)) l) e

same_times : (mode : Mode) (m : Instance) (l k : List (List ℤ)) → AllByRecursion (Satisfies m) l → AllByRecursion (Satisfies m) k
    → ((a : List ℤ) → Satisfies m a → times_found mode m a l ≡ 1) → ((a : List ℤ) → Satisfies m a → times_found mode m a k ≡ 1)
    → (a : List ℤ) → times_found mode m a l ≡ times_found mode m a k
same_times mode m l k sound_l sound_k once_l once_k a =
    elim (found_or_none (Satisfies m) mode m a l sound_l) [
      | inl f ↦ by_key mode m a f.other l f.alike ∙ once_l f.other f.holds ∙ sym (by_key mode m a f.other k f.alike ∙ once_k f.other f.holds)
      | inr z ↦ elim (found_or_none (Satisfies m) mode m a k sound_k) [
        | inl f ↦ (let one = by_key mode m a f.other l f.alike ∙ once_l f.other f.holds in absurd (omega (arith, one, z)))
        | inr none ↦ z ∙ sym none
      ]
    ]

each_of : (d : Bool) (w : Option ℕ) (m : Instance) (l : List (List ℤ)) (printed : List ℕ) → w ≡ None → PrintsWanted d w m l printed → ListsEach d m l
each_of d None m l printed is h = h.lists
each_of d (Some n) m l printed is h = absurd (cc is)

lists_of : (g : Goal) (o : Options) (m : Instance) (l : List (List ℤ)) (printed : List ℕ) → g ≡ Satisfy → wanted o ≡ None → PrintsFor g o m l printed → ListsEach o.distinct m l
lists_of Satisfy o m l printed is all h = each_of o.distinct (wanted o) m l printed all h
lists_of (Minimize t) o m l printed is all h = absurd (cc is)
lists_of (Maximize t) o m l printed is all h = absurd (cc is)

pub all_are_one : (m : Instance) (o : Options) (l k : List (List ℤ)) (printed other : List ℕ) → m.goal ≡ Satisfy → wanted o ≡ None
    → IsRunText m o l printed → IsRunText m o k other → (a : List ℤ) → times_listed o.distinct m a l ≡ times_listed o.distinct m a k
all_are_one m o l k printed other is all run run_other a =
    let d : Bool = o.distinct in
    let ls = lists_of m.goal o m l run.shown is all run.prints in
    let ks = lists_of m.goal o m k run_other.shown is all run_other.prints in
    times_are d m a l
    ∙ same_times (mode_of d) m l k (sound_each d m l ls) (sound_each d m k ks)
    (λ b s. sym (times_are d m b l) ∙ each_once d m l ls b s) (λ b s. sym (times_are d m b k) ∙ each_once d m k ks b s) a
    ∙ sym (times_are d m a k)
