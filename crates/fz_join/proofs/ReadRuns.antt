-- How a whole run is read.
use Rattle.std.proofs.Common.{◌≡◌, ℕ, zero, suc, Bool, true, false, List, [], ◌∷◌, ◌++◌, ℤ, pos, Option, Some, None, option_map, unwrap_or, slice_get, inl, inr, ◌⊎◌, refl, sym, ap, ap₂, subst, ◌∙◌, arith, append_assoc, append-nil}
use Rattle.std.specs.List.{AllByRecursion}
use Rattle.std.proofs.lemmas.Int.{ints}
use Rattle.std.proofs.lemmas.List.{append_cancel_left}
use Rattle.fz_sets.specs.Sets.{IsInSet, IsWithinLimits, AreWithinLimits}
use Rattle.fz_sets.proofs.Lists.{all_at, some_is}
use Rattle.fz_spec.specs.declared.kind.Kind.{Kind}
use Rattle.fz_spec.specs.declared.kind.Kind.TheVariants as kinds
use Rattle.fz_spec.specs.declared.term.Term.{Term}
use Rattle.fz_spec.specs.declared.term.Term.TheVariants.{Num, Var}
use Rattle.fz_spec.specs.declared.goal.Goal.{Goal}
use Rattle.fz_spec.specs.declared.goal.Goal.TheVariants.{Satisfy, Minimize, Maximize}
use Rattle.fz_spec.specs.Constraints.{term_value}
use Rattle.fz_spec.specs.Instance.{Instance, Variable, AreDeclared, Satisfies}
use Rattle.fz_spec.specs.Run.{blocks, closing}
use Rattle.fz_model.specs.Kept.{IsModel, IsVariable, HasSetOf, IsTermOf, IsGoal, kind_at}
use Rattle.fz_part.specs.Parts.{task_of}
use Rattle.fz_part.specs.Texts.{part_text}
use Rattle.fz_cmd.specs.Meaning.{Options, ArePlain}
use Rattle.fz_print.specs.Ending.{statistics_text}
use Rattle.fz_runs.specs.Runs.{IsCertificate, PrintsFor, PrintsGoal, PrintsWanted, certified, counted, wanted_of}
use Rattle.fz_runs.specs.PartRuns.{ending_line, part_line, value_line, value_text}
use Rattle.fz_join.specs.Joins.{AreNamed, IsRan, Ran, rank}
use Rattle.fz_join.specs.Machine.{State, end_block, fresh, read_text, better_of}
use Rattle.fz_join.specs.After.{after_run, has_shown, last_block, last_of, shows, told_of}
use Rattle.fz_join.proofs.ReadLines.{IsEnding, begins, between, ending_read, part_read, part_state, run_state, value_read, within}
use Rattle.fz_join.proofs.ReadBlocks.{best_read, satisfied_read, with_shown}

-- ---- values are within the limits

within_limits : (set : List (ℤ × ℤ)) (x : ℤ) → AreWithinLimits set → IsInSet set x → IsWithinLimits x
within_limits [] x limits is = absurd is
within_limits (r ∷ rs) x limits (inl is) = let a = limits.0.0 in let b = limits.1.1 in let c = is.0 in let d = is.1 in (omega (arith, ints), omega (arith, ints))
within_limits (r ∷ rs) x limits (inr is) = within_limits rs x limits.2 is

number_within : (kind : Kind) (set : List (ℤ × ℤ)) (x : ℤ) → kind ≡ kinds.Int → HasSetOf kind set → IsInSet set x → IsWithinLimits x
number_within kinds.Int set x is of_kind member = within_limits set x of_kind.within member
number_within kinds.Bool set x is of_kind member = absurd (cc is)

variable_within : (vs : List Variable) (a : List ℤ) (v : ℕ) → AllByRecursion IsVariable vs → AreDeclared vs a → kind_at vs v ≡ Some kinds.Int → IsWithinLimits (unwrap_or (slice_get a v) (pos 0))
variable_within [] a v sets declared is = absurd (let bad : None ≡ Some kinds.Int = is in cc)
variable_within (u ∷ vs) [] v sets declared is = absurd declared
variable_within (u ∷ vs) (x ∷ xs) zero sets declared is = number_within u.kind u.set x (some_is u.kind kinds.Int is) sets.0 declared.0
variable_within (u ∷ vs) (x ∷ xs) (suc v) sets declared is = variable_within vs xs v sets.1 declared.1 is

value_within : (vs : List Variable) (a : List ℤ) (t : Term) → AllByRecursion IsVariable vs → AreDeclared vs a → IsTermOf vs kinds.Int t → IsWithinLimits (term_value a t)
value_within vs a (Num n) sets declared is = is
value_within vs a (Var v) sets declared is = variable_within vs a v sets declared is

-- ---- what a run of a part lists and how it ends

-- what is printed is the blocks of what is listed, which is sound, and an ending
record IsListed (m : Instance) (l : List (List ℤ)) (shown : List ℕ) : Type 0 where
  sound : AllByRecursion (Satisfies m) l
  ending : (shown ≡ blocks m l) ⊎ (shown ≡ blocks m l ++ closing l)

goal_listed : (m : Instance) (generate : Option ℕ) (all : Bool) (term : Term) (l : List (List ℤ)) (shown : List ℕ) → generate ≡ None → PrintsGoal generate all term m l shown → IsListed m l shown
goal_listed m None all term l shown none prints = record { sound = prints.are.sound; ending = inr prints.text }
goal_listed m (Some n) all term l shown none prints = absurd (cc none)

wanted_listed : (m : Instance) (distinct all : Bool) (limit : Option ℕ) (l : List (List ℤ)) (shown : List ℕ) → distinct ≡ false → limit ≡ None → PrintsWanted distinct (wanted_of all limit) m l shown → IsListed m l shown
wanted_listed m true all limit l shown each none prints = absurd (cc each)
wanted_listed m false all (Some n) l shown each none prints = absurd (cc none)
wanted_listed m false true None l shown each none prints = record { sound = prints.lists.sound; ending = inr prints.text }
wanted_listed m false false None l shown each none (inl some) = record { sound = some.are.sound; ending = inl some.text }
wanted_listed m false false None l shown each none (inr fewer) = record { sound = fewer.1.lists.sound; ending = inr fewer.1.text }

listed : (m : Instance) (o : Options) (goal : Goal) (l : List (List ℤ)) (shown : List ℕ) → ArePlain o → PrintsFor goal o m l shown → IsListed m l shown
listed m o Satisfy l shown plain prints = wanted_listed m o.distinct o.all o.limit l shown plain.distinct plain.limit prints
listed m o (Minimize term) l shown plain prints = goal_listed m o.generate o.all term l shown plain.generate prints
listed m o (Maximize term) l shown plain prints = goal_listed m o.generate o.all term l shown plain.generate prints

-- nothing else is printed
plain_shown : (m : Instance) (goal : Goal) (stats certificate : Bool) (l : List (List ℤ)) (shown text printed : List ℕ) → stats ≡ false → certificate ≡ false → IsCertificate m (certified certificate goal l) text
    → printed ≡ (shown ++ statistics_text (counted stats l)) ++ text → printed ≡ shown
plain_shown m goal true certificate l shown text printed no_stats none certifies is = absurd (cc no_stats)
plain_shown m goal false true l shown text printed no_stats none certifies is = absurd (cc none)
plain_shown m goal false false l shown text printed no_stats none certifies is = is ∙ ap (λ (t : List ℕ). (shown ++ []) ++ t) certifies ∙ append-nil (shown ++ []) ∙ append-nil shown

-- the ending is none or that of what is listed
ending_of : (m : Instance) (l : List (List ℤ)) (shown ending : List ℕ) → blocks m l ++ ending ≡ shown → (shown ≡ blocks m l) ⊎ (shown ≡ blocks m l ++ closing l) → IsEnding l ending
ending_of m l shown ending is (inl none) = inl (append_cancel_left (blocks m l) ending [] (is ∙ none ∙ sym (append-nil (blocks m l))))
ending_of m l shown ending is (inr closes) = inr (append_cancel_left (blocks m l) ending (closing l) (is ∙ closes))

-- ---- what stands behind the line of the part

body_parts : (front value ending rest : List ℕ) → (front ++ (value ++ ending)) ++ rest ≡ front ++ (value ++ (ending ++ rest))
body_parts front value ending rest = simp append_assoc

-- the value of the last, and the ending
told_read : (m : Instance) (all : Bool) (s : State) (term : Term) (last : Option (List ℤ)) (l : List (List ℤ)) (ending printed text rest : List ℕ) → ((a : List ℤ) → last ≡ Some a → IsWithinLimits (term_value a term)) → IsEnding l ending
    → text ≡ value_text term last ++ (ending_line ending ++ rest)
    → read_text m all (begins (within s (fresh (last_block m last))) printed) text
    ≡ read_text m all (begins (run_state s (last_block m last) (option_map (λ (a : List ℤ). rank m.goal (term_value a term)) last)) printed) rest
told_read m all s term None l ending printed text rest limits ends so = ending_read m all s [] None l ending printed text rest so ends
told_read m all s term (Some a) l ending printed text rest limits ends so =
    value_read m all s (term_value a term) (last_block m (Some a)) printed text (ending_line ending ++ rest) so (limits a refl)
    ∙ ending_read m all s (last_block m (Some a)) (Some (rank m.goal (term_value a term))) l ending printed (ending_line ending ++ rest) rest refl ends

-- what is known then, by the goal
abbrev run_after : Instance → Goal → Bool → State → List (List ℤ) → State
run_after m goal shown s l = record {
  times = s.times;
  section = None;
  best = better_of s.best (told_of goal (last_of l)) (last_block m (last_of l));
  bound = s.bound;
  shown = has_shown goal shown l;
  wrong = false;
  out = [];
}

abbrev IsTold : Goal → List (List ℤ) → Type 0
IsTold Satisfy l = Unit {0}
IsTold (Minimize term) l = (a : List ℤ) → last_of l ≡ Some a → IsWithinLimits (term_value a term)
IsTold (Maximize term) l = (a : List ℤ) → last_of l ≡ Some a → IsWithinLimits (term_value a term)

body_read : (m : Instance) (all : Bool) (s : State) (goal : Goal) (l : List (List ℤ)) (ending printed text rest : List ℕ) → m.goal ≡ goal → AreNamed m → IsTold goal l → IsEnding l ending
    → text ≡ (blocks m l ++ (value_line goal l ++ ending_line ending)) ++ rest
    → read_text m all (begins (within s (fresh [])) printed) text ≡ read_text m all (begins (run_after m goal s.shown s l) (printed ++ blocks m (shows goal all s.shown l))) rest
body_read m all s Satisfy l ending printed text rest goal named limits ends so =
    satisfied_read m all s.shown s l printed text (ending_line ending ++ rest) goal named (so ∙ body_parts (blocks m l) [] (ending_line ending) rest)
    ∙ ending_read m all (with_shown (has_shown Satisfy s.shown l) s) [] None l ending (printed ++ blocks m (shows Satisfy all s.shown l)) (ending_line ending ++ rest) rest refl ends
body_read m all s (Minimize term) l ending printed text rest goal named limits ends so =
    best_read m all s l printed text (value_line (Minimize term) l ++ (ending_line ending ++ rest)) (λ b. ap (end_block all (within s (fresh [])) b) goal) named (so ∙ body_parts (blocks m l) (value_line (Minimize term) l) (ending_line ending) rest)
    ∙ told_read m all s term (last_of l) l ending printed (value_line (Minimize term) l ++ (ending_line ending ++ rest)) rest limits ends refl
    ∙ ap₂ (λ (g : Goal) (p : List ℕ). read_text m all (begins (run_state s (last_block m (last_of l)) (option_map (λ (a : List ℤ). rank g (term_value a term)) (last_of l))) p) rest) goal (sym (append-nil printed))
body_read m all s (Maximize term) l ending printed text rest goal named limits ends so =
    best_read m all s l printed text (value_line (Maximize term) l ++ (ending_line ending ++ rest)) (λ b. ap (end_block all (within s (fresh [])) b) goal) named (so ∙ body_parts (blocks m l) (value_line (Maximize term) l) (ending_line ending) rest)
    ∙ told_read m all s term (last_of l) l ending printed (value_line (Maximize term) l ++ (ending_line ending ++ rest)) rest limits ends refl
    ∙ ap₂ (λ (g : Goal) (p : List ℕ). read_text m all (begins (run_state s (last_block m (last_of l)) (option_map (λ (a : List ℤ). rank g (term_value a term)) (last_of l))) p) rest) goal (sym (append-nil printed))

-- ---- a whole run

told_within : (m : Instance) (goal : Goal) (l : List (List ℤ)) → AllByRecursion IsVariable m.variables → IsGoal m.variables goal → AllByRecursion (λ (a : List ℤ). AreDeclared m.variables a) l → IsTold goal l
told_within m Satisfy l sets is declared = tt
told_within m (Minimize term) l sets is declared = λ a last. value_within m.variables a term sets (all_at (AreDeclared m.variables) l _ a declared last) is
told_within m (Maximize term) l sets is declared = λ a last. value_within m.variables a term sets (all_at (AreDeclared m.variables) l _ a declared last) is

sound_declared : (m task : Instance) (l : List (List ℤ)) → task.variables ≡ m.variables → AllByRecursion (Satisfies task) l → AllByRecursion (λ (a : List ℤ). AreDeclared m.variables a) l
sound_declared m task [] same sound = tt
sound_declared m task (a ∷ l) same sound = (subst (λ (vs : List Variable). AreDeclared vs a) same sound.0.declared, sound_declared m task l same sound.1)

pub run_read : (m : Instance) (all : Bool) (s : State) (r : Ran) (n : ℕ) (printed text rest : List ℕ) → IsModel m → AreNamed m → IsRan m all r → s.times (part_text r.part) ≡ Some n → text ≡ r.text ++ rest
    → read_text m all (begins (between s) printed) text ≡ read_text m all (after_run m all (begins (between s) printed) r) rest
run_read m all s r n printed text rest model named ran known so =
    part_read m all s r.part r.bound n printed text (body ++ rest) (so ∙ ap (λ (t : List ℕ). t ++ rest) ran.run.text ∙ append_assoc (part_line r.part r.bound) body rest) known ran.bound
    ∙ body_read m all (part_state m s r.part r.bound) m.goal r.list ran.run.ending printed (body ++ rest) rest refl named
    (told_within m m.goal r.list model.sets model.goal (sound_declared m (task_of m r.part r.bound) r.list refl lists.sound)) (ending_of m r.list ran.run.run.shown ran.run.ending plain lists.ending) refl
  where
    body : List ℕ
    body = blocks m r.list ++ (value_line m.goal r.list ++ ending_line ran.run.ending)

    lists : IsListed (task_of m r.part r.bound) r.list ran.run.run.shown
    lists = listed (task_of m r.part r.bound) ran.options m.goal r.list ran.run.run.shown ran.asks.plain ran.run.run.prints

    plain : blocks m r.list ++ ran.run.ending ≡ ran.run.run.shown
    plain = plain_shown (task_of m r.part r.bound) m.goal ran.options.stats ran.options.certificate r.list ran.run.run.shown ran.run.run.certificate (blocks m r.list ++ ran.run.ending) ran.asks.plain.stats ran.asks.plain.certificate
        ran.run.run.certifies ran.run.run.text
