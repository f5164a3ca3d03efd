-- What the run of a part prints.
use Rattle.std.proofs.Common.{◌≡◌, ◌≢◌, ◌∙◌, ◌≤◌, ◌<◌, ◌-◌, inl, inr, ℕ, List, [], ◌∷◌, ◌++◌, length, Option, Some, None, Bool, true, false, refl, sym, ap, ap₂, subst, arith, append_assoc, append-nil, length-append}
use Rattle.std.specs.Prelude.{ℤ, slice_get}
use Rattle.std.proofs.lemmas.List.Concat.{flat_map-append}
use Rattle.fz_spec.specs.declared.goal.Goal.{Goal}
use Rattle.fz_spec.specs.declared.goal.Goal.TheVariants.{Satisfy, Minimize, Maximize}
use Rattle.fz_spec.specs.declared.term.Term.{Term}
use Rattle.fz_spec.specs.Instance.{Instance}
use Rattle.fz_spec.specs.Run.{block, blocks, closing}
use Rattle.fz_tree.specs.declared.decision.Decision.{Decision}
use Rattle.fz_tree.specs.Book.{Book, BookLaw, incumbent}
use Rattle.fz_cmd.specs.Meaning.{Options, ArePlain}
use Rattle.fz_io.specs.Outside.{with_more, with_more-with_more}
use Rattle.fz_print.specs.Ending.{statistics_text}
use Rattle.fz_runs.specs.Runs.{AreBest, EndsBest, IsCertificate, IsRunText, PrintsFor, PrintsGoal, certified, counted, times_listed, wanted}
use Rattle.fz_runs.specs.PartRuns.{ending_line, part_line, value_line, value_text}
use Rattle.fz_maker.specs.Taken.{TakesOne, TakesFrontOfOne}
use Rattle.fz_printer.specs.Texts.{TakesFront, ending, listing_text, shown_text}
use Rattle.fz_printer.proofs.Counts.{ending_by_count}
use Rattle.fz_printer.proofs.Fronts.{front_after, front_more}
use Rattle.fz_printer.specs.declared.printer.Printer.{Printer}
use Rattle.fz_printer.specs.Printed.{as_found_of, book_of, HasPrinted}
use Rattle.fz_search.specs.Searched.{first_shown, IsShown}
use Rattle.fzn.specs.Begun.{IsWithin}
use Rattle.fzn.specs.Steps.{IsEnded, IsPartText, IsTaskText, part_end}
use Rattle.fzn.proofs.BegunEndings.{shows}
use Rattle.fzn.proofs.Endings.{best_listed, last_shown, listed}
use Rattle.fzn.proofs.Extensions.{goes_up_from}
use Rattle.fzn.proofs.Printed.{shown_prints}
use Rattle.fzn.proofs.Stops.{IsBegunText, StopsShort}

-- ---- texts of tasks

plain_run : (m : Instance) (o : Options) (l : List (List ℤ)) (shown : List ℕ) → ArePlain o → PrintsFor m.goal o m l shown → IsRunText m o l shown
plain_run m o l shown plain prints = record {
  shown = shown;
  prints = prints;
  certificate = [];
  certifies = subst (λ (asked : Bool). IsCertificate m (certified asked m.goal l) []) (sym plain.certificate) refl;
  text = sym (append-nil (shown ++ statistics_text (counted o.stats l)) ∙ ap (λ (asked : Bool). shown ++ statistics_text (counted asked l)) plain.stats ∙ append-nil shown);
}

-- the text of a task that lists these, and ends so
abbrev pub text_with : Instance → List (List ℤ) → List ℕ → List ℕ
text_with m l end = blocks m l ++ (value_line m.goal l ++ ending_line end)

task_text : (m : Instance) (o : Options) (l : List (List ℤ)) (end : List ℕ) → ArePlain o → PrintsFor m.goal o m l (blocks m l ++ end) → IsTaskText m o (text_with m l end)
task_text m o l end plain prints = record { listed = l; ending = end; run = plain_run m o l (blocks m l ++ end) plain prints; text = refl }

plain_listed : (goal : Goal) (generate : Option ℕ) (m : Instance) (l : List (List ℤ)) (complete : Bool) → generate ≡ None → shown_text goal generate m l complete ≡ listing_text m l complete
plain_listed Satisfy generate m l complete none = refl
plain_listed (Minimize t) generate m l complete none = best_listed generate t m l complete none
plain_listed (Maximize t) generate m l complete none = best_listed generate t m l complete none

pub shown_task : (m : Instance) (o : Options) (l : List (List ℤ)) (complete : Bool) → ArePlain o → IsShown m.goal o m l complete → IsTaskText m o (text_with m l (ending complete l))
shown_task m o l complete plain shown =
    task_text m o l (ending complete l) plain (subst (λ (u : List ℕ). PrintsFor m.goal o m l u) (plain_listed m.goal o.generate m l complete plain.generate) (shown_prints m.goal m o l complete shown))

-- ---- there is one

ending_some : (end : List ℕ) → 0 < length (ending_line end)
ending_some [] = omega arith
ending_some (b ∷ bytes) = omega arith

some_at_end : (front middle end : List ℕ) → 0 < length (front ++ (middle ++ ending_line end))
some_at_end front middle end =
    let some = ending_some end in
    let first = length-append front (middle ++ ending_line end) in
    let second = length-append middle (ending_line end) in
    omega (arith, some, first, second)

record Lists (goal : Goal) (m : Instance) (o : Options) : Type 0 where
  listed : List (List ℤ)
  end : List ℕ
  prints : PrintsFor goal o m listed (blocks m listed ++ end)

none_twice : (d : Bool) (m : Instance) (a : List ℤ) → times_listed d m a [] ≤ 1
none_twice true m a = omega arith
none_twice false m a = omega arith

none_within : (w : Option ℕ) → IsWithin w 0
none_within None = tt
none_within (Some n) = omega arith

-- the last of a list that ends with a best one, alone
record BestAlone (m : Instance) : Type 0 where
  listed : List (List ℤ)
  are : (all : Bool) → AreBest all m listed

best_alone : (m : Instance) (l : List (List ℤ)) → EndsBest m l → BestAlone m
best_alone m [] ends = record { listed = []; are = λ all. record { sound = tt; improving = tt; alone = λ e. omega arith; last = ends } }
best_alone m (x ∷ []) ends = record { listed = x ∷ []; are = λ all. record { sound = (ends.satisfies, tt); improving = tt; alone = λ e. omega arith; last = ends } }
best_alone m (x ∷ y ∷ ys) ends = best_alone m (y ∷ ys) ends

prints_goal : (generate : Option ℕ) (all : Bool) (t : Term) (m : Instance) (b : BestAlone m) → generate ≡ None → PrintsGoal generate all t m b.listed (blocks m b.listed ++ closing b.listed)
prints_goal None all t m b none = record { are = b.are all; text = refl }
prints_goal (Some items) all t m b none = absurd (cc none)

lists_goal : (t : Term) (m : Instance) (o : Options) → ArePlain o → BestAlone m → (l : List (List ℤ)) × PrintsGoal o.generate o.all t m l (blocks m l ++ closing l)
lists_goal t m o plain b = (b.listed, prints_goal o.generate o.all t m b plain.generate)

best_of : (m : Instance) → BestAlone m
best_of m = let up = goes_up_from m [] tt tt in best_alone m up.more up.ends

lists : (goal : Goal) (m : Instance) (o : Options) → ArePlain o → Lists goal m o
lists Satisfy m o plain =
    let s = shows o m Satisfy [] (record { sound = tt; different = λ a satisfies. none_twice o.distinct m a; within = none_within (wanted o) }) in
    record { listed = s.later; end = s.ending; prints = s.prints }
lists (Minimize t) m o plain = let l = lists_goal t m o plain (best_of m) in record { listed = l.0; end = closing l.0; prints = l.1 }
lists (Maximize t) m o plain = let l = lists_goal t m o plain (best_of m) in record { listed = l.0; end = closing l.0; prints = l.1 }

record SomeTask (m : Instance) (o : Options) : Type 0 where
  text : List ℕ
  is : IsTaskText m o text
  some : 0 < length text

some_task : (m : Instance) (o : Options) → ArePlain o → SomeTask m o
some_task m o plain =
    let l = lists m.goal m o plain in
    record { text = text_with m l.listed l.end; is = task_text m o l.listed l.end plain l.prints; some = some_at_end (blocks m l.listed) (value_line m.goal l.listed) l.end }

-- where nothing of it was printed
pub none_of_task : (m : Instance) (o : Options) (before after : Option (List ℕ)) → ArePlain o → after ≡ with_more before [] → TakesFrontOfOne (IsTaskText m o) before after
none_of_task m o before after plain taken =
    let t = some_task m o plain in record { text = t.text; is = t.is; front = record { printed = []; more = t.text; some = t.some; front = refl; taken = taken } }

-- ---- a search that stopped

begun_front : (m : Instance) (o : Options) (printed : List ℕ) (before after : Option (List ℕ)) → ArePlain o → after ≡ with_more before printed → IsBegunText o m printed → TakesFrontOfOne (IsTaskText m o) before after
begun_front m o printed before after plain taken b =
    let l = b.listed in
    let s = shows o m m.goal l b.begun in
    let whole = l ++ s.later in
    let parted : blocks m whole ≡ blocks m l ++ blocks m s.later = flat_map-append (block m) l s.later in
    let rest = value_line m.goal whole ++ ending_line s.ending in
    let prints : PrintsFor m.goal o m whole (blocks m whole ++ s.ending) =
    subst (λ (u : List ℕ). PrintsFor m.goal o m whole u) (sym (append_assoc (blocks m l) (blocks m s.later) s.ending) ∙ ap (λ u. u ++ s.ending) (sym parted)) s.prints in
    let front : text_with m whole s.ending ≡ printed ++ (b.more ++ (blocks m s.later ++ rest)) =
    ap (λ u. u ++ rest) parted ∙ append_assoc (blocks m l) (blocks m s.later) rest ∙ ap (λ u. u ++ (blocks m s.later ++ rest)) b.text ∙ append_assoc printed b.more (blocks m s.later ++ rest) in
    let size = length-append b.more (blocks m s.later ++ rest) in
    let some = some_at_end (blocks m s.later) (value_line m.goal whole) s.ending in
    record {
      text = text_with m whole s.ending;
      is = task_text m o whole s.ending plain prints;
      front = record { printed = printed; more = b.more ++ (blocks m s.later ++ rest); some = omega (arith, size, some); front = front; taken = taken };
    }

pub stopped_task : (m : Instance) (o : Options) (before after : Option (List ℕ)) → ArePlain o → StopsShort o m before after → TakesFrontOfOne (IsTaskText m o) before after
stopped_task m o before after plain s = elim s.2 [
  | inl none ↦ none_of_task m o before after plain (s.1 ∙ ap (λ u. with_more before u) none)
  | inr begun ↦ begun_front m o s.0 before after plain s.1 begun
]

-- ---- a search that ended

part_end_is : (goal : Goal) (l : List (List ℤ)) (n : ℕ) (last : Option (List ℤ)) (complete : Bool) → length l ≡ n → (goal ≢ Satisfy → last ≡ slice_get l (length l - 1)) → part_end goal n last complete ≡ value_line goal l ++ ending_line (ending complete l)
part_end_is Satisfy l n last complete count is = ap ending_line (ending_by_count complete l n count)
part_end_is (Minimize t) l n last complete count is = ap₂ (λ u v. u ++ v) (ap (value_text t) (is (λ e. cc e))) (ap ending_line (ending_by_count complete l n count))
part_end_is (Maximize t) l n last complete count is = ap₂ (λ u v. u ++ v) (ap (value_text t) (is (λ e. cc e))) (ap ending_line (ending_by_count complete l n count))

-- what is put after the blocks that are listed
abbrev pub IsEndOf : Instance → List (List ℤ) → Bool → List ℕ → Type 0
IsEndOf m l complete end = end ≡ value_line m.goal l ++ ending_line (ending complete l)

pub end_found : (o : Options) (p : Printer) (b : Book) (m : Instance) (goal : Goal) (count : ℕ) (last : Option (List ℤ)) (complete : Bool) → b ≡ book_of p → m ≡ b.model → goal ≡ m.goal → BookLaw b → length (first_shown o b) ≡ count → last ≡ incumbent b
    → IsEndOf (book_of p).model (first_shown o (book_of p)) complete (part_end goal count last complete)
end_found o p b m goal count last complete same of is law counted best =
    let own : goal ≡ b.model.goal = is ∙ ap (λ (x : Instance). x.goal) of in
    subst (λ (x : Book). IsEndOf x.model (first_shown o x) complete (part_end goal count last complete)) same
    (ap (λ (g : Goal). part_end g count last complete) own ∙ part_end_is b.model.goal (first_shown o b) count last complete counted (λ other. best ∙ last_shown o b law other))

pub end_listed : (p : Printer) (b : Book) (m : Instance) (goal : Goal) (l : List (List ℤ)) (last : Option (List ℤ)) (complete : Bool) → b ≡ book_of p → m ≡ b.model → goal ≡ m.goal → last ≡ slice_get l (length l - 1)
    → IsEndOf (book_of p).model l complete (part_end goal (length l) last complete)
end_listed p b m goal l last complete same of is best =
    let own : goal ≡ (book_of p).model.goal = is ∙ ap (λ (x : Instance). x.goal) of ∙ ap (λ (x : Book). x.model.goal) same in
    ap (λ (g : Goal). part_end g (length l) last complete) own ∙ part_end_is (book_of p).model.goal l (length l) last complete refl (λ other. best)

pub whole_task : (m : Instance) (o : Options) (l : List (List ℤ)) (complete : Bool) (end : List ℕ) (before middle after : Option (List ℕ)) → ArePlain o → IsShown m.goal o m l complete → IsEndOf m l complete end
    → middle ≡ with_more before (blocks m l) → after ≡ with_more middle end → TakesOne (IsTaskText m o) before after
whole_task m o l complete end before middle after plain shown is blocked taken = record {
  text = text_with m l (ending complete l);
  is = shown_task m o l complete plain shown;
  taken = taken ∙ ap (λ (t : Option (List ℕ)). with_more t end) blocked ∙ with_more-with_more before (blocks m l) end ∙ ap (λ u. with_more before (blocks m l ++ u)) is;
}

pub front_task : (m : Instance) (o : Options) (l : List (List ℤ)) (complete : Bool) (end : List ℕ) (before middle after : Option (List ℕ)) → ArePlain o → IsShown m.goal o m l complete → IsEndOf m l complete end
    → middle ≡ with_more before (blocks m l) → TakesFront end middle after → TakesFrontOfOne (IsTaskText m o) before after
front_task m o l complete end before middle after plain shown is blocked front = record {
  text = text_with m l (ending complete l);
  is = shown_task m o l complete plain shown;
  front = front_after (blocks m l) (value_line m.goal l ++ ending_line (ending complete l)) before after
      (subst (λ (t : Option (List ℕ)). TakesFront (value_line m.goal l ++ ending_line (ending complete l)) t after) blocked (subst (λ (u : List ℕ). TakesFront u middle after) is front));
}

-- within its blocks
pub within_task : (m : Instance) (o : Options) (l : List (List ℤ)) (complete : Bool) (before after : Option (List ℕ)) → ArePlain o → IsShown m.goal o m l complete → TakesFront (blocks m l) before after → TakesFrontOfOne (IsTaskText m o) before after
within_task m o l complete before after plain shown front = record {
  text = text_with m l (ending complete l);
  is = shown_task m o l complete plain shown;
  front = front_more (blocks m l) (value_line m.goal l ++ ending_line (ending complete l)) before after front;
}

-- its blocks were printed as they were found
pub found_printed : (o : Options) (p : Printer) (before middle : Option (List ℕ)) → IsEnded o p → as_found_of p ≡ true → HasPrinted p before middle → middle ≡ with_more before (blocks (book_of p).model (first_shown o (book_of p)))
found_printed o p before middle ended found printed = let l = listed o p (first_shown o (book_of p)) true before middle ended found (λ shows. refl) printed in l.printed

-- ---- with its first line

pub whole_part : (p : List Decision) (m : Instance) (o : Options) (before middle after : Option (List ℕ)) → middle ≡ with_more before (part_line p o.better) → TakesOne (IsTaskText m o) middle after → TakesOne (IsPartText p m o) before after
whole_part p m o before middle after line one = record {
  text = part_line p o.better ++ one.text;
  is = record { rest = one.text; task = one.is; text = refl };
  taken = one.taken ∙ ap (λ (t : Option (List ℕ)). with_more t one.text) line ∙ with_more-with_more before (part_line p o.better) one.text;
}

pub front_part : (p : List Decision) (m : Instance) (o : Options) (before middle after : Option (List ℕ)) → middle ≡ with_more before (part_line p o.better) → TakesFrontOfOne (IsTaskText m o) middle after → TakesFrontOfOne (IsPartText p m o) before after
front_part p m o before middle after line one = record {
  text = part_line p o.better ++ one.text;
  is = record { rest = one.text; task = one.is; text = refl };
  front = front_after (part_line p o.better) one.text before after (subst (λ (t : Option (List ℕ)). TakesFront one.text t after) line one.front);
}

pub within_line : (p : List Decision) (m : Instance) (o : Options) (before after : Option (List ℕ)) → ArePlain o → TakesFront (part_line p o.better) before after → TakesFrontOfOne (IsPartText p m o) before after
within_line p m o before after plain front =
    let t = some_task m o plain in
    record {
      text = part_line p o.better ++ t.text;
      is = record { rest = t.text; task = t.is; text = refl };
      front = front_more (part_line p o.better) t.text before after front;
    }
