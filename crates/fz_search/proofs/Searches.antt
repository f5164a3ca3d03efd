-- What a search's book says of the solutions that are shown.
use Rattle.std.proofs.Common.{◌≡◌, ◌∙◌, ℕ, zero, suc, ◌+◌, ◌-◌, drop, sym, ◌≤◌, ◌<◌, ◌⊎◌, List, [], ◌∷◌, Option, None, Some, length, take, ap, refl, subst, arith, inl, inr, cond, Bool, true, false}
use Rattle.std.specs.Prelude.{ℤ, ◌↔◌, IsSomeAnd, slice_get}
use Rattle.std.specs.List.{AllByRecursion}
use Rattle.std.proofs.Math.Seq.{take-length}
use Rattle.std.proofs.lemmas.List.{length-take-le}
use Rattle.std.proofs.lemmas.List.Sums.{sum_by-take-le}
use Rattle.fz_spec.specs.Instance.{Instance, AreDeclared, Satisfies, AreImproving, is_same}
use Rattle.fz_spec.specs.Run.{blocks}
use Rattle.fz_spec.specs.declared.goal.Goal.{Goal}
use Rattle.fz_spec.specs.declared.goal.Goal.TheVariants as goals
use Rattle.fz_tree.specs.declared.mode.Mode.{Mode}
use Rattle.fz_tree.specs.declared.mode.Mode.TheVariants as modes
use Rattle.fz_tree.specs.Book.{Book, BookLaw, opening, Part, SuitsRecord, incumbent_of, times_recorded_in, times_open}
use Rattle.fz_tree.specs.Better.{IsModeOf, Betters}
use Rattle.fz_tree.specs.Rows.{key}
use Rattle.fz_tree.specs.Account.{times_found}
use Rattle.fz_book.specs.declared.end.End.{End}
use Rattle.fz_book.specs.declared.end.End.TheVariants as ends
use Rattle.fz_tree.proofs.Books.{closed_lists, closed_lists_rows, closed_is_best}
use Rattle.fz_cmd.specs.Meaning.{Options}
use Rattle.fz_runs.specs.Runs.{AreSome, EndsBest, AreBest, ListsEach, wanted}
use Rattle.fz_runs.specs.Modes.{mode_of, mode_for}
use Rattle.fz_path.specs.Paths.{Pathed, idle_path}
use Rattle.fz_solo.specs.Searches.{Searches}
use Rattle.fz_machine.specs.Cores.{Core, starting}
use Rattle.fz_machine.specs.Schedule.{HasGone}
use Rattle.fz_io.specs.Outside.{with_more, with_more-none}
use Rattle.fz_printer.specs.declared.printing.Stop.{Stop}
use Rattle.fz_printer.specs.declared.printer.Printer.{Printer}
use Rattle.fz_printer.specs.Printed.{as_found_of, book_of, printed_of, stopped_of, wanted_of, due_among, due_of, CountsMark, HasPrinted, HasPrintedAt, IsReady}
use Rattle.fz_printer.specs.Gathered.{Gathers, IsFilled, IsFilledFor}
use Rattle.fz_solo.specs.Streamed.{Streams}
use Rattle.fz_printer.specs.Gatherings.{gathers_both}
use Rattle.fz_runs.proofs.Times.{times_are}
use Rattle.fz_search.specs.Searched.{IsAlone, IsByTurns, IsPrinted, enough_for, first_shown, HasEnded, IsSearched, IsListing, IsShown, IsTally, shows_all, shows_found}

-- ---- the first that many of a list

all_first : (P : List ℤ → Type 0) (l : List (List ℤ)) (n : ℕ) → AllByRecursion P l → AllByRecursion P (take n l)
all_first P l zero all = tt
all_first P [] (suc n) all = tt
all_first P (x ∷ l) (suc n) all = (all.0, all_first P l n all.1)

fewer_first : (mode : Mode) (m : Instance) (a : List ℤ) (l : List (List ℤ)) (n : ℕ) → times_found mode m a (take n l) ≤ times_found mode m a l
fewer_first mode m a l n = sum_by-take-le (λ x. cond (is_same (key mode m a) (key mode m x)) 1 0) l n

counted_once : (mode : Mode) (d : Bool) (m : Instance) (a : List ℤ) (recorded : List (List ℤ)) (ps : List Part) → mode ≡ mode_of d
    → (Betters m a (incumbent_of mode recorded) → times_recorded_in mode m a recorded + times_open ps a ≡ 1) → times_found (mode_of d) m a recorded ≤ 1
counted_once modes.All false m a recorded ps is h = omega (arith, h tt)
counted_once modes.All true m a recorded ps is h = absurd (cc is)
counted_once modes.Rows true m a recorded ps is h = omega (arith, h tt)
counted_once modes.Rows false m a recorded ps is h = absurd (cc is)
counted_once modes.Best true m a recorded ps is h = absurd (cc is)
counted_once modes.Best false m a recorded ps is h = absurd (cc is)

pub some_of : (d : Bool) (b : Book) (n : ℕ) → BookLaw b → b.mode ≡ mode_of d → n ≤ length b.recorded → AreSome d b.model n (take n b.recorded)
some_of d b n law mode within = record {
  sound = all_first (Satisfies b.model) b.recorded n law.sound;
  different = λ a satisfies. (let once = counted_once b.mode d b.model a b.recorded b.parts mode (law.sums a satisfies) in let fewer = fewer_first (mode_of d) b.model a b.recorded n in omega (arith, once, fewer, times_are d b.model a (take n b.recorded)));
  count = length-take-le n b.recorded within;
}

-- ---- a search that has ended

ended_by : (w : Option ℕ) (b : Book) (end : End) → (end ≡ ends.Enough) ↔ IsSomeAnd w (λ n. n ≤ length b.recorded) → (end ≡ ends.Closed → b.parts ≡ []) → HasEnded w b
ended_by None b ends.Closed enough closed = closed refl
ended_by None b ends.Enough enough closed = absurd (enough.0 refl)
ended_by (Some n) b ends.Closed enough closed = inr (closed refl)
ended_by (Some n) b ends.Enough enough closed = inl (enough.0 refl)

pub searched : (m : Instance) (mode : Mode) (w v : Option ℕ) (b : Book) (end : End) → b.model ≡ m → b.mode ≡ mode → BookLaw b → v ≡ w
    → (end ≡ ends.Enough) ↔ IsSomeAnd v (λ n. n ≤ length b.recorded) → (end ≡ ends.Closed → b.parts ≡ []) → IsSearched m mode w b
searched m mode w v b end is own law same enough closed = record {
  model = is;
  own_mode = own;
  law = law;
  ended = subst (λ (u : Option ℕ). HasEnded u b) same (ended_by v b end enough closed);
}

-- by workers that take turns: their book stays of the model and mode that it was begun with
pub searched_by_turns : (m : Instance) (o : Options) (mode sought : Mode) (w v : Option ℕ) (old new : Core) (end : End) → old ≡ starting m mode o.workers o.commit_distance o.adaptive_distance → mode ≡ sought → new.book.model ≡ old.book.model → new.book.mode ≡ old.book.mode → BookLaw new.book → v ≡ w
    → (end ≡ ends.Enough) ↔ IsSomeAnd v (λ n. n ≤ length new.book.recorded) → (end ≡ ends.Closed → new.book.parts ≡ []) → IsSearched m sought w new.book
searched_by_turns m o mode sought w v old new end begun own model kept law same enough closed =
    searched m sought w v new.book end (model ∙ ap (λ (x : Core). x.book.model) begun) (kept ∙ ap (λ (x : Core). x.book.mode) begun ∙ own) law same enough closed

-- by one worker, as the code says it
pub alone : (m : Instance) (o : Options) (improving : Bool) (mode : Mode) (distance adaptive : ℕ) (old b : Book) (begun path : Pathed) → improving ≡ shows_found m.goal o → mode ≡ mode_for m.goal o → distance ≡ o.commit_distance → adaptive ≡ o.adaptive_distance → old ≡ opening m mode
    → begun ≡ idle_path m mode distance adaptive → Searches improving old begun b path → IsAlone m o b
alone m o improving mode distance adaptive old b begun path all own asked kept opened idle h =
    let told = subst (λ (i : Bool). Searches i old begun b path) all h in
    let from = subst (λ (x : Book). Searches (shows_found m.goal o) x begun b path) (opened ∙ ap (opening m) own) told in
    let same : begun ≡ idle_path m (mode_for m.goal o) o.commit_distance o.adaptive_distance = idle ∙ (λ i. idle_path m (own i) (asked i) (kept i)) in
    record { path = path; searched = subst (λ (x : Pathed). Searches (shows_found m.goal o) (opening m (mode_for m.goal o)) x b path) same from }

-- by turns, as the code says it
pub by_turns : (m : Instance) (o : Options) (seed : ℕ) (enough : Option ℕ) (mode : Mode) (old new : Core) (b : Book) → enough ≡ enough_for m.goal o → mode ≡ mode_for m.goal o → old ≡ starting m mode o.workers o.commit_distance o.adaptive_distance
    → HasGone enough seed old new → b ≡ new.book → IsByTurns m o seed b
by_turns m o seed enough mode old new b asked own begun gone is =
    let wanted = subst (λ (e : Option ℕ). HasGone e seed old new) asked gone in
    record { core = new; gone = subst (λ (x : Core). HasGone (enough_for m.goal o) seed x new) (begun ∙ ap (λ (x : Mode). starting m x o.workers o.commit_distance o.adaptive_distance) own) wanted; is = is }

-- ---- a search that printed on its way, or not at all

begun_at : (s : Option Stop) (p : Printer) (taken : Option (List ℕ)) → s ≡ None → taken ≡ with_more taken (blocks p.book.book.model (take p.printed p.book.book.recorded)) → HasPrintedAt s p taken taken
begun_at None p taken e is = is
begun_at (Some stop) p taken e is = absurd (cc e)

pub begun_printed : (p : Printer) (taken : Option (List ℕ)) → stopped_of p ≡ None → printed_of p ≡ 0 → HasPrinted p taken taken
begun_printed p taken none nothing =
    begun_at p.stopped p taken none (sym (with_more-none taken) ∙ ap (λ n. with_more taken (blocks p.book.book.model (take n p.book.book.recorded))) (sym nothing))

pub filled_ended : (w : Option ℕ) (b : Book) → IsFilledFor w (length b.recorded) ⊎ (b.parts ≡ []) → HasEnded w b
filled_ended None b (inl filled) = absurd filled
filled_ended None b (inr closed) = closed
filled_ended (Some n) b ended = ended

-- by one worker
pub printed_alone : (m : Instance) (o : Options) (mode : Mode) (old p : Printer) (q r : Pathed) (shows : Bool) (w : Option ℕ) (before after : Option (List ℕ)) → Streams old q before p r after → book_of old ≡ opening m mode → mode ≡ mode_for m.goal o → BookLaw (book_of p)
    → as_found_of old ≡ shows → shows ≡ shows_found m.goal o → wanted_of old ≡ w → w ≡ enough_for m.goal o → printed_of old ≡ 0 → stopped_of old ≡ None
    → (stopped_of p ≡ None → IsReady p) → (stopped_of p ≡ None → IsFilled p ⊎ ((book_of p).parts ≡ [])) → IsPrinted m o p before after
printed_alone m o mode old p q r shows w before after s opened own law as_found shown wanted asked nothing none ready ended =
    let kept : wanted_of p ≡ enough_for m.goal o = s.keeps.wanted ∙ wanted ∙ asked in
    record {
      model = s.model ∙ ap (λ (b : Book). b.model) opened;
      mode = s.mode ∙ ap (λ (b : Book). b.mode) opened ∙ own;
      law = law;
      prints = inr (s.keeps.as_found ∙ as_found ∙ shown, kept);
      printed = s.printed before (begun_printed old before none nothing);
      within = s.within;
      ready = ready;
      ended = λ n. subst (λ (x : Option ℕ). HasEnded x (book_of p)) kept (filled_ended (wanted_of p) (book_of p) (ended n));
    }

-- by several, that printed on their way, and by one after them
pub printed_together : (m : Instance) (o : Options) (mode : Mode) (old p : Printer) (shows : Bool) (w : Option ℕ) (before after : Option (List ℕ)) (n k : ℕ) → Gathers old before n p after k → book_of old ≡ opening m mode → mode ≡ mode_for m.goal o → BookLaw (book_of p)
    → as_found_of old ≡ shows → shows ≡ shows_found m.goal o → wanted_of old ≡ w → w ≡ enough_for m.goal o → printed_of old ≡ 0 → stopped_of old ≡ None
    → (stopped_of p ≡ None → IsFilled p ⊎ ((book_of p).parts ≡ [])) → IsPrinted m o p before after
printed_together m o mode old p shows w before after n k s opened own law as_found shown wanted asked nothing none ended =
    let kept : wanted_of p ≡ enough_for m.goal o = s.keeps.wanted ∙ wanted ∙ asked in
    record {
      model = s.model ∙ ap (λ (b : Book). b.model) opened;
      mode = s.mode ∙ ap (λ (b : Book). b.mode) opened ∙ own;
      law = law;
      prints = inr (s.keeps.as_found ∙ as_found ∙ shown, kept);
      printed = s.printed before (begun_printed old before none nothing);
      within = s.within;
      ready = s.ready;
      ended = λ still. subst (λ (x : Option ℕ). HasEnded x (book_of p)) kept (filled_ended (wanted_of p) (book_of p) (ended still));
    }

-- one worker's search after what was printed
pub streamed_behind : (old p new : Printer) (q r : Pathed) (taken middle after : Option (List ℕ)) (n j k : ℕ) → Gathers old taken n p middle j → stopped_of p ≡ None → Streams p q middle new r after → (stopped_of new ≡ None → IsReady new) → CountsMark j k (stopped_of new) → Gathers old taken n new after k
streamed_behind old p new q r taken middle after n j k first none second ready cause =
    gathers_both old p new taken middle after n j k first none (record { keeps = second.keeps; model = second.model; mode = second.mode; printed = second.printed; within = second.within; ready = ready; cause = cause })

none_due : (p : Printer) → as_found_of p ≡ false → due_of p ≡ 0
none_due p is = ap (λ (b : Bool). due_among b (wanted_of p) (length (book_of p).recorded)) is

-- by several
pub unprinted : (m : Instance) (o : Options) (p : Printer) (taken : Option (List ℕ)) → IsSearched m (mode_for m.goal o) (enough_for m.goal o) (book_of p) → as_found_of p ≡ false → printed_of p ≡ 0 → stopped_of p ≡ None → IsPrinted m o p taken taken
unprinted m o p taken s as_found nothing none = record {
  model = s.model;
  mode = s.own_mode;
  law = s.law;
  prints = inl as_found;
  printed = begun_printed p taken none nothing;
  within = omega (arith, nothing);
  ready = λ n. nothing ∙ sym (none_due p as_found);
  ended = λ n. s.ended;
}

-- ---- what is shown

pub all_due : (l : List (List ℤ)) → l ≡ take (due_among true None (length l)) l
all_due l = sym (take-length l)

pub few_due : (l : List (List ℤ)) (n : ℕ) → length l < n → l ≡ take (due_among true (Some n) (length l)) l
few_due l n h = let e : due_among true (Some n) (length l) ≡ length l = omega (arith, h) in sym (ap (λ k. take k l) e ∙ take-length l)

pub first_due : (l : List (List ℤ)) (n : ℕ) → n ≤ length l → take n l ≡ take (due_among true (Some n) (length l)) l
first_due l n h = let e : n ≡ due_among true (Some n) (length l) = omega (arith, h) in ap (λ k. take k l) e

lists_each : (d : Bool) (b : Book) → BookLaw b → b.mode ≡ mode_of d → b.parts ≡ [] → ListsEach d b.model b.recorded
lists_each false b law mode none = closed_lists b law mode none
lists_each true b law mode none = closed_lists_rows b law mode none

pub all_shown : (d : Bool) (b : Book) → IsSearched b.model (mode_of d) None b → IsListing d b.model None b.recorded true
all_shown d b s = lists_each d b s.law s.own_mode s.ended

pub rest_shown : (d : Bool) (b : Book) (n : ℕ) → IsSearched b.model (mode_of d) (Some n) b → length b.recorded < n → IsListing d b.model (Some n) b.recorded true
rest_shown d b n s few = (few, elim s.ended [ inl many ↦ absurd (omega (arith, many, few)) | inr closed ↦ lists_each d b s.law s.own_mode closed ])

pub some_listed : (d : Bool) (b : Book) (w : Option ℕ) (n : ℕ) (found : List (List ℤ)) → BookLaw b → b.mode ≡ mode_of d → w ≡ Some n → found ≡ b.recorded → n ≤ length found → IsListing d b.model w (take n found) false
some_listed d b w n found law mode asked same within =
    subst (λ (v : Option ℕ). IsListing d b.model v (take n found) false) (sym asked)
    (subst (λ (l : List (List ℤ)). AreSome d b.model n (take n l)) (sym same) (some_of d b n law mode (subst (λ (l : List (List ℤ)). n ≤ length l) same within)))

-- what is sought is the goal's
pub own_mode : (goal : Goal) (o : Options) → IsModeOf goal (mode_for goal o)
own_mode goals.Satisfy o = own_of o.distinct
  where
    own_of : (d : Bool) → IsModeOf goals.Satisfy (mode_of d)
    own_of true = refl
    own_of false = refl
own_mode (goals.Minimize t) o = λ is. cc is
own_mode (goals.Maximize t) o = λ is. cc is

-- ---- a best one

ends_best : (m : Instance) (l : List (List ℤ)) → AllByRecursion (Satisfies m) l → ((a : List ℤ) → Satisfies m a → Betters m a (slice_get l (length l - 1)) → ⊥) → EndsBest m l
ends_best m [] sound none = λ a satisfies. none a satisfies tt
ends_best m (x ∷ []) sound none = record { satisfies = sound.0; unbettered = none }
ends_best m (x ∷ y ∷ ys) sound none =
    let one : suc (length ys) - 1 ≡ length ys = omega arith in
    let two : suc (suc (length ys)) - 1 ≡ suc (length ys) = omega arith in
    let last : slice_get (x ∷ y ∷ ys) (suc (suc (length ys)) - 1) ≡ slice_get (y ∷ ys) (suc (length ys) - 1) = ap (slice_get (x ∷ y ∷ ys)) two ∙ ap (slice_get (y ∷ ys)) (sym one) in
    ends_best m (y ∷ ys) sound.1 (λ a satisfies better. none a satisfies (subst (λ (o : Option (List ℤ)). Betters m a o) (sym last) better))

of_best : (mode : Mode) (m : Instance) (l : List (List ℤ)) → mode ≡ modes.Best → SuitsRecord mode m l → AreImproving m l
of_best modes.Best m l is suits = suits
of_best modes.All m l is suits = absurd (cc is)
of_best modes.Rows m l is suits = absurd (cc is)

incumbent_best : (mode : Mode) (l : List (List ℤ)) → mode ≡ modes.Best → incumbent_of mode l ≡ slice_get l (length l - 1)
incumbent_best modes.Best l is = refl
incumbent_best modes.All l is = absurd (cc is)
incumbent_best modes.Rows l is = absurd (cc is)

best_recorded : (b : Book) → BookLaw b → b.mode ≡ modes.Best → b.parts ≡ [] → AreBest true b.model b.recorded
best_recorded b law best none = record {
  sound = law.sound;
  improving = of_best b.mode b.model b.recorded best law.improving;
  alone = λ e. absurd (cc e);
  last = ends_best b.model b.recorded law.sound
      (λ a satisfies better. closed_is_best b a law best none satisfies (subst (λ (o : Option (List ℤ)). Betters b.model a o) (sym (incumbent_best b.mode b.recorded best)) better));
}

-- the last alone
last_alone : (all : Bool) (m : Instance) (l : List (List ℤ)) → AreBest true m l → AreBest all m (drop (length l - 1) l)
last_alone all m [] best = record { sound = tt; improving = tt; alone = λ e. omega arith; last = best.last }
last_alone all m (x ∷ []) best = record { sound = best.sound; improving = tt; alone = λ e. omega arith; last = best.last }
last_alone all m (x ∷ y ∷ ys) best =
    let one : suc (length ys) - 1 ≡ length ys = omega arith in
    let two : suc (suc (length ys)) - 1 ≡ suc (length ys) = omega arith in
    let rest = last_alone all m (y ∷ ys) (record { sound = best.sound.1; improving = best.improving.1; alone = λ f. absurd (cc f); last = best.last }) in
    let same : drop (suc (length ys) - 1) (y ∷ ys) ≡ drop (suc (suc (length ys)) - 1) (x ∷ y ∷ ys) = ap (λ n. drop n (y ∷ ys)) one ∙ ap (λ n. drop n (x ∷ y ∷ ys)) (sym two) in
    subst (λ (l : List (List ℤ)). AreBest all m l) same rest

pub best_listed : (b : Book) (all : Bool) (l : List (List ℤ)) → IsSearched b.model modes.Best None b → all ≡ true → l ≡ b.recorded → AreBest all b.model l
best_listed b all l s is same = rw (is, same) (best_recorded b s.law s.own_mode s.ended)

pub best_alone : (b : Book) (all : Bool) (l : List (List ℤ)) → IsSearched b.model modes.Best None b → l ≡ b.recorded → AreBest all b.model (drop (length l - 1) l)
best_alone b all l s same = subst (λ (k : List (List ℤ)). AreBest all b.model (drop (length k - 1) k)) (sym same) (last_alone all b.model b.recorded (best_recorded b s.law s.own_mode s.ended))

-- what is shown is declared
all_declared : (m : Instance) (l : List (List ℤ)) → AllByRecursion (Satisfies m) l → AllByRecursion (AreDeclared m.variables) l
all_declared m [] all = tt
all_declared m (a ∷ l) all = (all.0.declared, all_declared m l all.1)

each_declared : (d : Bool) (m : Instance) (l : List (List ℤ)) → ListsEach d m l → AllByRecursion (AreDeclared m.variables) l
each_declared false m l h = all_declared m l h.sound
each_declared true m l h = all_declared m l h.sound

listed_declared : (d : Bool) (m : Instance) (w : Option ℕ) (l : List (List ℤ)) (complete : Bool) → IsListing d m w l complete → AllByRecursion (AreDeclared m.variables) l
listed_declared d m None l true h = each_declared d m l h
listed_declared d m None l false h = absurd h
listed_declared d m (Some n) l true h = each_declared d m l h.1
listed_declared d m (Some n) l false h = all_declared m l h.sound

pub shown_declared : (goal : Goal) (m : Instance) (o : Options) (l : List (List ℤ)) (complete : Bool) → IsShown goal o m l complete → AllByRecursion (AreDeclared m.variables) l
shown_declared goals.Satisfy m o l complete h = listed_declared o.distinct m (wanted o) l complete h
shown_declared (goals.Minimize t) m o l complete h = all_declared m l h.1.sound
shown_declared (goals.Maximize t) m o l complete h = all_declared m l h.1.sound

-- ---- what is shown where each that is recorded is

due_count : (w : Option ℕ) (l : List (List ℤ)) → length (take (due_among true w (length l)) l) ≡ due_among true w (length l)
due_count None l = length-take-le (length l) l (omega arith)
due_count (Some n) l = length-take-le (due_among true (Some n) (length l)) l (omega arith)

some_tally : (d : Bool) (w : Option ℕ) (n : ℕ) (b : Book) → BookLaw b → b.mode ≡ mode_of d → w ≡ Some n → n ≤ length b.recorded → IsListing d b.model w (take (due_among true w (length b.recorded)) b.recorded) false
some_tally d w n b law mode is within =
    subst (λ (v : Option ℕ). IsListing d b.model v (take (due_among true v (length b.recorded)) b.recorded) false) (sym is)
    (subst (λ (l : List (List ℤ)). AreSome d b.model n l) (first_due b.recorded n within) (some_of d b n law mode within))

all_tally : (d : Bool) (w : Option ℕ) (b : Book) → IsSearched b.model (mode_of d) w b → ((n : ℕ) → w ≡ Some n → length b.recorded < n) → IsListing d b.model w (take (due_among true w (length b.recorded)) b.recorded) true
all_tally d None b s few = subst (λ (l : List (List ℤ)). IsListing d b.model None l true) (all_due b.recorded) (all_shown d b s)
all_tally d (Some n) b s few = subst (λ (l : List (List ℤ)). IsListing d b.model (Some n) l true) (few_due b.recorded n (few n refl)) (rest_shown d b n s (few n refl))

best_tally : (b : Book) (all : Bool) → IsSearched b.model modes.Best None b → all ≡ true → AreBest all b.model (take (due_among true None (length b.recorded)) b.recorded)
best_tally b all s is = subst (λ (l : List (List ℤ)). AreBest all b.model l) (all_due b.recorded) (best_listed b all b.recorded s is refl)

-- as many are recorded as are asked for
some_by : (goal : Goal) (o : Options) (n : ℕ) (b : Book) → IsSearched b.model (mode_for goal o) (enough_for goal o) b → enough_for goal o ≡ Some n → n ≤ length b.recorded
    → IsShown goal o b.model (take (due_among true (enough_for goal o) (length b.recorded)) b.recorded) false
some_by goals.Satisfy o n b s asked within = some_tally o.distinct (wanted o) n b s.law s.own_mode asked within
some_by (goals.Minimize t) o n b s asked within = absurd (cc asked)
some_by (goals.Maximize t) o n b s asked within = absurd (cc asked)

all_by : (goal : Goal) (o : Options) (b : Book) → IsSearched b.model (mode_for goal o) (enough_for goal o) b → shows_found goal o ≡ true → ((n : ℕ) → enough_for goal o ≡ Some n → length b.recorded < n)
    → IsShown goal o b.model (take (due_among true (enough_for goal o) (length b.recorded)) b.recorded) true
all_by goals.Satisfy o b s shows few = all_tally o.distinct (wanted o) b s few
all_by (goals.Minimize t) o b s shows few = (refl, best_tally b (shows_all o.generate o.all) s shows)
all_by (goals.Maximize t) o b s shows few = (refl, best_tally b (shows_all o.generate o.all) s shows)

some_are_shown : (o : Options) (n : ℕ) (b : Book) → IsSearched b.model (mode_for b.model.goal o) (enough_for b.model.goal o) b → enough_for b.model.goal o ≡ Some n → n ≤ length b.recorded → IsShown b.model.goal o b.model (first_shown o b) false
some_are_shown o n b s asked within = some_by b.model.goal o n b s asked within

all_are_shown : (o : Options) (b : Book) → IsSearched b.model (mode_for b.model.goal o) (enough_for b.model.goal o) b → shows_found b.model.goal o ≡ true → ((n : ℕ) → enough_for b.model.goal o ≡ Some n → length b.recorded < n)
    → IsShown b.model.goal o b.model (first_shown o b) true
all_are_shown o b s shows few = all_by b.model.goal o b s shows few

least : (w : Option ℕ) (n count : ℕ) → w ≡ Some n → n ≤ count → due_among true w count ≡ n
least w n count is h = ap (λ (v : Option ℕ). due_among true v count) is ∙ omega (arith, h)

whole : (w : Option ℕ) (count : ℕ) → ((n : ℕ) → w ≡ Some n → count < n) → due_among true w count ≡ count
whole None count few = refl
whole (Some n) count few = (let h = few n refl in omega (arith, h))

some_are_counted : (o : Options) (n : ℕ) (b : Book) → enough_for b.model.goal o ≡ Some n → n ≤ length b.recorded → length (first_shown o b) ≡ n
some_are_counted o n b asked within = due_count (enough_for b.model.goal o) b.recorded ∙ least (enough_for b.model.goal o) n (length b.recorded) asked within

all_are_counted : (o : Options) (b : Book) → ((n : ℕ) → enough_for b.model.goal o ≡ Some n → length b.recorded < n) → length (first_shown o b) ≡ length b.recorded
all_are_counted o b few = due_count (enough_for b.model.goal o) b.recorded ∙ whole (enough_for b.model.goal o) (length b.recorded) few

pub tally_shown : (o : Options) (b : Book) (w : Option ℕ) (recorded count : ℕ) (complete : Bool) → w ≡ enough_for b.model.goal o → recorded ≡ length b.recorded → IsTally w recorded count complete → IsSearched b.model (mode_for b.model.goal o) (enough_for b.model.goal o) b
    → shows_found b.model.goal o ≡ true → IsShown b.model.goal o b.model (first_shown o b) complete
tally_shown o b w recorded count true asked all h s shows = all_are_shown o b s shows (λ n is. (let few = h.1 n (asked ∙ is) in omega (arith, few, all)))
tally_shown o b (Some n) recorded count false asked all h s shows = some_are_shown o n b s (sym asked) (let within = h.0 in omega (arith, within, all))
tally_shown o b None recorded count false asked all h s shows = absurd h

pub tally_counted : (o : Options) (b : Book) (w : Option ℕ) (recorded count : ℕ) (complete : Bool) → w ≡ enough_for b.model.goal o → recorded ≡ length b.recorded → IsTally w recorded count complete → length (first_shown o b) ≡ count
tally_counted o b w recorded count true asked all h = all_are_counted o b (λ n is. (let few = h.1 n (asked ∙ is) in omega (arith, few, all))) ∙ sym all ∙ sym h.0
tally_counted o b (Some n) recorded count false asked all h = some_are_counted o n b (sym asked) (let within = h.0 in omega (arith, within, all)) ∙ sym h.1
tally_counted o b None recorded count false asked all h = absurd h
