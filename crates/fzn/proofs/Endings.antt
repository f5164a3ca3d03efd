-- What is printed of a search that has ended.
use Rattle.std.proofs.Common.{◌≡◌, ◌≢◌, ◌∙◌, ◌≤◌, ◌-◌, arith, inl, inr, ℕ, List, [], ◌∷◌, ◌++◌, length, take, Option, None, Some, Bool, true, false, refl, sym, ap, subst, append_assoc}
use Rattle.std.specs.Prelude.{ℤ, slice_get}
use Rattle.fz_spec.specs.Instance.{Instance}
use Rattle.fz_spec.specs.Run.{blocks}
use Rattle.fz_spec.specs.declared.goal.Goal.{Goal}
use Rattle.fz_spec.specs.declared.goal.Goal.TheVariants.{Satisfy, Minimize, Maximize}
use Rattle.fz_spec.specs.declared.term.Term.{Term}
use Rattle.fz_cmd.specs.Meaning.{Options}
use Rattle.fz_print.specs.Ending.{statistics_text}
use Rattle.fz_model.specs.Kept.{IsModel}
use Rattle.fz_tree.specs.declared.mode.Mode.{Mode}
use Rattle.fz_tree.specs.declared.mode.Mode.TheVariants as modes
use Rattle.fz_tree.specs.Better.{IsModeOf}
use Rattle.fz_tree.specs.Book.{Book, BookLaw, incumbent, incumbent_of}
use Rattle.fz_runs.specs.Runs.{IsCertificate, IsRunText, certified, counted}
use Rattle.fz_runs.specs.Modes.{mode_for}
use Rattle.fzn.specs.Begun.{IsCertifiable}
use Rattle.fzn.proofs.Certifying.{certifiable, certificate_exists}
use Rattle.fz_io.specs.Outside.{with_more, with_more-none, with_more-with_more}
use Rattle.fz_printer.specs.declared.printing.Stop.{Stop}
use Rattle.fz_printer.specs.Texts.{TakesFront, best_text, end_text, ending, listing_text, run_text, shown_text}
use Rattle.fz_printer.proofs.Fronts.{front_after, front_more}
use Rattle.fz_maker.specs.Taken.{TakesOne, TakesFrontOfOne}
use Rattle.fz_printer.specs.declared.printer.Printer.{Printer}
use Rattle.fz_printer.specs.Printed.{as_found_of, book_of, due_among, due_of, printed_of, stopped_of, wanted_of, HasPrinted, HasPrintedAt}
use Rattle.fz_search.specs.Searched.{enough_for, first_shown, shows_found, HasEnded, IsPrinted, IsShown, PrintsAsAsked}
use Rattle.fz_search.proofs.Searches.{all_due}
use Rattle.fzn.specs.declared.status.Status.{Status}
use Rattle.fzn.specs.declared.status.Status.TheVariants.{Done, SinkFault, NoMemory}
use Rattle.fzn.specs.Steps.{AskForWhole, Flushes, IsEnded, PrintsModel, ShowsFront, ShowsWhole, certified_after}
use Rattle.fzn.proofs.Outcomes.{prints_front, prints_whole}
use Rattle.fzn.proofs.Printed.{shown_prints}
use Rattle.fzn.proofs.Stops.{asks_all}

-- ---- what a search leaves, as the code says it

-- a search has ended where it wasn't stopped
pub ended : (m : Instance) (o : Options) (p : Printer) (before after : Option (List ℕ)) → IsPrinted m o p before after → stopped_of p ≡ None → IsEnded o p
ended m o p before after h none = record {
  searched = record { model = refl; own_mode = subst (λ (x : Instance). (book_of p).mode ≡ mode_for x.goal o) (sym h.model) h.mode; law = h.law; ended = subst (λ (x : Instance). HasEnded (enough_for x.goal o) (book_of p)) (sym h.model) (h.ended none) };
  prints = subst (λ (x : Instance). PrintsAsAsked x o p) (sym h.model) h.prints;
  stopped = none;
  ready = h.ready none;
}

printed_whole : (o : Options) (p : Printer) (before middle : Option (List ℕ)) → IsEnded o p → HasPrinted p before middle → middle ≡ with_more before (blocks (book_of p).model (take (due_of p) (book_of p).recorded))
printed_whole o p before middle e h =
    let b = book_of p in
    let was : middle ≡ with_more before (blocks b.model (take (printed_of p) b.recorded)) = subst (λ (s : Option Stop). HasPrintedAt s p before middle) e.stopped h in
    was ∙ ap (λ n. with_more before (blocks b.model (take n b.recorded))) e.ready

-- ---- where solutions were printed as they were found

pub best_listed : (generate : Option ℕ) (t : Term) (m : Instance) (l : List (List ℤ)) (complete : Bool) → generate ≡ None → best_text generate t m l complete ≡ listing_text m l complete
best_listed None t m l complete read = refl
best_listed (Some items) t m l complete read = absurd (cc read)

found_listed : (goal : Goal) (o : Options) (m : Instance) (l : List (List ℤ)) (complete : Bool) → shows_found goal o ≡ true → shown_text goal o.generate m l complete ≡ listing_text m l complete
found_listed Satisfy o m l complete shows = refl
found_listed (Minimize t) o m l complete shows = best_listed o.generate t m l complete (asks_all o.generate o.all shows).1
found_listed (Maximize t) o m l complete shows = best_listed o.generate t m l complete (asks_all o.generate o.all shows).1

-- the text of the run is the blocks, and what stands after them
run_parted : (o : Options) (m : Instance) (l : List (List ℤ)) (complete : Bool) → shows_found m.goal o ≡ true → run_text o m l complete ≡ blocks m l ++ end_text o l complete
run_parted o m l complete shows =
    let behind = statistics_text (counted o.stats l) in ap (λ u. u ++ behind) (found_listed m.goal o m l complete shows) ∙ append_assoc (blocks m l) (ending complete l) behind

-- what is listed of the book
abbrev pub IsFirst : Options → Printer → List (List ℤ) → Type 0
IsFirst o p l = shows_found (book_of p).model.goal o ≡ true → l ≡ take (due_among true (enough_for (book_of p).model.goal o) (length (book_of p).recorded)) (book_of p).recorded

-- what is listed is printed, and the text of the run is that and what stands after it
pub record Listed (o : Options) (p : Printer) (l : List (List ℤ)) (complete : Bool) (before middle : Option (List ℕ)) : Type 0 where
  pub printed : middle ≡ with_more before (blocks (book_of p).model l)
  pub parted : run_text o (book_of p).model l complete ≡ blocks (book_of p).model l ++ end_text o l complete

pub listed : (o : Options) (p : Printer) (l : List (List ℤ)) (complete : Bool) (before middle : Option (List ℕ)) → IsEnded o p → as_found_of p ≡ true → IsFirst o p l → HasPrinted p before middle → Listed o p l complete before middle
listed o p l complete before middle e is first h =
    let b = book_of p in
    elim e.prints [
      | inl not ↦ absurd (cc (is, not))
      | inr shown ↦
          let shows : shows_found b.model.goal o ≡ true = sym shown.0 ∙ is in
          let due : due_of p ≡ due_among true (enough_for b.model.goal o) (length b.recorded) = λ i. due_among (is i) (shown.1 i) (length b.recorded) in
          record {
            printed = printed_whole o p before middle e h ∙ ap (λ n. with_more before (blocks b.model (take n b.recorded))) due ∙ ap (λ (k : List (List ℤ)). with_more before (blocks b.model k)) (sym (first shows));
            parted = run_parted o b.model l complete shows;
          }
    ]

-- the blocks and what stands after them
pub whole_behind : (o : Options) (p : Printer) (l : List (List ℤ)) (complete : Bool) (before middle after : Option (List ℕ)) → IsEnded o p → as_found_of p ≡ true → IsFirst o p l → HasPrinted p before middle
    → after ≡ with_more middle (end_text o l complete) → after ≡ with_more before (run_text o (book_of p).model l complete)
whole_behind o p l complete before middle after e is first h taken =
    let k = listed o p l complete before middle e is first h in
    taken ∙ ap (λ (t : Option (List ℕ)). with_more t (end_text o l complete)) k.printed ∙ with_more-with_more before (blocks (book_of p).model l) (end_text o l complete) ∙ ap (with_more before) (sym k.parted)

-- and a prefix of that
pub front_behind : (o : Options) (p : Printer) (l : List (List ℤ)) (complete : Bool) (before middle after : Option (List ℕ)) → IsEnded o p → as_found_of p ≡ true → IsFirst o p l → HasPrinted p before middle
    → TakesFront (end_text o l complete) middle after → TakesFront (run_text o (book_of p).model l complete) before after
front_behind o p l complete before middle after e is first h front =
    let k = listed o p l complete before middle e is first h in
    subst (λ (u : List ℕ). TakesFront u before after) (sym k.parted)
    (front_after (blocks (book_of p).model l) (end_text o l complete) before after (subst (λ (t : Option (List ℕ)). TakesFront (end_text o l complete) t after) k.printed front))

-- ---- where nothing was printed on the way

pub untaken : (o : Options) (p : Printer) (before middle : Option (List ℕ)) → IsEnded o p → as_found_of p ≡ false → HasPrinted p before middle → middle ≡ before
untaken o p before middle e not h =
    let b = book_of p in
    let none : due_of p ≡ 0 = ap (λ f. due_among f (wanted_of p) (length b.recorded)) not in
    printed_whole o p before middle e h ∙ ap (λ n. with_more before (blocks b.model (take n b.recorded))) none ∙ with_more-none before

-- ---- the certificate after it

run_is : (m : Instance) (o : Options) (l : List (List ℤ)) (complete : Bool) (text : List ℕ) → IsShown m.goal o m l complete → IsCertificate m (certified o.certificate m.goal l) text → IsRunText m o l (run_text o m l complete ++ text)
run_is m o l complete text shown certifies =
    record { shown = shown_text m.goal o.generate m l complete; prints = shown_prints m.goal m o l complete shown; certificate = text; certifies = certifies; text = refl }

pub shown_certifiable : (m : Instance) (o : Options) (l : List (List ℤ)) (complete : Bool) → IsShown m.goal o m l complete → IsCertifiable m (certified o.certificate m.goal l)
shown_certifiable m o l complete shown = certifiable m o l (shown_text m.goal o.generate m l complete) (shown_prints m.goal m o l complete shown)

-- before it
pub cut_short : (m : Instance) (o : Options) (l : List (List ℤ)) (complete : Bool) (before after : Option (List ℕ)) → IsModel m → IsShown m.goal o m l complete → TakesFront (run_text o m l complete) before after → ShowsFront m o before after
cut_short m o l complete before after is shown front =
    let c = certificate_exists m (certified o.certificate m.goal l) is (shown_certifiable m o l complete shown) in
    (l, record { text = run_text o m l complete ++ c.0; is = run_is m o l complete c.0 shown c.1; front = front_more (run_text o m l complete) c.0 before after front })

-- within it
pub cut_within : (m : Instance) (o : Options) (l : List (List ℤ)) (complete : Bool) (head : Option (Option (List ℤ))) (before middle after : Option (List ℕ)) → head ≡ certified o.certificate m.goal l → IsShown m.goal o m l complete
    → middle ≡ with_more before (run_text o m l complete) → TakesFrontOfOne (IsCertificate m head) middle after → ShowsFront m o before after
cut_within m o l complete head before middle after is shown taken one = (
  l,
  record {
    text = run_text o m l complete ++ one.text;
    is = run_is m o l complete one.text shown (subst (λ (h : Option (Option (List ℤ))). IsCertificate m h one.text) is one.is);
    front = front_after (run_text o m l complete) one.text before after (subst (λ (t : Option (List ℕ)). TakesFront one.text t after) taken one.front);
  },
)

-- with it
pub whole_run : (m : Instance) (o : Options) (l : List (List ℤ)) (complete : Bool) (head : Option (Option (List ℤ))) (before middle after : Option (List ℕ)) → head ≡ certified o.certificate m.goal l → IsShown m.goal o m l complete
    → middle ≡ with_more before (run_text o m l complete) → TakesOne (IsCertificate m head) middle after → ShowsWhole m o before after
whole_run m o l complete head before middle after is shown taken one = (
  l,
  record {
    text = run_text o m l complete ++ one.text;
    is = run_is m o l complete one.text shown (subst (λ (h : Option (Option (List ℤ))). IsCertificate m h one.text) is one.is);
    taken = one.taken ∙ ap (λ (t : Option (List ℕ)). with_more t one.text) taken ∙ with_more-with_more before (run_text o m l complete) one.text;
  },
)

-- what is certified is so of what is listed
pub certified_by_count : (asked : Bool) (goal : Goal) (l : List (List ℤ)) (n : ℕ) (last : Option (List ℤ)) → length l ≡ n → (goal ≢ Satisfy → last ≡ slice_get l (length l - 1)) → certified_after asked goal n last ≡ certified asked goal l
certified_by_count false goal l n last count is = refl
certified_by_count true Satisfy [] n last count is = rw (← count) refl
certified_by_count true Satisfy (a ∷ l) n last count is = rw (← count) refl
certified_by_count true (Minimize t) l n last count is = ap Some (is (λ e. cc e))
certified_by_count true (Maximize t) l n last count is = ap Some (is (λ e. cc e))

last_by : (goal : Goal) (o : Options) (mode : Mode) (l : List (List ℤ)) → IsModeOf goal mode → goal ≢ Satisfy
    → incumbent_of mode l ≡ slice_get (take (due_among true (enough_for goal o) (length l)) l) (length (take (due_among true (enough_for goal o) (length l)) l) - 1)
last_by Satisfy o mode l is other = absurd (other refl)
last_by (Minimize t) o modes.Best l is other = ap (λ (k : List (List ℤ)). slice_get k (length k - 1)) (all_due l)
last_by (Minimize t) o modes.All l is other = absurd (cc is)
last_by (Minimize t) o modes.Rows l is other = absurd (cc is)
last_by (Maximize t) o modes.Best l is other = ap (λ (k : List (List ℤ)). slice_get k (length k - 1)) (all_due l)
last_by (Maximize t) o modes.All l is other = absurd (cc is)
last_by (Maximize t) o modes.Rows l is other = absurd (cc is)

-- the last of those that are shown as they are recorded is the best so far
pub last_shown : (o : Options) (b : Book) → BookLaw b → b.model.goal ≢ Satisfy → incumbent b ≡ slice_get (first_shown o b) (length (first_shown o b) - 1)
last_shown o b law other = last_by b.model.goal o b.mode b.recorded law.own_mode other

pub head_found : (o : Options) (p : Printer) (b : Book) (m : Instance) (goal : Goal) (count : ℕ) (last : Option (List ℤ)) (head : Option (Option (List ℤ))) → b ≡ book_of p → m ≡ b.model → goal ≡ m.goal → BookLaw b
    → length (first_shown o b) ≡ count → last ≡ incumbent b → head ≡ certified_after o.certificate goal count last → head ≡ certified o.certificate (book_of p).model.goal (first_shown o (book_of p))
head_found o p b m goal count last head same of is law counted best made =
    let own : goal ≡ b.model.goal = is ∙ ap (λ (x : Instance). x.goal) of in
    subst (λ (x : Book). head ≡ certified o.certificate x.model.goal (first_shown o x)) same
    (made ∙ ap (λ (g : Goal). certified_after o.certificate g count last) own ∙ certified_by_count o.certificate b.model.goal (first_shown o b) count last counted (λ other. best ∙ last_shown o b law other))

pub head_listed : (o : Options) (p : Printer) (b : Book) (m : Instance) (goal : Goal) (l : List (List ℤ)) (last : Option (List ℤ)) (head : Option (Option (List ℤ))) → b ≡ book_of p → m ≡ b.model → goal ≡ m.goal
    → last ≡ slice_get l (length l - 1) → head ≡ certified_after o.certificate goal (length l) last → head ≡ certified o.certificate (book_of p).model.goal l
head_listed o p b m goal l last head same of is best made =
    let own : goal ≡ (book_of p).model.goal = is ∙ ap (λ (x : Instance). x.goal) of ∙ ap (λ (x : Book). x.model.goal) same in
    made ∙ ap (λ (g : Goal). certified_after o.certificate g (length l) last) own ∙ certified_by_count o.certificate (book_of p).model.goal l (length l) last refl (λ other. best)

-- ---- and what is answered

pub concluded : (s : Status) (m : Instance) (o : Options) (before middle after : Option (List ℕ)) (flushed c d : ℕ) → AskForWhole o → ShowsWhole m o before middle → after ≡ middle → Flushes Done s after flushed c d → PrintsModel s m o before after
concluded s m o before middle after flushed c d asked h same cases text reads =
    prints_whole s text m o before after asked reads (subst (λ (t : Option (List ℕ)). ShowsWhole m o before t) (sym same) h) (elim cases [ inl done ↦ inl done.0 | inr fault ↦ inr fault.0 ])

pub refused : (s : Status) (m : Instance) (o : Options) (before middle after : Option (List ℕ)) (flushed c d : ℕ) → AskForWhole o → ShowsFront m o before middle → after ≡ middle → Flushes NoMemory s after flushed c d → PrintsModel s m o before after
refused s m o before middle after flushed c d asked h same cases text reads =
    prints_front s text m o before after asked reads (subst (λ (t : Option (List ℕ)). ShowsFront m o before t) (sym same) h) (elim cases [ inl short ↦ inr short.0 | inr fault ↦ inl fault.0 ])

pub failed : (m : Instance) (o : Options) (before after : Option (List ℕ)) → AskForWhole o → ShowsFront m o before after → PrintsModel SinkFault m o before after
failed m o before after asked h text reads = prints_front SinkFault text m o before after asked reads h (inl refl)

-- ---- what is gone is printed

pub none_gone : (o : Options) (p : Printer) (gone : ℕ) → IsEnded o p → as_found_of p ≡ false → gone ≤ printed_of p → gone ≡ 0
none_gone o p gone e not within =
    let none : due_of p ≡ 0 = ap (λ f. due_among f (wanted_of p) (length (book_of p).recorded)) not in
    let ready = e.ready in
    omega (arith, none, ready, within)

-- each that is recorded is shown where solutions are printed as they are found
pub all_shown : (o : Options) (p : Printer) → IsEnded o p → as_found_of p ≡ true → shows_found (book_of p).model.goal o ≡ true
all_shown o p e is = elim e.prints [
  | inl not ↦ absurd (cc (is, not))
  | inr shown ↦ sym shown.0 ∙ is
]
