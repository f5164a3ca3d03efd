-- What a search has printed when it was stopped: a prefix of the text of a whole run.
use Rattle.std.proofs.Common.{◌≡◌, ◌∙◌, ◌≤◌, ◌<◌, ◌⊎◌, inl, inr, ℕ, List, [], ◌++◌, length, take, Option, None, Some, Bool, true, false, refl, sym, ap, subst, arith, append_assoc, append-nil, length-append, length-take}
use Rattle.std.specs.Prelude.{ℤ}
use Rattle.fz_spec.specs.Instance.{Instance}
use Rattle.fz_spec.specs.Run.{blocks}
use Rattle.fz_spec.specs.declared.goal.Goal.{Goal}
use Rattle.fz_spec.specs.declared.goal.Goal.TheVariants.{Satisfy, Minimize, Maximize}
use Rattle.fz_language.specs.Reads.{Reads, Accepted}
use Rattle.fz_model.specs.Kept.{IsModel}
use Rattle.fz_cmd.specs.Meaning.{Options}
use Rattle.fz_tree.specs.Book.{Book, BookLaw}
use Rattle.fz_runs.specs.Runs.{IsRunText, wanted}
use Rattle.fz_runs.specs.Modes.{mode_for}
use Rattle.fz_io.specs.Outside.{with_more}
use Rattle.fzn.specs.Begun.{AreBegun, IsShort, IsWithin}
use Rattle.fzn.specs.Begun as begun
use Rattle.fzn.proofs.BegunEndings.{can_end}
use Rattle.fzn.proofs.Recorded.{are_found, are_bettered}
use Rattle.fz_printer.specs.declared.printing.Stop.{Stop}
use Rattle.fz_printer.specs.Texts.{TakesFront}
use Rattle.fz_printer.specs.declared.printer.Printer.{Printer}
use Rattle.fz_printer.specs.Printed.{as_found_of, book_of, due_among, due_of, printed_of, stopped_of, wanted_of, HasPrintedAt}
use Rattle.fz_printer.specs.Printed as printed
use Rattle.fz_search.specs.Searched.{enough_for, shows_all, shows_found, IsPrinted, PrintsAsAsked}
use Rattle.fzn.specs.declared.status.Status.{Status}
use Rattle.fzn.specs.declared.status.Status.TheVariants.{SinkFault, NoMemory}
use Rattle.fzn.specs.Promises.{IsStrictFront}
use Rattle.fzn.specs.Steps.{AskForWhole, Flushes, PrintsModel, PrintsOf}
use Rattle.fzn.proofs.Outcomes.{at_status, run_of}

-- where all better ones are shown of a model with a goal, they are asked for, and the model is read
pub asks_all : (generate : Option ℕ) (all : Bool) → shows_all generate all ≡ true → (all ≡ true) × (generate ≡ None)
asks_all None all shows = (shows, refl)
asks_all (Some items) all shows = absurd (cc shows)

-- ---- those that are printed first

few_enough : (found : Bool) (w : Option ℕ) (count n : ℕ) → n ≤ due_among found w count → IsWithin w n
few_enough found None count n h = tt
few_enough false (Some k) count n h = omega (arith, h)
few_enough true (Some k) count n h = omega (arith, h)

begun_by : (goal : Goal) (o : Options) (b : Book) (n : ℕ) → BookLaw b → b.mode ≡ mode_for goal o → shows_found goal o ≡ true → IsWithin (enough_for goal o) n → AreBegun goal o b.model (take n b.recorded)
begun_by Satisfy o b n law mode shows within = are_found o.distinct (wanted o) b n law mode within
begun_by (Minimize t) o b n law mode shows within = let asks = asks_all o.generate o.all shows in are_bettered o b n law mode asks.0 asks.1
begun_by (Maximize t) o b n law mode shows within = let asks = asks_all o.generate o.all shows in are_bettered o b n law mode asks.0 asks.1

below : (w : Option ℕ) (n k : ℕ) → printed.IsBelow w n → k ≤ n → begun.IsBelow w k
below None n k h less = tt
below (Some m) n k h less = omega (arith, h, less)

short_by : (goal : Goal) (o : Options) (n k : ℕ) → printed.IsBelow (enough_for goal o) n → k ≤ n → IsShort goal o k
short_by Satisfy o n k h less = below (wanted o) n k h less
short_by (Minimize t) o n k h less = tt
short_by (Maximize t) o n k h less = tt

-- ---- prefixes of blocks

-- blocks that a run may begin with, or a prefix of them; whole ones where fewer are shown than are asked for
pub record IsBegunText (o : Options) (m : Instance) (printed : List ℕ) : Type 0 where
  pub listed : List (List ℤ)
  pub begun : AreBegun m.goal o m listed
  pub more : List ℕ
  pub text : blocks m listed ≡ printed ++ more
  pub short : (0 < length more) ⊎ IsShort m.goal o (length listed)

-- what the sink took of a search that stopped: nothing, or such a prefix
abbrev pub StopsShort : Options → Instance → Option (List ℕ) → Option (List ℕ) → Type 0
StopsShort o m before after = (printed : List ℕ) × (after ≡ with_more before printed) × ((printed ≡ []) ⊎ IsBegunText o m printed)

whole_blocks : (o : Options) (m : Instance) (l : List (List ℤ)) (before after : Option (List ℕ)) → AreBegun m.goal o m l → IsShort m.goal o (length l) → after ≡ with_more before (blocks m l) → StopsShort o m before after
whole_blocks o m l before after begun short taken = (blocks m l, taken, inr (record { listed = l; begun = begun; more = []; text = sym (append-nil (blocks m l)); short = inr short }))

front_of_blocks : (o : Options) (m : Instance) (l : List (List ℤ)) (before after : Option (List ℕ)) → AreBegun m.goal o m l → TakesFront (blocks m l) before after → StopsShort o m before after
front_of_blocks o m l before after begun f = (f.printed, f.taken, inr (record { listed = l; begun = begun; more = f.more; text = f.front; short = inl f.some }))

-- ---- a printer that was stopped

-- what is known of one that prints solutions as they are found
record AsFound (o : Options) (p : Printer) : Type 0 where
  mode : (book_of p).mode ≡ mode_for (book_of p).model.goal o
  law : BookLaw (book_of p)
  shows : shows_found (book_of p).model.goal o ≡ true
  wants : wanted_of p ≡ enough_for (book_of p).model.goal o
  within : printed_of p ≤ due_of p

first_begun : (o : Options) (p : Printer) (n : ℕ) → AsFound o p → n ≤ due_of p → AreBegun (book_of p).model.goal o (book_of p).model (take n (book_of p).recorded)
first_begun o p n a few =
    let b = book_of p in
    begun_by b.model.goal o b n a.law a.mode a.shows (subst (λ (w : Option ℕ). IsWithin w n) a.wants (few_enough (as_found_of p) (wanted_of p) (length b.recorded) n few))

found_stopped : (o : Options) (p : Printer) (stop : Stop) (before after : Option (List ℕ)) → AsFound o p → HasPrintedAt (Some stop) p before after → StopsShort o (book_of p).model before after
found_stopped o p stop before after a h =
    let b = book_of p in
    elim h [
      | inl whole ↦
          let size = length-take (printed_of p) b.recorded in
          let fewer : length (take (printed_of p) b.recorded) ≤ printed_of p = omega (arith, size) in
          let short = short_by b.model.goal o (printed_of p) (length (take (printed_of p) b.recorded)) (subst (λ (w : Option ℕ). printed.IsBelow w (printed_of p)) a.wants whole.1) fewer in
          whole_blocks o b.model (take (printed_of p) b.recorded) before after (first_begun o p (printed_of p) a a.within) short whole.0
      | inr front ↦ front_of_blocks o b.model (take (due_of p) b.recorded) before after (first_begun o p (due_of p) a (omega arith)) front
    ]

-- where nothing is printed on the way
nothing : (o : Options) (m : Instance) (before after : Option (List ℕ)) → after ≡ with_more before [] → StopsShort o m before after
nothing o m before after taken = ([], taken, inl refl)

none_of_none : (before after : Option (List ℕ)) → TakesFront [] before after → ⊥
none_of_none before after f = omega (arith, ap (λ (u : List ℕ). length u) f.front, length-append f.printed f.more, f.some)

unfound_stopped : (o : Options) (p : Printer) (stop : Stop) (before after : Option (List ℕ)) → as_found_of p ≡ false → printed_of p ≤ due_of p → HasPrintedAt (Some stop) p before after → StopsShort o (book_of p).model before after
unfound_stopped o p stop before after unfound within h =
    let b = book_of p in
    let none : due_of p ≡ 0 = ap (λ f. due_among f (wanted_of p) (length b.recorded)) unfound in
    let zero : printed_of p ≡ 0 = omega (arith, none, within) in
    elim h [
      | inl whole ↦ nothing o b.model before after (whole.0 ∙ ap (λ n. with_more before (blocks b.model (take n b.recorded))) zero)
      | inr front ↦ absurd (none_of_none before after (subst (λ n. TakesFront (blocks b.model (take n b.recorded)) before after) none front))
    ]

by_asked : (found : Bool) (o : Options) (p : Printer) (stop : Stop) (before after : Option (List ℕ)) → as_found_of p ≡ found → (book_of p).mode ≡ mode_for (book_of p).model.goal o → BookLaw (book_of p) → PrintsAsAsked (book_of p).model o p → printed_of p ≤ due_of p
    → HasPrintedAt (Some stop) p before after → StopsShort o (book_of p).model before after
by_asked false o p stop before after is mode law asked within h = unfound_stopped o p stop before after is within h
by_asked true o p stop before after is mode law asked within h =
    elim asked [
      | inl not ↦ absurd (cc (is, not))
      | inr shown ↦ found_stopped o p stop before after (record { mode = mode; law = law; shows = sym shown.0 ∙ is; wants = shown.1; within = within }) h
    ]

-- what the sink took, of a search that was stopped
pub stopped_begun : (m : Instance) (o : Options) (p : Printer) (stop : Stop) (before after : Option (List ℕ)) → IsPrinted m o p before after → stopped_of p ≡ Some stop → StopsShort o m before after
stopped_begun m o p stop before after h is =
    subst (λ (x : Instance). StopsShort o x before after) h.model
    (by_asked (as_found_of p) o p stop before after refl (subst (λ (x : Instance). (book_of p).mode ≡ mode_for x.goal o) (sym h.model) h.mode) h.law (subst (λ (x : Instance). PrintsAsAsked x o p) (sym h.model) h.prints) h.within
    (subst (λ (s : Option Stop). HasPrintedAt s p before after) is h.printed))

-- ---- and so of a whole run

of_begun : (text printed : List ℕ) (o : Options) (m : Instance) → AskForWhole o → Reads text (Accepted m) → IsModel m → IsBegunText o m printed → IsStrictFront text o printed
of_begun text printed o m asked reads kept b =
    let e = can_end o m b.listed kept b.begun in
    let same : blocks m b.listed ++ e.more ≡ printed ++ (b.more ++ e.more) = ap (λ u. u ++ e.more) b.text ∙ append_assoc printed b.more e.more in
    let run = subst (λ (u : List ℕ). IsRunText m o e.listed u) same e.run in
    let size = length-append b.more e.more in
    let some : 0 < length (b.more ++ e.more) = elim b.short [ inl more ↦ omega (arith, more, size) | inr short ↦ (let last = e.some short in omega (arith, last, size)) ] in
    inr (b.more ++ e.more, some, inl (run_of text (printed ++ (b.more ++ e.more)) m o e.listed asked reads run))

-- it is a prefix that lacks something
pub stopped_short : (m : Instance) (o : Options) (p : Printer) (stop : Stop) (before after : Option (List ℕ)) → AskForWhole o → IsModel m → IsPrinted m o p before after → stopped_of p ≡ Some stop → PrintsModel NoMemory m o before after
stopped_short m o p stop before after asked kept h is text reads =
    let s = stopped_begun m o p stop before after h is in (s.0, s.1, elim s.2 [ inl none ↦ inl none | inr begun ↦ of_begun text s.0 o m asked reads kept begun ])

-- and so it is a prefix, where the sink failed
fault_of_short : (text : List ℕ) (o : Options) (before after : Option (List ℕ)) → PrintsOf NoMemory text o before after → PrintsOf SinkFault text o before after
fault_of_short text o before after p = (p.0, p.1, elim p.2 [ inl none ↦ inl none | inr more ↦ inr (more.0, more.2) ])

pub stopped_fault : (m : Instance) (o : Options) (p : Printer) (stop : Stop) (before after : Option (List ℕ)) → AskForWhole o → IsModel m → IsPrinted m o p before after → stopped_of p ≡ Some stop → PrintsModel SinkFault m o before after
stopped_fault m o p stop before after asked kept h is text reads = fault_of_short text o before after (stopped_short m o p stop before after asked kept h is text reads)

-- what was printed before memory was refused is flushed
pub stopped_flushed : (s : Status) (m : Instance) (o : Options) (p : Printer) (stop : Stop) (before middle after : Option (List ℕ)) (flushed c d : ℕ) → AskForWhole o → IsModel m → IsPrinted m o p before middle → stopped_of p ≡ Some stop → after ≡ middle
    → Flushes NoMemory s after flushed c d → PrintsModel s m o before after
stopped_flushed s m o p stop before middle after flushed c d asked kept h is same cases text reads =
    let short : PrintsOf NoMemory text o before after = subst (λ (t : Option (List ℕ)). PrintsOf NoMemory text o before t) (sym same) (stopped_short m o p stop before middle asked kept h is text reads) in
    elim cases [ inl refused ↦ at_status s NoMemory text o before after refused.0 short | inr fault ↦ at_status s SinkFault text o before after fault.0 (fault_of_short text o before after short) ]
