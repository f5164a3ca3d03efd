-- Blocks of a book that are printed one after another.
use Rattle.std.proofs.Common.{◌≡◌, ◌∙◌, ◌≤◌, ◌+◌, ◌-◌, ◌⊎◌, inl, inr, ℕ, zero, suc, List, [], ◌∷◌, ◌++◌, length, take, drop, Option, Some, None, refl, sym, ap, subst, arith, Bool, true, false, append-nil, length-append}
use Rattle.std.specs.Prelude.{ℤ, slice_range}
use Rattle.std.specs.List.{AllByRecursion}
use Rattle.std.proofs.Math.Seq.{take-add}
use Rattle.std.proofs.lemmas.List.{take-append-le}
use Rattle.std.proofs.lemmas.List.Concat.{flat_map-append}
use Rattle.fz_spec.specs.Instance.{Instance, AreDeclared, Satisfies}
use Rattle.fz_spec.specs.Run.{block, blocks}
use Rattle.fz_tree.specs.Book.{Book}
use Rattle.fz_io.specs.Outside.{with_more, with_more-with_more, with_more-none}
use Rattle.fz_printer.specs.declared.printing.Stop.{Stop}
use Rattle.fz_printer.specs.Texts.{TakesFront}
use Rattle.fz_printer.proofs.Fronts.{front_after}
use Rattle.fz_printer.specs.declared.printer.Printer.{Printer}
use Rattle.fz_printer.specs.Printed.{due_among, due_of, IsBelow, IsReady, KeepsBook, KeepsPrinting, Took, Grew, HasPrinted, HasPrintedAt}

all_taken : (P : List ℤ → Type 0) (l : List (List ℤ)) (n : ℕ) → AllByRecursion P l → AllByRecursion P (take n l)
all_taken P l zero h = tt
all_taken P [] (suc n) h = tt
all_taken P (x ∷ l) (suc n) h = (h.0, all_taken P l n h.1)

all_dropped : (P : List ℤ → Type 0) (l : List (List ℤ)) (n : ℕ) → AllByRecursion P l → AllByRecursion P (drop n l)
all_dropped P l zero h = h
all_dropped P [] (suc n) h = tt
all_dropped P (x ∷ l) (suc n) h = all_dropped P l n h.1

declared : (m : Instance) (l : List (List ℤ)) → AllByRecursion (Satisfies m) l → AllByRecursion (AreDeclared m.variables) l
declared m [] h = tt
declared m (a ∷ l) h = (h.0.declared, declared m l h.1)

-- part of what satisfies is declared
pub declared_part : (m : Instance) (l : List (List ℤ)) (a b : ℕ) → AllByRecursion (Satisfies m) l → AllByRecursion (AreDeclared m.variables) (slice_range l a b)
declared_part m l a b h = declared m (slice_range l a b) (all_taken (Satisfies m) (drop a l) (b - a) (all_dropped (Satisfies m) l a h))

-- the first b are the first a and those from a to b
parted : (l : List (List ℤ)) (a b : ℕ) → a ≤ b → take b l ≡ take a l ++ slice_range l a b
parted l a b h = let e : b ≡ a + (b - a) = omega (arith, h) in ap (λ n. take n l) e ∙ take-add a (b - a) l

blocks_parted : (m : Instance) (l : List (List ℤ)) (a b : ℕ) → a ≤ b → blocks m (take b l) ≡ blocks m (take a l) ++ blocks m (slice_range l a b)
blocks_parted m l a b h = ap (blocks m) (parted l a b h) ∙ flat_map-append (block m) (take a l) (slice_range l a b)

-- no blocks are taken where none is due
pub none_taken : (m : Instance) (l : List (List ℤ)) (a : ℕ) (taken : Option (List ℕ)) → taken ≡ with_more taken (blocks m (slice_range l a a))
none_taken m l a taken =
    let e : a - a ≡ 0 = omega arith in
    sym (with_more-none taken) ∙ ap (λ n. with_more taken (blocks m (take n (drop a l)))) (sym e)

-- more than was due is due after an account
pub due_grows : (found : Bool) (wanted : Option ℕ) (m n : ℕ) → m ≤ n → due_among found wanted m ≤ due_among found wanted n
due_grows false wanted m n h = omega arith
due_grows true None m n h = h
due_grows true (Some k) m n h = omega (arith, h)

pub within_recorded : (found : Bool) (wanted : Option ℕ) (n : ℕ) → due_among found wanted n ≤ n
within_recorded false wanted n = omega arith
within_recorded true None n = omega arith
within_recorded true (Some k) n = omega arith

pub stays : (b new : Book) → new ≡ b → KeepsBook b new
stays b new is = record {
  model = ap (λ (x : Book). x.model) is;
  mode = ap (λ (x : Book). x.mode) is;
  added = [];
  recorded = ap (λ (x : Book). x.recorded) is ∙ sym (append-nil b.recorded);
}

-- ---- over several calls

first_stay : (m : Instance) (old new added : List (List ℤ)) (n : ℕ) → new ≡ old ++ added → n ≤ length old → blocks m (take n old) ≡ blocks m (take n new)
first_stay m old new added n is within = ap (blocks m) (sym (take-append-le n old added within) ∙ ap (take n) (sym is))

printed_by : (stopped : Option Stop) (old new : Printer) (before middle after : Option (List ℕ)) → Took stopped old new middle after → middle ≡ with_more before (blocks new.book.book.model (take old.printed new.book.book.recorded))
    → old.printed ≤ new.printed → old.printed ≤ due_of new → IsBelow new.wanted new.printed ⊎ (stopped ≡ None) → HasPrintedAt stopped new before after
printed_by None old new before middle after took was more due below =
    let m = new.book.book.model in
    let l = new.book.book.recorded in
    took ∙ ap (λ t. with_more t (blocks m (slice_range l old.printed new.printed))) was
    ∙ with_more-with_more before (blocks m (take old.printed l)) (blocks m (slice_range l old.printed new.printed)) ∙ ap (with_more before) (sym (blocks_parted m l old.printed new.printed more))
printed_by (Some stop) old new before middle after took was more due (inr none) = absurd (cc none)
printed_by (Some stop) old new before middle after took was more due (inl below) =
    let m = new.book.book.model in
    let l = new.book.book.recorded in
    elim took.1 [
      | inl same ↦ inl (same ∙ was ∙ ap (λ n. with_more before (blocks m (take n l))) (sym took.0), below)
      | inr front ↦ inr (subst (λ (u : List ℕ). TakesFront u before after) (sym (blocks_parted m l old.printed (due_of new) due))
          (front_after (blocks m (take old.printed l)) (blocks m (slice_range l old.printed (due_of new))) before after (subst (λ (t : Option (List ℕ)). TakesFront (blocks m (slice_range l old.printed (due_of new))) t after) was front)))
    ]

still_below : (stopped : Option Stop) (old new : Printer) (middle after : Option (List ℕ)) → Took stopped old new middle after → KeepsPrinting old new → IsBelow old.wanted old.printed → IsBelow new.wanted new.printed ⊎ (stopped ≡ None)
still_below None old new middle after took keeps below = inr refl
still_below (Some stop) old new middle after took keeps below =
    inl (subst (λ (w : Option ℕ). IsBelow w new.printed) (sym keeps.wanted) (subst (λ (n : ℕ). IsBelow old.wanted n) (sym took.0) below))

-- what was due stays so
pub still_due : (old new : Printer) → KeepsPrinting old new → KeepsBook old.book.book new.book.book → IsReady old → old.printed ≤ due_of new
still_due old new keeps book ready =
    let size : length new.book.book.recorded ≡ length old.book.book.recorded + length book.added = ap (λ (l : List (List ℤ)). length l) book.recorded ∙ length-append old.book.book.recorded book.added in
    let grows = due_grows old.as_found old.wanted (length old.book.book.recorded) (length new.book.book.recorded) (omega (arith, size)) in
    let same : due_among old.as_found old.wanted (length new.book.book.recorded) ≡ due_of new = λ i. due_among (sym keeps.as_found i) (sym keeps.wanted i) (length new.book.book.recorded) in
    omega (arith, ready, grows, same)

-- no more is printed than is due, where printing stopped too
pub within_due : (old new : Printer) (before after : Option (List ℕ)) → Grew old new before after → IsReady old → (new.stopped ≡ None → IsReady new) → new.printed ≤ due_of new
within_due old new before after g ready now = by new.stopped refl
  where
    by : (stopped : Option Stop) → new.stopped ≡ stopped → new.printed ≤ due_of new
    by None is = (let all = now is in omega (arith, all))
    by (Some stop) is =
        let same : new.printed ≡ old.printed = (subst (λ (s : Option Stop). Took s old new before after) is g.took).0 in
        let due = still_due old new g.keeps g.book ready in
        omega (arith, same, due)

-- what a printer has printed, after a call more
pub printed_on : (old new : Printer) (before middle after : Option (List ℕ)) → Grew old new middle after → old.stopped ≡ None → IsReady old → IsBelow old.wanted old.printed → HasPrinted old before middle → HasPrinted new before after
printed_on old new before middle after g none ready below was =
    let here : middle ≡ with_more before (blocks old.book.book.model (take old.printed old.book.book.recorded)) = subst (λ (s : Option Stop). HasPrintedAt s old before middle) none was in
    let few = within_recorded old.as_found old.wanted (length old.book.book.recorded) in
    let within : old.printed ≤ length old.book.book.recorded = omega (arith, few, ready) in
    let due : old.printed ≤ due_of new = still_due old new g.keeps g.book ready in
    let kept = first_stay old.book.book.model old.book.book.recorded new.book.book.recorded g.book.added old.printed g.book.recorded within in
    let there : middle ≡ with_more before (blocks new.book.book.model (take old.printed new.book.book.recorded)) =
    here ∙ ap (with_more before) kept ∙ ap (λ (m : Instance). with_more before (blocks m (take old.printed new.book.book.recorded))) (sym g.book.model) in
    printed_by new.stopped old new before middle after g.took there g.more due (still_below new.stopped old new middle after g.took g.keeps below)

stopped_by : (stopped : Option Stop) (p : Printer) (before after : Option (List ℕ)) → after ≡ with_more before (blocks p.book.book.model (take p.printed p.book.book.recorded)) → IsBelow p.wanted p.printed → HasPrintedAt stopped p before after
stopped_by None p before after is below = is
stopped_by (Some stop) p before after is below = inl (is, below)

-- a mark may be set where fewer are printed than are wanted
pub marked : (old new : Printer) (before middle after : Option (List ℕ)) → old.stopped ≡ None → new.book.book ≡ old.book.book → KeepsPrinting old new → new.printed ≡ old.printed → after ≡ middle → IsBelow old.wanted old.printed → HasPrinted old before middle → HasPrinted new before after
marked old new before middle after none book keeps printed same below was =
    let here : middle ≡ with_more before (blocks old.book.book.model (take old.printed old.book.book.recorded)) = subst (λ (s : Option Stop). HasPrintedAt s old before middle) none was in
    let there : after ≡ with_more before (blocks new.book.book.model (take new.printed new.book.book.recorded)) =
    same ∙ here ∙ ap (λ (b : Book). with_more before (blocks b.model (take old.printed b.recorded))) (sym book) ∙ ap (λ n. with_more before (blocks new.book.book.model (take n new.book.book.recorded))) (sym printed) in
    stopped_by new.stopped new before after there (subst (λ (w : Option ℕ). IsBelow w new.printed) (sym keeps.wanted) (subst (λ (n : ℕ). IsBelow old.wanted n) (sym printed) below))

-- ---- the calls, as the code says them

none_more : (old new : Printer) (taken : Option (List ℕ)) → new.printed ≡ old.printed → Took None old new taken taken
none_more old new taken printed =
    none_taken new.book.book.model new.book.book.recorded old.printed taken ∙ ap (λ n. with_more taken (blocks new.book.book.model (slice_range new.book.book.recorded old.printed n))) (sym printed)

-- nothing is printed, and printing goes on
pub unmoved : (old new : Printer) (taken : Option (List ℕ)) → new.book.book ≡ old.book.book → KeepsPrinting old new → new.printed ≡ old.printed → new.stopped ≡ None → Grew old new taken taken
unmoved old new taken book keeps printed none = record {
  keeps = keeps;
  book = stays old.book.book new.book.book book;
  more = omega (arith, printed);
  took = subst (λ (s : Option Stop). Took s old new taken taken) (sym none) (none_more old new taken printed);
}

-- nothing is printed, and printing stops
pub stopped_there : (old new : Printer) (stop : Stop) (taken : Option (List ℕ)) → new.book.book ≡ old.book.book → KeepsPrinting old new → new.printed ≡ old.printed → new.stopped ≡ Some stop → Grew old new taken taken
stopped_there old new stop taken book keeps printed is = record {
  keeps = keeps;
  book = stays old.book.book new.book.book book;
  more = omega (arith, printed);
  took = subst (λ (s : Option Stop). Took s old new taken taken) (sym is) (printed, inl refl);
}

-- all that is due is printed
pub printed_more : (old new : Printer) (before after : Option (List ℕ)) (m : Instance) (l : List (List ℤ)) → new.book.book ≡ old.book.book → KeepsPrinting old new → m ≡ new.book.book.model → l ≡ new.book.book.recorded → old.printed ≤ new.printed → new.stopped ≡ None
    → after ≡ with_more before (blocks m (slice_range l old.printed new.printed)) → Grew old new before after
printed_more old new before after m l book keeps model recorded more none is = record {
  keeps = keeps;
  book = stays old.book.book new.book.book book;
  more = more;
  took = subst (λ (s : Option Stop). Took s old new before after) (sym none) (is ∙ (λ i. with_more before (blocks (model i) (slice_range (recorded i) old.printed new.printed))));
}

-- those from the first that isn't printed on, as many as are due after it
pub printed_due : (old new : Printer) (before after : Option (List ℕ)) (m : Instance) (rest found : List (List ℤ)) (count : ℕ) → new.book.book ≡ old.book.book → KeepsPrinting old new → m ≡ old.book.book.model → rest ≡ drop old.printed old.book.book.recorded
    → found ≡ take (count - old.printed) rest → old.printed ≤ count → new.printed ≡ count → new.stopped ≡ None → after ≡ with_more before (blocks m found) → Grew old new before after
printed_due old new before after m rest found count book keeps model is_rest is_found more printed none is =
    let recorded : old.book.book.recorded ≡ new.book.book.recorded = ap (λ (b : Book). b.recorded) (sym book) in
    let same : found ≡ slice_range new.book.book.recorded old.printed new.printed =
    is_found ∙ ap (take (count - old.printed)) is_rest ∙ ap (λ (l : List (List ℤ)). slice_range l old.printed count) recorded ∙ ap (slice_range new.book.book.recorded old.printed) (sym printed) in
    printed_more old new before after m new.book.book.recorded book keeps (model ∙ ap (λ (b : Book). b.model) (sym book)) refl (omega (arith, more, printed)) none (is ∙ ap (λ (l : List (List ℤ)). with_more before (blocks m l)) same)
