-- What is printed of what workers tell, call by call.
use Rattle.std.proofs.Common.{◌≡◌, ◌∙◌, ◌≤◌, ◌<◌, ◌^◌, ◌-◌, ◌⊎◌, inl, inr, ℕ, List, length, true, Option, Some, None, is_some, refl, sym, ap, subst, arith}
use Rattle.std.proofs.lemmas.Bool.{cases_lt}
use Rattle.fz_tree.specs.Book.{Book}
use Rattle.fz_printer.specs.declared.printing.Stop.{Stop}
use Rattle.fz_printer.specs.declared.printer.Printer.{Printer}
use Rattle.fz_printer.specs.Printed.{book_of, wanted_of, as_found_of, printed_of, stopped_of, due_among, due_of, CountsMark, Grew, IsBelow, IsReady, KeepsPrinting}
use Rattle.fz_printer.specs.Gathered.{Gathers, HasEnough, IsFilled, IsFilledFor, IsWorking}
use Rattle.fz_printer.specs.Gatherings.{same_count}
use Rattle.fz_printer.proofs.PrintLaws.{printed_on, marked, within_due, within_recorded}

below_of : (wanted : Option ℕ) (printed count : ℕ) → (IsFilledFor wanted count → ⊥) → printed ≤ count → IsBelow wanted printed
below_of None printed count not few = tt
below_of (Some n) printed count not few = cases (cases_lt printed n)
  where
    cases : (printed < n) ⊎ (n ≤ printed) → printed < n
    cases (inl less) = less
    cases (inr many) = absurd (not (omega (arith, many, few)))

-- fewer are printed than are wanted, where more are wanted than are recorded
pub is_below : (p : Printer) → IsReady p → (IsFilled p → ⊥) → IsBelow (wanted_of p) (printed_of p)
is_below p ready not = below_of (wanted_of p) (printed_of p) (length (book_of p).recorded) not
    (let few = within_recorded (as_found_of p) (wanted_of p) (length (book_of p).recorded) in omega (arith, few, ready))

due_kept : (p new : Printer) → KeepsPrinting p new → book_of new ≡ book_of p → due_of p ≡ due_of new
due_kept p new keeps book = λ i. due_among (sym keeps.as_found i) (sym keeps.wanted i) (length (sym book i).recorded)

pub still_within : (p new : Printer) → KeepsPrinting p new → book_of new ≡ book_of p → printed_of new ≡ printed_of p → printed_of p ≤ due_of p → printed_of new ≤ due_of new
still_within p new keeps book printed within = (let due = due_kept p new keeps book in omega (arith, due, printed, within))

pub ready_kept : (p new : Printer) → IsReady p → KeepsPrinting p new → book_of new ≡ book_of p → printed_of new ≡ printed_of p → IsReady new
ready_kept p new ready keeps book printed =
    printed ∙ ready ∙ (λ i. due_among (sym keeps.as_found i) (sym keeps.wanted i) (length (sym book i).recorded))

-- the printer takes what it is told
pub gathers_told : (p new : Printer) (taken after : Option (List ℕ)) (n k : ℕ) → stopped_of p ≡ None → IsReady p → (IsFilled p → ⊥) → Grew p new taken after → (stopped_of new ≡ None → IsReady new) → CountsMark n k (stopped_of new) → Gathers p taken n new after k
gathers_told p new taken after n k none ready more grew now cause = record {
  keeps = grew.keeps;
  model = grew.book.model;
  mode = grew.book.mode;
  printed = λ before h. printed_on p new before taken after grew none ready (is_below p ready more) h;
  within = within_due p new taken after grew ready now;
  ready = now;
  cause = cause;
}

-- the sink hands on what it took
pub gathers_handed : (p new : Printer) (taken after : Option (List ℕ)) (n k : ℕ) → stopped_of p ≡ None → IsReady p → (IsFilled p → ⊥) → KeepsPrinting p new → book_of new ≡ book_of p → printed_of new ≡ printed_of p → after ≡ taken
    → CountsMark n k (stopped_of new) → Gathers p taken n new after k
gathers_handed p new taken after n k none ready more keeps book printed same cause = record {
  keeps = keeps;
  model = ap (λ (b : Book). b.model) book;
  mode = ap (λ (b : Book). b.mode) book;
  printed = λ before h. marked p new before taken after none book keeps printed same (is_below p ready more) h;
  within = still_within p new keeps book printed (omega (arith, ready));
  ready = λ still. ready_kept p new ready keeps book printed;
  cause = cause;
}

-- ---- as a collector

none_unless : (s : Option Stop) → (is_some s ≡ true → ⊥) → s ≡ None
none_unless None some = refl
none_unless (Some stop) some = absurd (some refl)

-- nothing has stopped it, where it hasn't enough
pub not_stopped : (p : Printer) → (HasEnough p → ⊥) → stopped_of p ≡ None
not_stopped p more = none_unless (stopped_of p) (λ s. more (inl s))

pub not_filled : (p : Printer) → (HasEnough p → ⊥) → IsFilled p → ⊥
not_filled p more filled = more (inr filled)

pub works_on : (new : Printer) (n k : ℕ) → n < 2 ^ 64 - 1 → (stopped_of new ≡ None → IsReady new) → CountsMark n k (stopped_of new) → (HasEnough new → ⊥) → IsWorking new k
works_on new n k room ready cause more =
    let none = not_stopped new more in
    let same = same_count (stopped_of new) n k cause none in
    record { none = none; ready = ready none; room = subst (λ j. j < 2 ^ 64 - 1) (sym same) room }
