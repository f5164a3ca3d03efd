-- What a printer has printed, and how it grows.
use Rattle.std.specs.Prelude.{◌≡◌, ◌⊎◌, ℕ, ℤ, ◌<◌, ◌≤◌, min, Bool, true, false, Option, Some, None, List, ◌++◌, length, take, slice_range}
use Rattle.fz_spec.specs.Run.{blocks}
use Rattle.fz_tree.specs.Account.{Account}
use Rattle.fz_tree.specs.Book.{Book, IsOpen, Takes}
use Rattle.fz_book.specs.declared.offered.Offered.{Offered}
use Rattle.fz_book.specs.Offering.{Offers}
use Rattle.fz_book.specs.Outcomes.{IsOwn}
use Rattle.fz_io.specs.Outside.{with_more}
use Rattle.fz_printer.specs.declared.printing.Stop.{Stop}
use Rattle.fz_printer.specs.declared.printing.Stop.TheVariants.{Memory}
use Rattle.fz_printer.specs.Texts.{TakesFront, CountsAtStop}
use Rattle.fz_printer.specs.declared.printer.Printer.{Printer}

-- ---- what it holds

abbrev pub book_of : Printer → Book
book_of p = p.book.book

abbrev pub as_found_of : Printer → Bool
as_found_of p = p.as_found

abbrev pub wanted_of : Printer → Option ℕ
wanted_of p = p.wanted

abbrev pub printed_of : Printer → ℕ
printed_of p = p.printed

abbrev pub stopped_of : Printer → Option Stop
stopped_of p = p.stopped

-- how many of that many recorded ones are to be printed
abbrev pub due_among : Bool → Option ℕ → ℕ → ℕ
due_among false wanted count = 0
due_among true None count = count
due_among true (Some n) count = min count n

abbrev pub due_of : Printer → ℕ
due_of p = due_among p.as_found p.wanted (length p.book.book.recorded)

-- all that is due is printed
abbrev pub IsReady : Printer → Type 0
IsReady p = p.printed ≡ due_of p

-- ---- how it grows

-- the options that it prints by stay
pub record KeepsPrinting (old new : Printer) : Type 0 where
  pub as_found : new.as_found ≡ old.as_found
  pub wanted : new.wanted ≡ old.wanted

-- its book keeps its model and mode, and what is recorded stays in front
pub record KeepsBook (old new : Book) : Type 0 where
  pub model : new.model ≡ old.model
  pub mode : new.mode ≡ old.mode
  pub added : List (List ℤ)
  pub recorded : new.recorded ≡ old.recorded ++ added

-- The sink took the blocks of those printed since, in the order in which they are recorded; where printing stopped it took a prefix
-- of the blocks that were due.
abbrev pub Took : Option Stop → Printer → Printer → Option (List ℕ) → Option (List ℕ) → Type 0
Took None old new before after = after ≡ with_more before (blocks new.book.book.model (slice_range new.book.book.recorded old.printed new.printed))
Took (Some stop) old new before after =
    (new.printed ≡ old.printed) × ((after ≡ before) ⊎ TakesFront (blocks new.book.book.model (slice_range new.book.book.recorded old.printed (due_of new))) before after)

-- What a call makes of a printer and a sink.
pub record Grew (old new : Printer) (before after : Option (List ℕ)) : Type 0 where
  pub keeps : KeepsPrinting old new
  pub book : KeepsBook old.book.book new.book.book
  pub more : old.printed ≤ new.printed
  pub took : Took new.stopped old new before after

-- of another model or mode, or of what isn't open
abbrev pub IsOther : Account → Book → Type 0
IsOther account b = (IsOwn b account → ⊥) ⊎ (IsOpen b account.before → ⊥)

-- The account is taken; or its book stays, since there was no memory or the account is of something else.
abbrev pub AccountsTo : Account → Printer → Printer → Type 0
AccountsTo account old new = Takes old.book.book account new.book.book ⊎ ((new.book.book ≡ old.book.book) × ((new.stopped ≡ Some Memory) ⊎ IsOther account old.book.book))

-- Its book records the assignment where it is better than what is recorded; or there was no memory, and its book stays.
abbrev pub OffersTo : List ℤ → Printer → Printer → Type 0
OffersTo a old new = ((o : Offered) × Offers o old.book.book a new.book.book) ⊎ ((new.book.book ≡ old.book.book) × (new.stopped ≡ Some Memory))

-- the count of faults rose exactly where a fault is marked
abbrev pub CountsMark : ℕ → ℕ → Option Stop → Type 0
CountsMark before after None = after ≡ before
CountsMark before after (Some stop) = CountsAtStop before after stop

pub record MarksMemory (old new : Printer) : Type 0 where
  pub book : new.book.book ≡ old.book.book
  pub keeps : KeepsPrinting old new
  pub printed : new.printed ≡ old.printed
  pub stopped : new.stopped ≡ Some Memory

-- ---- what it has printed

-- fewer are printed than are wanted
abbrev pub IsBelow : Option ℕ → ℕ → Type 0
IsBelow None count = Unit {0}
IsBelow (Some n) count = count < n

-- Since it was begun the sink took the blocks of those printed; where it stopped, these or a prefix of the blocks that were due.
abbrev pub HasPrintedAt : Option Stop → Printer → Option (List ℕ) → Option (List ℕ) → Type 0
HasPrintedAt None p before after = after ≡ with_more before (blocks p.book.book.model (take p.printed p.book.book.recorded))
HasPrintedAt (Some stop) p before after =
    ((after ≡ with_more before (blocks p.book.book.model (take p.printed p.book.book.recorded))) × IsBelow p.wanted p.printed)
    ⊎ TakesFront (blocks p.book.book.model (take (due_of p) p.book.book.recorded)) before after

abbrev pub HasPrinted : Printer → Option (List ℕ) → Option (List ℕ) → Type 0
HasPrinted p before after = HasPrintedAt p.stopped p before after
