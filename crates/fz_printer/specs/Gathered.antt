-- What taking in what several workers tell makes of a printer and a sink.
use Rattle.std.specs.Prelude.{◌≡◌, ◌⊎◌, ◌<◌, ◌≤◌, ◌^◌, ◌-◌, ℕ, true, Option, Some, None, is_some, List, length}
use Rattle.fz_printer.specs.declared.printer.Printer.{Printer}
use Rattle.fz_printer.specs.Printed.{book_of, wanted_of, printed_of, stopped_of, due_of, CountsMark, HasPrinted, IsReady, KeepsPrinting}

-- as many are recorded as are wanted
abbrev pub IsFilledFor : Option ℕ → ℕ → Type 0
IsFilledFor None count = ⊥
IsFilledFor (Some n) count = n ≤ count

abbrev pub IsFilled : Printer → Type 0
IsFilled p = IsFilledFor (wanted_of p) (length (book_of p).recorded)

-- nothing more is printed: the sink failed, memory was refused, or as many are recorded as are wanted
abbrev pub HasEnough : Printer → Type 0
HasEnough p = (is_some (stopped_of p) ≡ true) ⊎ IsFilled p

-- nothing has stopped it, all that is due is printed, and the sink's count of faults has room
pub record IsWorking (p : Printer) (faults : ℕ) : Type 0 where
  pub none : stopped_of p ≡ None
  pub ready : IsReady p
  pub room : faults < 2 ^ 64 - 1

-- The options stay, and the book's model and mode; what the sink took since the printer was begun is what it printed, no more than was
-- due, and all that was unless it stopped, which has its cause. Nothing is said of where what its book took came from.
pub record Gathers (old : Printer) (taken : Option (List ℕ)) (faults : ℕ) (new : Printer) (after : Option (List ℕ)) (failed : ℕ) : Type 0 where
  pub keeps : KeepsPrinting old new
  pub model : (book_of new).model ≡ (book_of old).model
  pub mode : (book_of new).mode ≡ (book_of old).mode
  pub printed : (before : Option (List ℕ)) → HasPrinted old before taken → HasPrinted new before after
  pub within : printed_of new ≤ due_of new
  pub ready : stopped_of new ≡ None → IsReady new
  pub cause : CountsMark faults failed (stopped_of new)
