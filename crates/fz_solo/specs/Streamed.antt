-- What a search that prints on its way makes of a printer, a path and a sink.
use Rattle.std.specs.Prelude.{◌≡◌, ◌≢◌, ◌⊎◌, ◌<◌, ◌≤◌, ℕ, Option, Some, None, IsSomeAnd, List, [], length}
use Rattle.fz_tree.specs.Frontier.{Frontier}
use Rattle.fz_tree.specs.Account.{Account}
use Rattle.fz_tree.specs.Book.{Book, IsOpen}
use Rattle.fz_book.specs.Reports.{IsReportable}
use Rattle.fz_path.specs.Paths.{Pathed, started}
use Rattle.fz_printer.specs.declared.printing.Stop.TheVariants.{Memory}
use Rattle.fz_printer.specs.declared.printer.Printer.{Printer}
use Rattle.fz_printer.specs.Printed.{book_of, as_found_of, printed_of, stopped_of, due_of, HasPrinted, KeepsPrinting, MarksMemory}
use Rattle.fz_solo.specs.declared.stretches.Halt.{Halt}
use Rattle.fz_solo.specs.declared.stretches.Halt.TheVariants.{Each, Batch, Never}
use Rattle.fz_solo.specs.Walks.{weight_held}
use Rattle.fz_solo.specs.Searches.{Searches}

-- The options stay, and the book's model and mode; what the sink took since the printer was begun is what it printed, no more than was
-- due; and unless memory was refused, the book is searched, and told each better one where solutions are printed as they are found.
pub record Streams (old : Printer) (at : Pathed) (taken : Option (List ℕ)) (new : Printer) (path : Pathed) (after : Option (List ℕ)) : Type 0 where
  pub keeps : KeepsPrinting old new
  pub model : (book_of new).model ≡ (book_of old).model
  pub mode : (book_of new).mode ≡ (book_of old).mode
  pub printed : (before : Option (List ℕ)) → HasPrinted old before taken → HasPrinted new before after
  pub within : printed_of new ≤ due_of new
  pub searched : stopped_of new ≢ Some Memory → Searches (as_found_of old) (book_of old) at (book_of new) path

-- nothing is open, or memory was refused
abbrev pub NothingOpen : Printer → Printer → Type 0
NothingOpen old new = ((new ≡ old) × ((book_of old).parts ≡ [])) ⊎ MarksMemory old new

-- the path is as before, or it is started with an open part
abbrev pub HasTakenUp : Book → Pathed → Pathed → Type 0
HasTakenUp b old new = (new ≡ old) ⊎ ((old.held ≡ None) × ((f : Frontier) × IsOpen b f × (new ≡ started old f)))

-- unless memory was refused
abbrev pub OnNoMemory : Printer → Type 0 → Type 0
OnNoMemory p P = stopped_of p ≢ Some Memory → P

-- a stretch ends where many are found
abbrev pub IsBatch : Halt → Type 0
IsBatch Each = ⊥
IsBatch (Batch wanted) = Unit {0}
IsBatch Never = ⊥

-- A part is closed, and the path holds none; or as many are open, and the path goes on with its own, of which less is left.
pub record HasAdvanced (b : Book) (held : Option Account) (new : Book) (next : Option Account) : Type 0 where
  pub fewer : next ≡ None → length new.parts < length b.parts
  pub as_many : next ≢ None → length new.parts ≡ length b.parts
  pub reportable : next ≢ None → IsSomeAnd next (IsReportable new)
  pub less : next ≢ None → weight_held next < weight_held held
