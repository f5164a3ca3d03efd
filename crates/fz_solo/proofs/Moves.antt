-- A search that prints on its way, call by call.
use Rattle.std.proofs.Common.{◌≡◌, ◌≢◌, ◌∙◌, inl, inr, ℕ, List, length, Bool, Option, Some, None, IfSome, refl, sym, ap, subst, arith}
use Rattle.fz_tree.specs.Account.{Account}
use Rattle.fz_tree.specs.Book.{Book}
use Rattle.fz_book.specs.Reports.{IsReportable}
use Rattle.fz_path.specs.Paths.{Pathed}
use Rattle.fz_printer.specs.declared.printing.Stop.{Stop}
use Rattle.fz_printer.specs.declared.printing.Stop.TheVariants.{Memory}
use Rattle.fz_printer.specs.declared.printer.Printer.{Printer}
use Rattle.fz_printer.specs.Printed.{book_of, wanted_of, as_found_of, printed_of, stopped_of, Grew, IsReady, KeepsPrinting, MarksMemory}
use Rattle.fz_printer.specs.Gathered.{IsFilled, IsFilledFor}
use Rattle.fz_printer.proofs.PrintLaws.{printed_on, marked, within_due}
use Rattle.fz_printer.specs.Gatherings.{both_keep}
use Rattle.fz_printer.proofs.Gathering.{is_below, still_within}
use Rattle.fz_solo.specs.Searches.{Searches, Begins, Starts, Steps, Finds, Reports}
use Rattle.fz_solo.specs.Streamed.{HasTakenUp, OnNoMemory, Streams}

pub begins : (p : Printer) (q : Pathed) (taken : Option (List ℕ)) → IsReady p → Streams p q taken p q taken
begins p q taken ready = record {
  keeps = record { as_found = refl; wanted = refl };
  model = refl;
  mode = refl;
  printed = λ before h. h;
  within = omega (arith, ready);
  searched = λ n. Begins;
}

-- the printer is told nothing
pub silent : (p : Printer) (q r : Pathed) (taken : Option (List ℕ)) → IsReady p → Searches (as_found_of p) (book_of p) q (book_of p) r → Streams p q taken p r taken
silent p q r taken ready h = record {
  keeps = record { as_found = refl; wanted = refl };
  model = refl;
  mode = refl;
  printed = λ before x. x;
  within = omega (arith, ready);
  searched = λ n. h;
}

pub none_is_no_memory : (s : Option Stop) → s ≡ None → s ≢ Some Memory
none_is_no_memory s none e = cc

-- the printer takes what is told it
pub advanced : (p new : Printer) (q r : Pathed) (middle after : Option (List ℕ)) → stopped_of p ≡ None → IsReady p → (IsFilled p → ⊥) → Grew p new middle after → (stopped_of new ≡ None → IsReady new)
    → (stopped_of new ≢ Some Memory → Searches (as_found_of p) (book_of p) q (book_of new) r) → Streams p q middle new r after
advanced p new q r middle after none ready more grew now searched = record {
  keeps = grew.keeps;
  model = grew.book.model;
  mode = grew.book.mode;
  printed = λ before h. printed_on p new before middle after grew none ready (is_below p ready more) h;
  within = within_due p new middle after grew ready now;
  searched = searched;
}

-- a mark is set, or nothing is
pub handed_on : (old p new : Printer) (at q : Pathed) (taken middle after : Option (List ℕ)) → Streams old at taken p q middle → stopped_of p ≡ None → IsReady p → (IsFilled p → ⊥) → KeepsPrinting p new → book_of new ≡ book_of p → printed_of new ≡ printed_of p
    → after ≡ middle → Streams old at taken new q after
handed_on old p new at q taken middle after s none ready more keeps book printed same = record {
  keeps = both_keep old p new s.keeps keeps;
  model = ap (λ (b : Book). b.model) book ∙ s.model;
  mode = ap (λ (b : Book). b.mode) book ∙ s.mode;
  printed = λ before h. marked p new before middle after none book keeps printed same (is_below p ready more) (s.printed before h);
  within = still_within p new keeps book printed s.within;
  searched = λ n. subst (λ (b : Book). Searches (as_found_of old) (book_of old) at b q) (sym book) (s.searched (none_is_no_memory (stopped_of p) none));
}

-- memory was refused: then nothing is said of the search
pub refused : (old p new : Printer) (at q r : Pathed) (taken middle : Option (List ℕ)) → Streams old at taken p q middle → stopped_of p ≡ None → IsReady p → (IsFilled p → ⊥) → MarksMemory p new → Streams old at taken new r middle
refused old p new at q r taken middle s none ready more marks = record {
  keeps = both_keep old p new s.keeps marks.keeps;
  model = ap (λ (b : Book). b.model) marks.book ∙ s.model;
  mode = ap (λ (b : Book). b.mode) marks.book ∙ s.mode;
  printed = λ before h. marked p new before middle middle none marks.book marks.keeps marks.printed refl (is_below p ready more) (s.printed before h);
  within = still_within p new marks.keeps marks.book marks.printed s.within;
  searched = λ n. absurd (n marks.stopped);
}

-- the path takes up a part
pub taken_up : (old p : Printer) (at q r : Pathed) (taken middle : Option (List ℕ)) → Streams old at taken p q middle → HasTakenUp (book_of p) q r → Streams old at taken p r middle
taken_up old p at q r taken middle s (inl same) = subst (λ (x : Pathed). Streams old at taken p x middle) (sym same) s
taken_up old p at q r taken middle s (inr begun) = record {
  keeps = s.keeps;
  model = s.model;
  mode = s.mode;
  printed = s.printed;
  within = s.within;
  searched = λ n. subst (λ (x : Pathed). Searches (as_found_of old) (book_of old) at (book_of p) x) (sym begun.1.2) (Starts (book_of p) q begun.1.0 (s.searched n) begun.0 begun.1.1);
}

behind : (i : Bool) (b : Book) (p : Pathed) (c : Book) (q : Pathed) → Searches i b p c q → (d : Book) (r : Pathed) → Searches i c q d r → Searches i b p d r
behind i b p c q first d r Begins = first
behind i b p c q first d r (Starts e s f h none is_open) = Starts e s f (behind i b p c q first e s h) none is_open
behind i b p c q first d r (Steps e s step held h n steps) = Steps e s step held (behind i b p c q first e s h) n steps
behind i b p c q first d r (Finds e new s held h steps told) = Finds e new s held (behind i b p c q first e s h) steps told
behind i b p c q first d r (Reports e new s a h holds rest takes) = Reports e new s a (behind i b p c q first e s h) holds rest takes

-- one part of a search after another
pub both_stream : (old p new : Printer) (at q r : Pathed) (taken middle after : Option (List ℕ)) → Streams old at taken p q middle → stopped_of p ≡ None → Streams p q middle new r after → Streams old at taken new r after
both_stream old p new at q r taken middle after first none second = record {
  keeps = both_keep old p new first.keeps second.keeps;
  model = second.model ∙ first.model;
  mode = second.mode ∙ first.mode;
  printed = λ before h. second.printed before (first.printed before h);
  within = second.within;
  searched = λ n.
      behind (as_found_of old) (book_of old) at (book_of p) q (first.searched (none_is_no_memory (stopped_of p) none)) (book_of new) r
      (subst (λ (b : Bool). Searches b (book_of p) q (book_of new) r) first.keeps.as_found (second.searched n));
}

-- ---- from turn to turn

-- the path has taken up a part, and it is searched
pub went_on : (old p next new : Printer) (at q r s : Pathed) (taken middle after : Option (List ℕ)) → Streams old at taken p q middle → stopped_of p ≡ None → next ≡ p → OnNoMemory next (HasTakenUp (book_of p) q r) → Streams next r middle new s after → Streams old at taken new s after
went_on old p next new at q r s taken middle after first none same moved second =
    let still : stopped_of next ≡ None = ap stopped_of same ∙ none in
    both_stream old next new at r s taken middle after
    (subst (λ (x : Printer). Streams old at taken x r middle) (sym same) (taken_up old p at q r taken middle first (moved (none_is_no_memory (stopped_of next) still)))) still second

pub more_kept : (p new : Printer) → (IsFilled p → ⊥) → KeepsPrinting p new → book_of new ≡ book_of p → IsFilled new → ⊥
more_kept p new more keeps book filled =
    more (subst (λ (w : Option ℕ). IsFilledFor w (length (book_of p).recorded)) keeps.wanted (subst (λ (b : Book). IsFilledFor (wanted_of new) (length b.recorded)) book filled))

pub no_part : (held : Option Account) (b : Book) → held ≡ None → IfSome held (IsReportable b)
no_part held b none = subst (λ (o : Option Account). IfSome o (IsReportable b)) (sym none) tt
