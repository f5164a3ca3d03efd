-- What a stretch makes of a search, and of what is left.
use Rattle.std.proofs.Common.{◌≡◌, ◌≢◌, ◌∙◌, ◌<◌, ◌⊎◌, inl, inr, if◌then◌else◌, Bool, true, false, Option, Some, None, IsSomeAnd, refl, sym, ap, subst, arith}
use Rattle.fz_tree.specs.declared.mode.Mode.TheVariants.{Best}
use Rattle.fz_tree.specs.Frontier.{has_rest}
use Rattle.fz_tree.specs.Account.{Account, rest_begun}
use Rattle.fz_tree.specs.Book.{Book, Takes}
use Rattle.fz_book.specs.Reports.{IsReportable}
use Rattle.fz_path.specs.Paths.{Pathed, held_behind, is_spent, with_held}
use Rattle.fz_printer.specs.declared.printing.Stop.TheVariants.{Memory}
use Rattle.fz_printer.specs.declared.printer.Printer.{Printer}
use Rattle.fz_printer.specs.Printed.{as_found_of, book_of, stopped_of}
use Rattle.fz_solo.specs.declared.stretches.Halt.{Halt}
use Rattle.fz_solo.specs.declared.stretches.Halt.TheVariants.{Each, Batch, Never}
use Rattle.fz_solo.specs.declared.stretches.Pause.{Pause}
use Rattle.fz_solo.specs.declared.stretches.Pause.TheVariants.{Found, Due, Closed}
use Rattle.fz_solo.specs.Searches.{IsTold, Searches, Begins, Reports}
use Rattle.fz_solo.specs.Stretches.{AlwaysKept, GoesOnTold, GoesOnWith, IsQuiet, Pauses}
use Rattle.fz_solo.specs.Walks.{weight_held}
use Rattle.fz_solo.proofs.Walks.{goes_on_behind, spent_rest}
use Rattle.fz_solo.specs.Streamed.{HasAdvanced, IsBatch, OnNoMemory}

-- ---- the search

pub quiet_path : (i : Bool) (q : Pathed) (b : Book) → q.mode ≡ b.mode → (i ≡ false) ⊎ (b.mode ≢ Best) → IsQuiet i q
quiet_path i q b mode (inl none) = inl none
quiet_path i q b mode (inr any) = inr (λ best. any (sym mode ∙ best))

pub goes_on : (halt : Halt) (pause : Pause) (i : Bool) (q mid : Pathed) → Pauses halt pause q mid → (halt ≡ Each → pause ≢ Found) → (halt ≢ Each → IsQuiet i q) → GoesOnWith i q mid
goes_on Each Found i q mid pauses told quiet = absurd (told refl refl)
goes_on Each Due i q mid pauses told quiet = pauses i
goes_on Each Closed i q mid pauses told quiet = pauses i
goes_on (Batch wanted) pause i q mid pauses told quiet = pauses i (quiet (λ e. cc))
goes_on Never pause i q mid pauses told quiet = pauses i (quiet (λ e. cc))

tells_on : (halt : Halt) (pause : Pause) (i : Bool) (q mid : Pathed) → Pauses halt pause q mid → halt ≡ Each → pause ≡ Found → GoesOnTold i q mid
tells_on Each Found i q mid pauses e f = pauses i
tells_on Each Due i q mid pauses e f = absurd (cc f)
tells_on Each Closed i q mid pauses e f = absurd (cc f)
tells_on (Batch wanted) pause i q mid pauses e f = absurd (cc e)
tells_on Never pause i q mid pauses e f = absurd (cc e)

-- the printer is told what was found
pub told_code : (p new : Printer) (q mid : Pathed) (halt : Halt) (pause : Pause) → Pauses halt pause q mid → (halt ≡ Each) × (pause ≡ Found) → as_found_of p ≡ true → OnNoMemory new (IsTold true (book_of p) mid.known (book_of new))
    → stopped_of new ≢ Some Memory → Searches (as_found_of p) (book_of p) q (book_of new) mid
told_code p new q mid halt pause pauses at shown told n =
    tells_on halt pause (as_found_of p) q mid pauses at.0 at.1 (book_of p) (book_of p) (book_of new) q (subst (λ (i : Bool). IsTold i (book_of p) mid.known (book_of new)) (sym shown) (told n)) Begins

-- nothing is told
pub silent_code : (i : Bool) (b : Book) (q mid : Pathed) → GoesOnWith i q mid → Searches i b q b mid
silent_code i b q mid goes = goes b b q Begins

-- the printer takes an account
pub reported_code : (i : Bool) (b new : Book) (q mid r : Pathed) → GoesOnWith i q mid → (b.mode ≡ Best → is_spent mid.held ≡ true) → IsSomeAnd mid.held (λ c. Takes b c new × (r ≡ with_held mid (held_behind c))) → Searches i b q new r
reported_code i b new q mid r goes done taken = by mid.held refl
  where
    by : (held : Option Account) → mid.held ≡ held → Searches i b q new r
    by None holds = absurd (subst (λ (o : Option Account). IsSomeAnd o (λ c. Takes b c new × (r ≡ with_held mid (held_behind c)))) holds taken)
    by (Some a) holds =
        let t = subst (λ (o : Option Account). IsSomeAnd o (λ c. Takes b c new × (r ≡ with_held mid (held_behind c)))) holds taken in
        subst (λ (x : Pathed). Searches i b q new x) (sym t.1) (Reports b new mid a (silent_code i b q mid goes) holds (λ best. spent_rest mid.held a holds (done best)) t.0)

-- an account is taken of a part that is spent, or where the search is not for a best one
pub done_by : (b : Book) (held : Option Account) (halt : Halt) (pause : Pause) → (pause ≡ Closed) ⊎ IsBatch halt → (pause ≡ Closed → is_spent held ≡ true) → (IsBatch halt → b.mode ≢ Best) → b.mode ≡ Best → is_spent held ≡ true
done_by b held halt pause (inl closed) spent any best = spent closed
done_by b held halt pause (inr batch) spent any best = absurd (any batch best)

-- ---- what is left

left_by : (x : Bool) (c : Account) → (if x then Some (rest_begun c) else None) ≢ None → (weight_held (if x then Some (rest_begun c) else None) ≡ weight_held (Some c)) × (x ≡ true)
left_by true c n = (refl, refl)
left_by false c n = absurd (n refl)

-- an account is taken
pub left_reported : (b new : Book) (old held : Option Account) (mid r : Pathed) (pause : Pause) → mid.held ≡ held → IsSomeAnd old (IsReportable b) → AlwaysKept old held → (pause ≡ Closed → is_spent held ≡ true) → (pause ≡ Closed) ⊎ (weight_held held < weight_held old)
    → IsSomeAnd held (λ c. Takes b c new × (r ≡ with_held mid (held_behind c))) → HasAdvanced b old new r.held
left_reported b new old None mid r pause is reportable kept spent falls taken = absurd taken
left_reported b new old (Some c) mid r pause is reportable kept spent falls taken =
    let next : r.held ≡ held_behind c = ap (λ (x : Pathed). x.held) taken.1 in
    let behind = goes_on_behind b c new r.held (kept b reportable) taken.0 next in
    record {
      fewer = behind.fewer;
      as_many = behind.as_many;
      reportable = behind.reportable;
      less = λ n.
          let left = left_by (has_rest c.after) c (λ e. n (next ∙ e)) in
          let same : weight_held r.held ≡ weight_held (Some c) = ap weight_held next ∙ left.0 in
          elim falls [
            | inl closed ↦ absurd (let none = spent_rest (Some c) c refl (spent closed) in let some = left.1 in cc)
            | inr less ↦ omega (arith, same, less)
          ];
    }
