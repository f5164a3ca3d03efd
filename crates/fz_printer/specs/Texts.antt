-- What is printed of a search, and what a sink took of it.
use Rattle.std.specs.Prelude.{◌≡◌, ℕ, zero, suc, ℤ, ◌+◌, ◌<◌, Bool, true, false, if◌then◌else◌, length, Option, Some, None, Result, MatchResult, List, [], ◌∷◌, ◌++◌}
use Rattle.fz_spec.specs.Instance.{Instance}
use Rattle.fz_spec.specs.Run.{blocks, closing}
use Rattle.fz_spec.specs.declared.goal.Goal.{Goal}
use Rattle.fz_spec.specs.declared.goal.Goal.TheVariants.{Satisfy, Minimize, Maximize}
use Rattle.fz_cmd.specs.Meaning.{Options}
use Rattle.fz_print.specs.Ending.{statistics_text}
use Rattle.fz_spec.specs.declared.term.Term.{Term}
use Rattle.fz_runs.specs.Runs.{counted, summary_of}
use Rattle.fz_io.specs.Outside.{with_more}
use Rattle.fz_printer.specs.declared.printing.Stop.{Stop}
use Rattle.fz_printer.specs.declared.printing.Stop.TheVariants.{Memory, Fault}

-- the sink took a prefix of this text, which lacks one byte at least
pub record TakesFront (whole : List ℕ) (before after : Option (List ℕ)) : Type 0 where
  pub printed : List ℕ
  pub more : List ℕ
  pub some : 0 < length more
  pub front : whole ≡ printed ++ more
  pub taken : after ≡ with_more before printed

-- printing stops for a fault exactly where the count rose
abbrev pub CountsAtStop : ℕ → ℕ → Stop → Type 0
CountsAtStop before after Memory = after ≡ before
CountsAtStop before after Fault = before < after

abbrev pub HasStopCause : {T : Type 0} → ℕ → ℕ → Result T Stop → Type 0
HasStopCause before after result = MatchResult result (λ _. after ≡ before) (CountsAtStop before after)

-- the closing line, where there is one
abbrev pub ending : Bool → List (List ℤ) → List ℕ
ending complete l = if complete then closing l else []

-- the same of that many, whichever they are
abbrev pub closing_after : ℕ → List ℕ
closing_after zero = closing []
closing_after (suc n) = closing ([] ∷ [])

abbrev pub ending_after : Bool → ℕ → List ℕ
ending_after complete n = if complete then closing_after n else []

abbrev pub count_if : Bool → ℕ → Option ℕ
count_if true n = Some n
count_if false n = None

-- what stands after the blocks of all that is listed
abbrev pub end_text : Options → List (List ℤ) → Bool → List ℕ
end_text o l complete = ending complete l ++ statistics_text (counted o.stats l)

abbrev pub listing_text : Instance → List (List ℤ) → Bool → List ℕ
listing_text m l complete = blocks m l ++ ending complete l

-- what is shown, by the goal and whether a model is generated
abbrev pub best_text : Option ℕ → Term → Instance → List (List ℤ) → Bool → List ℕ
best_text None goal m l complete = listing_text m l complete
best_text (Some items) goal m l complete = summary_of items goal l

abbrev pub shown_text : Goal → Option ℕ → Instance → List (List ℤ) → Bool → List ℕ
shown_text Satisfy generate m l complete = listing_text m l complete
shown_text (Minimize goal) generate m l complete = best_text generate goal m l complete
shown_text (Maximize goal) generate m l complete = best_text generate goal m l complete

-- and after it the statistics
abbrev pub run_text : Options → Instance → List (List ℤ) → Bool → List ℕ
run_text o m l complete = shown_text m.goal o.generate m l complete ++ statistics_text (counted o.stats l)
