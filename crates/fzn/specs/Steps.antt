-- What the steps of a run say, within this crate.
use Rattle.std.specs.Prelude.{◌≡◌, ℕ, zero, suc, ℤ, ◌+◌, ◌<◌, ◌≤◌, ◌⊎◌, Bool, true, false, IsTrue, take, Option, None, Some, IfSome, Result, Ok, Err, MatchResult, List, [], ◌++◌}
use Rattle.fz_spec.specs.declared.limits.TheConstants.{TEXT_LIMIT}
use Rattle.fz_spec.specs.Instance.{Instance}
use Rattle.fz_spec.specs.Run.{blocks}
use Rattle.fz_tree.specs.declared.decision.Decision.{Decision}
use Rattle.fz_part.specs.Parts.{IsPartOf, task_of}
use Rattle.fz_part.specs.Texts.{part_text}
use Rattle.fz_spec.specs.declared.goal.Goal.{Goal}
use Rattle.fz_spec.specs.declared.goal.Goal.TheVariants.{Satisfy, Minimize, Maximize}
use Rattle.fz_cmd.specs.Meaning.{Options}
use Rattle.fz_io.specs.Outside.{with_more, AllFlushed}
use Rattle.fzn.specs.declared.status.Status.{Status}
use Rattle.fzn.specs.declared.status.Status.TheVariants.{Done, Refused, Usage, SourceFault, SinkFault, NoMemory, NoTask}
use Rattle.fzn.specs.declared.part.Task.{Task}
use Rattle.fz_printer.specs.declared.printing.Stop.{Stop}
use Rattle.fz_printer.specs.declared.printing.Stop.TheVariants.{Memory, Fault}
use Rattle.fzn.specs.Promises.{Prints}
use Rattle.fz_printer.specs.Texts.{TakesFront, ending_after}
use Rattle.fz_maker.specs.Taken.{TakesOne, TakesFrontOfOne}
use Rattle.fz_runs.specs.Runs.{IsRunText}
use Rattle.fz_runs.specs.PartRuns.{ending_line, part_line, value_line, value_text}
use Rattle.fzn.specs.Asked.{IsWithinLimit, SuitsGoal}
use Rattle.fz_runs.specs.Modes.{mode_for}
use Rattle.fz_language.specs.Reads.{Reads, Accepted}
use Rattle.fz_printer.specs.declared.printer.Printer.{Printer}
use Rattle.fz_printer.specs.Printed.{book_of, stopped_of, CountsMark, HasPrinted, IsReady}
use Rattle.fz_search.specs.Searched.{enough_for, IsPrinted, IsSearched, PrintsAsAsked}

-- the file is selected, unless the source failed
abbrev pub SelectsAtStop : Bool → Stop → Type 0
SelectsAtStop selected Memory = IsTrue selected
SelectsAtStop selected Fault = Unit {0}

abbrev pub SelectsAt : {T : Type 0} → Result T Stop → Bool → Type 0
SelectsAt result selected = MatchResult result (λ _. IsTrue selected) (SelectsAtStop selected)

-- nothing is left of a text of that many bytes, where that is within the limit
abbrev pub LeavesNothing : ℕ → Option (List ℕ) → Type 0
LeavesNothing count left = count ≤ TEXT_LIMIT → IfSome left (λ rest. rest ≡ [])

-- what is read of a file, where its text is told: that, or the first bytes of one that is too long
abbrev pub IsReadOf : Option (List ℕ) → List ℕ → Type 0
IsReadOf file read = IfSome file (λ text. read ≡ take (TEXT_LIMIT + 1) text)

-- what the sink took is what is printed of this text at this answer
abbrev pub PrintsOf : Status → List ℕ → Options → Option (List ℕ) → Option (List ℕ) → Type 0
PrintsOf status text o before after = (printed : List ℕ) × (after ≡ with_more before printed) × Prints status text o printed

-- the answers of a run that read its text, by the counts of the sink
abbrev pub HasSinkCause : Status → ℕ → ℕ → Type 0
HasSinkCause Done c d = d ≡ c
HasSinkCause (Refused r) c d = d ≡ c
HasSinkCause Usage c d = ⊥
HasSinkCause SourceFault c d = ⊥
HasSinkCause SinkFault c d = c < d
HasSinkCause NoMemory c d = d ≡ c
HasSinkCause (NoTask misfit) c d = d ≡ c

-- the same of a search
abbrev pub HasSearchCause : Status → ℕ → ℕ → Type 0
HasSearchCause Done c d = d ≡ c
HasSearchCause SinkFault c d = c < d
HasSearchCause NoMemory c d = d ≡ c
HasSearchCause status c d = ⊥

-- The sink took all of this, and the answer is the one that goes with it unless the flush failed; or it took a prefix, and a fault or
-- being out of memory is answered.
abbrev pub Answers : Status → Status → List ℕ → Option (List ℕ) → Option (List ℕ) → Type 0
Answers status whole_status whole before after =
    (((status ≡ whole_status) ⊎ (status ≡ SinkFault)) × (after ≡ with_more before whole)) ⊎ (((status ≡ SinkFault) ⊎ (status ≡ NoMemory)) × TakesFront whole before after)

-- ---- the search of a model

-- what is printed of a model is what is printed of each text that is read so
abbrev pub PrintsModel : Status → Instance → Options → Option (List ℕ) → Option (List ℕ) → Type 0
PrintsModel status m o before after = (text : List ℕ) → Reads text (Accepted m) → PrintsOf status text o before after

-- A search leaves a printer, and the sink took what that has printed; where there was no memory to begin with, the sink is as it was.
abbrev pub HasSearched : {E : Type 0} → Instance → Options → Result Printer E → Option (List ℕ) → Option (List ℕ) → ℕ → ℕ → Type 0
HasSearched m o result before after c d = MatchResult result (λ p. IsPrinted m o p before after × CountsMark c d (stopped_of p)) (λ _. (after ≡ before) × (d ≡ c))

-- the search has ended, and all that was due on its way is printed
pub record IsEnded (o : Options) (p : Printer) : Type 0 where
  pub searched : IsSearched (book_of p).model (mode_for (book_of p).model.goal o) (enough_for (book_of p).model.goal o) (book_of p)
  pub prints : PrintsAsAsked (book_of p).model o p
  pub stopped : stopped_of p ≡ None
  pub ready : IsReady p

-- the sink took the text of a whole run of a model
abbrev pub ShowsWhole : Instance → Options → Option (List ℕ) → Option (List ℕ) → Type 0
ShowsWhole m o before after = (l : List (List ℤ)) × TakesOne (IsRunText m o l) before after

-- or a prefix of one
abbrev pub ShowsFront : Instance → Options → Option (List ℕ) → Option (List ℕ) → Type 0
ShowsFront m o before after = (l : List (List ℤ)) × TakesFrontOfOne (IsRunText m o l) before after

-- what is certified, by how many are listed and the last of them
abbrev pub certified_after : Bool → Goal → ℕ → Option (List ℤ) → Option (Option (List ℤ))
certified_after false goal count last = None
certified_after true Satisfy zero last = Some None
certified_after true Satisfy (suc n) last = None
certified_after true (Minimize term) count last = Some last
certified_after true (Maximize term) count last = Some last

-- all is flushed and the answer is as it was to be, or the sink failed
abbrev pub Flushes : Status → Status → Option (List ℕ) → ℕ → ℕ → ℕ → Type 0
Flushes meant status taken flushed c d = ((status ≡ meant) × (d ≡ c) × AllFlushed taken flushed) ⊎ ((status ≡ SinkFault) × (c < d))

-- what was printed is flushed, unless printing stopped for a fault
abbrev pub Finishes : {T : Type 0} → Result T Stop → Status → Option (List ℕ) → ℕ → ℕ → ℕ → Type 0
Finishes (Ok done) status taken flushed c d = Flushes Done status taken flushed c d
Finishes (Err Memory) status taken flushed c d = Flushes NoMemory status taken flushed c d
Finishes (Err Fault) status taken flushed c d = (status ≡ SinkFault) × (d ≡ c)

-- the options ask for a split of the model, or for its run
pub record AskForSplit (most : ℕ) (o : Options) : Type 0 where
  pub part : o.part ≡ None
  pub split : o.split ≡ Some most

pub record AskForWhole (o : Options) : Type 0 where
  pub part : o.part ≡ None
  pub split : o.split ≡ None

-- ---- a part

-- what is searched for the part of a text
pub record IsTaskOf (m : Instance) (text : List ℕ) (better : Option ℤ) (task : Task) : Type 0 where
  pub of_model : IsPartOf m task.part
  pub is : part_text task.part ≡ text
  pub goal : SuitsGoal better m.goal
  pub few : IsWithinLimit (task_of m task.part better)
  pub model : task.model ≡ task_of m task.part better

-- what the run of a part prints after its first line
pub record IsTaskText (m : Instance) (o : Options) (printed : List ℕ) : Type 0 where
  pub listed : List (List ℤ)
  pub ending : List ℕ
  pub run : IsRunText m o listed (blocks m listed ++ ending)
  pub text : printed ≡ blocks m listed ++ (value_line m.goal listed ++ ending_line ending)

-- and that line before it
pub record IsPartText (p : List Decision) (m : Instance) (o : Options) (printed : List ℕ) : Type 0 where
  pub rest : List ℕ
  pub task : IsTaskText m o rest
  pub text : printed ≡ part_line p o.better ++ rest

-- a search that has ended, with what it printed
pub record HasEndedWith (m : Instance) (o : Options) (before after : Option (List ℕ)) (p : Printer) : Type 0 where
  pub ended : IsEnded o p
  pub model : (book_of p).model ≡ m
  pub printed : HasPrinted p before after

-- the line of the value, by the last that is listed
abbrev pub value_after : Goal → Option (List ℤ) → List ℕ
value_after Satisfy last = []
value_after (Minimize term) last = value_text term last
value_after (Maximize term) last = value_text term last

-- what stands after the blocks of a part's run, by how many are listed, the last of them, and whether they are all
abbrev pub part_end : Goal → ℕ → Option (List ℤ) → Bool → List ℕ
part_end goal count last complete = value_after goal last ++ ending_line (ending_after complete count)
