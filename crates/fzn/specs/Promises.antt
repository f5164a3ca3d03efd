-- What a run promises: what each answer says of the text that was read and of what was printed. `fzn` cites these alone.
use Rattle.std.specs.Prelude.{◌≡◌, ℕ, ℤ, ◌<◌, ◌⊎◌, Bool, IsTrue, Option, Some, None, IfSome, List, [], ◌++◌, length}
use Rattle.fz_spec.specs.declared.code.Code.{Code}
use Rattle.fz_spec.specs.Codes.{code_number}
use Rattle.fz_spec.specs.Instance.{Instance}
use Rattle.fz_spec.specs.Run.{refusal_text}
use Rattle.fz_cmd.specs.Meaning.{Options}
use Rattle.fz_language.specs.Reads.{Reads, Accepted}
use Rattle.fz_language.specs.Reads as reads
use Rattle.fz_gen.specs.Knapsack.{knapsack}
use Rattle.fz_io.specs.Outside.{one_more, with_more, AllFlushed}
use Rattle.fz_print.specs.declared.refusal.Refusal.{Refusal}
use Rattle.fzn.specs.declared.status.Status.{Status}
use Rattle.fzn.specs.declared.status.Status.TheVariants.{Done, Refused, Usage, SourceFault, SinkFault, NoMemory, NoTask}
use Rattle.fzn.specs.declared.status.Misfit.{Misfit}
use Rattle.fzn.specs.Asked.{HasTask, LacksTask, PrintsAsked}

-- the exit status of each answer
abbrev pub code_of : Status → ℕ
code_of Done = 0
code_of (Refused r) = 1
code_of Usage = 2
code_of SourceFault = 3
code_of SinkFault = 4
code_of NoMemory = 5
code_of (NoTask misfit) = 6

-- the run of an accepted text: its model, and what is printed of it
pub record IsRun (text : List ℕ) (o : Options) (printed : List ℕ) : Type 0 where
  pub model : Instance
  pub accepted : Reads text (Accepted model)
  pub run : PrintsAsked o.part o.split model o printed

-- a text that is refused so, and what is printed of that
pub record IsRefusedRun (text : List ℕ) (r : Refusal) (printed : List ℕ) : Type 0 where
  pub code : Code
  pub number : r.code ≡ code_number code
  pub reads : Reads text (reads.Refused code r.line r.column)
  pub is : printed ≡ refusal_text code r.line r.column

-- an accepted text, whose model has no such part as is asked for
pub record HasNoTask (text : List ℕ) (misfit : Misfit) (o : Options) : Type 0 where
  pub model : Instance
  pub accepted : Reads text (Accepted model)
  pub part : List ℕ
  pub asked : o.part ≡ Some part
  pub lacks : LacksTask misfit model part o.better

-- what the run of this text may print as a whole
abbrev pub IsWholeRun : List ℕ → Options → List ℕ → Type 0
IsWholeRun text o printed = IsRun text o printed ⊎ ((r : Refusal) × IsRefusedRun text r printed)

-- nothing, or a prefix of that
abbrev pub IsFront : List ℕ → Options → List ℕ → Type 0
IsFront text o printed = (printed ≡ []) ⊎ ((more : List ℕ) × IsWholeRun text o (printed ++ more))

-- nothing, or a prefix of that which lacks one byte at least
abbrev pub IsStrictFront : List ℕ → Options → List ℕ → Type 0
IsStrictFront text o printed = (printed ≡ []) ⊎ ((more : List ℕ) × (0 < length more) × IsWholeRun text o (printed ++ more))

-- what is printed of a text, at each answer
abbrev pub Prints : Status → List ℕ → Options → List ℕ → Type 0
Prints Done text o printed = IsRun text o printed
Prints (Refused r) text o printed = IsRefusedRun text r printed
Prints Usage text o printed = printed ≡ []
Prints SourceFault text o printed = printed ≡ []
Prints SinkFault text o printed = IsFront text o printed
Prints NoMemory text o printed = IsStrictFront text o printed
Prints (NoTask misfit) text o printed = (printed ≡ []) × HasNoTask text misfit o

-- the text that is run: a generated one, or the file's, where the source tells it
abbrev pub generated_or : Option ℕ → Option (List ℕ) → Option (List ℕ)
generated_or None file = file
generated_or (Some items) file = Some (knapsack items)

abbrev pub text_for : Options → Option (List ℕ) → Option (List ℕ)
text_for o file = generated_or o.generate file

-- The text is this one, where it is told; what was printed is what the sink took in this call, where it tells that.
pub record Runs (status : Status) (o : Options) (file before after : Option (List ℕ)) : Type 0 where
  pub text : List ℕ
  pub printed : List ℕ
  pub read : IfSome file (λ t. t ≡ text)
  pub taken : after ≡ with_more before printed
  pub prints : Prints status text o printed

-- each answer's cause, by the counts of faults of the source and of the sink before and after
abbrev pub HasItsCause : Status → ℕ → ℕ → ℕ → ℕ → Type 0
HasItsCause Done a b c d = (b ≡ a) × (d ≡ c)
HasItsCause (Refused r) a b c d = (b ≡ a) × (d ≡ c)
HasItsCause Usage a b c d = (b ≡ a) × (d ≡ c)
HasItsCause SourceFault a b c d = (a < b) × (d ≡ c)
HasItsCause SinkFault a b c d = (b ≡ a) × (c < d)
HasItsCause NoMemory a b c d = (b ≡ a) × (d ≡ c)
HasItsCause (NoTask misfit) a b c d = (b ≡ a) × (d ≡ c)

-- At Done and at Refused all that was taken is flushed; where memory was refused, that or nothing was taken.
abbrev pub IsFlushed : Status → Option (List ℕ) → Option (List ℕ) → ℕ → Type 0
IsFlushed Done before after flushed = AllFlushed after flushed
IsFlushed (Refused r) before after flushed = AllFlushed after flushed
IsFlushed Usage before after flushed = after ≡ before
IsFlushed SourceFault before after flushed = after ≡ before
IsFlushed SinkFault before after flushed = Unit {0}
IsFlushed NoMemory before after flushed = AllFlushed after flushed ⊎ (after ≡ before)
IsFlushed (NoTask misfit) before after flushed = after ≡ before

-- One text is selected, once: none at Usage, and none where there was no memory for the words.
abbrev pub SelectsOnce : Status → ℕ → ℕ → Type 0
SelectsOnce Done before after = after ≡ one_more before
SelectsOnce (Refused r) before after = after ≡ one_more before
SelectsOnce Usage before after = after ≡ before
SelectsOnce SourceFault before after = after ≡ one_more before
SelectsOnce SinkFault before after = after ≡ one_more before
SelectsOnce NoMemory before after = (after ≡ one_more before) ⊎ (after ≡ before)
SelectsOnce (NoTask misfit) before after = after ≡ one_more before

-- the file is the one that is selected, unless nothing was selected or the source failed
abbrev pub HasSelected : Status → ℕ → ℕ → Bool → Type 0
HasSelected Done before after selected = IsTrue selected
HasSelected (Refused r) before after selected = IsTrue selected
HasSelected Usage before after selected = Unit {0}
HasSelected SourceFault before after selected = Unit {0}
HasSelected SinkFault before after selected = IsTrue selected
HasSelected NoMemory before after selected = IsTrue selected ⊎ (after ≡ before)
HasSelected (NoTask misfit) before after selected = IsTrue selected

-- where it has its model nothing is left of the text
abbrev pub IsAtEnd : Option (List ℕ) → Type 0
IsAtEnd left = IfSome left (λ rest. rest ≡ [])

abbrev pub HasReadAll : Status → Option (List ℕ) → Type 0
HasReadAll Done left = IsAtEnd left
HasReadAll (NoTask misfit) left = IsAtEnd left
HasReadAll status left = Unit {0}

-- an accepted text is done, unless memory is refused
abbrev pub IsDoneOrShort : Status → Type 0
IsDoneOrShort status = (status ≡ Done) ⊎ (status ≡ NoMemory)

-- a text that is refused so is answered so, unless memory is refused
abbrev pub IsRefusedOrShort : Code → ℕ → ℕ → Status → Type 0
IsRefusedOrShort code line column status = (status ≡ Refused (record { code = code_number code; line = line; column = column })) ⊎ (status ≡ NoMemory)

-- a run of a text that is accepted ends so: it is done, or the sink failed, or memory was refused
abbrev pub IsUnrefused : Status → Type 0
IsUnrefused status = (status ≡ Done) ⊎ ((status ≡ SinkFault) ⊎ (status ≡ NoMemory))

-- each accepted text of the file is done, unless memory is refused
abbrev pub AnswersAccepted : Status → Option (List ℕ) → Type 0
AnswersAccepted status file = (text : List ℕ) (m : Instance) → file ≡ Some text → Reads text (Accepted m) → IsDoneOrShort status

-- there is no such part, or there was no memory
abbrev pub LacksTaskOrShort : Status → Type 0
LacksTaskOrShort status = ((misfit : Misfit) × (status ≡ NoTask misfit)) ⊎ (status ≡ NoMemory)

-- a part of an accepted text is done exactly where the model has it, unless memory is refused
abbrev pub AnswersPart : Status → List ℕ → Option ℤ → Option (List ℕ) → Type 0
AnswersPart status part better file = (text : List ℕ) (m : Instance) → file ≡ Some text → Reads text (Accepted m)
    → (HasTask m part better → IsDoneOrShort status) × ((HasTask m part better → ⊥) → LacksTaskOrShort status)

-- and each refused one is answered by its refusal
abbrev pub AnswersRefused : Status → Option (List ℕ) → Type 0
AnswersRefused status file = (text : List ℕ) (code : Code) (line column : ℕ) → file ≡ Some text → Reads text (reads.Refused code line column)
    → IsRefusedOrShort code line column status
