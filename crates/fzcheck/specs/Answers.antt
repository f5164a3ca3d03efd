-- What each answer of the checker says of the two texts, of what was printed, and of its cause. `fzcheck` cites these.
use Rattle.std.specs.Prelude.{◌≡◌, ◌⊎◌, ℕ, ◌+◌, ◌<◌, ◌≤◌, ◌&&◌, take, Option, Some, None, IfSome, List, [], ◌∷◌, length, codes, bytes_eq, if◌then◌else◌}
use Rattle.fz_spec.specs.declared.limits.TheConstants.{TEXT_LIMIT}
use Rattle.fz_spec.specs.Instance.{Instance}
use Rattle.fz_language.specs.Reads.{Reads, Accepted}
use Rattle.fz_io.specs.Outside.{with_more, AllFlushed}
use Rattle.fz_print.specs.declared.refusal.Refusal.{Refusal}
use Rattle.fz_print.specs.Refusal.{text_of}
use Rattle.fz_reader.specs.Refusals.{IsRefusal}
use Rattle.fz_refutes.specs.Laws.{Shows}
use Rattle.fz_refutes.specs.Texts.{Proves}
use Rattle.fzcheck.specs.declared.run.TheConstants.{OUTPUT_LIMIT}
use Rattle.fzcheck.specs.declared.status.CheckStatus.{CheckStatus}
use Rattle.fzcheck.specs.declared.status.CheckStatus.TheVariants.{Yes, No, Usage, SourceFault, SinkFault, Refused, NoMemory}

-- the exit status of each answer
abbrev pub code_of : CheckStatus → ℕ
code_of Yes = 0
code_of No = 1
code_of Usage = 2
code_of SourceFault = 3
code_of SinkFault = 4
code_of (Refused r) = 5
code_of NoMemory = 6

-- the names of the model and of the output, not both of standard input
abbrev pub named : List ℕ → List ℕ → Option (List ℕ × List ℕ)
named model output = if bytes_eq model (codes "-") && bytes_eq output (codes "-") then None else Some (model, output)

abbrev pub asked_of : List (List ℕ) → Option (List ℕ × List ℕ)
asked_of (model ∷ output ∷ []) = named model output
asked_of words = None

-- What is read of a file, where its text is told: that, or the first bytes of one that is longer than the limit, one more than it.
abbrev pub IsReadOf : ℕ → Option (List ℕ) → List ℕ → Type 0
IsReadOf limit file read = IfSome file (λ text. read ≡ take (limit + 1) text)

-- The output is within its limit and proves: its last block is best, or none satisfies.
pub record IsProved (m : Instance) (file : Option (List ℕ)) : Type 0 where
  pub output : List ℕ
  pub read : IsReadOf OUTPUT_LIMIT file output
  pub short : length output ≤ OUTPUT_LIMIT
  pub shows : Shows m output

-- The output is longer than its limit, or doesn't prove.
pub record IsUnproved (m : Instance) (file : Option (List ℕ)) : Type 0 where
  pub output : List ℕ
  pub read : IsReadOf OUTPUT_LIMIT file output
  pub fails : (OUTPUT_LIMIT < length output) ⊎ (Proves m output → ⊥)

-- what the answer says of a model and an output
abbrev pub Judges : CheckStatus → Instance → Option (List ℕ) → Type 0
Judges Yes m file = IsProved m file
Judges No m file = IsUnproved m file
Judges Usage m file = ⊥
Judges SourceFault m file = Unit {0}
Judges SinkFault m file = ⊥
Judges (Refused r) m file = ⊥
Judges NoMemory m file = Unit {0}

-- the text of the model is accepted, and the answer says this of its model
pub record IsJudged (status : CheckStatus) (model_file output_file : Option (List ℕ)) : Type 0 where
  pub text : List ℕ
  pub model : Instance
  pub read : IsReadOf TEXT_LIMIT model_file text
  pub accepted : Reads text (Accepted model)
  pub judged : Judges status model output_file

-- the text of the model is refused so
pub record IsRefusedText (model_file : Option (List ℕ)) (r : Refusal) : Type 0 where
  pub text : List ℕ
  pub read : IsReadOf TEXT_LIMIT model_file text
  pub refused : IsRefusal text r

-- what the answer says of the two texts
abbrev pub Answers : CheckStatus → Option (List ℕ) → Option (List ℕ) → Type 0
Answers Yes model_file output_file = IsJudged Yes model_file output_file
Answers No model_file output_file = IsJudged No model_file output_file
Answers Usage model_file output_file = ⊥
Answers SourceFault model_file output_file = Unit {0}
Answers SinkFault model_file output_file = Unit {0}
Answers (Refused r) model_file output_file = IsRefusedText model_file r
Answers NoMemory model_file output_file = Unit {0}

-- what is printed at each answer
abbrev pub answer_text : CheckStatus → List ℕ
answer_text Yes = codes "yes\n"
answer_text No = codes "no\n"
answer_text Usage = []
answer_text SourceFault = []
answer_text SinkFault = []
answer_text (Refused r) = text_of r
answer_text NoMemory = []

-- What the sink took in this call: the answer's text; where it failed, a prefix of the text of the answer that fits.
pub record TakesFront (model_file output_file before after : Option (List ℕ)) : Type 0 where
  pub meant : CheckStatus
  pub count : ℕ
  pub answers : Answers meant model_file output_file
  pub taken : after ≡ with_more before (take count (answer_text meant))

abbrev pub Prints : CheckStatus → Option (List ℕ) → Option (List ℕ) → Option (List ℕ) → Option (List ℕ) → Type 0
Prints Yes model_file output_file before after = after ≡ with_more before (answer_text Yes)
Prints No model_file output_file before after = after ≡ with_more before (answer_text No)
Prints Usage model_file output_file before after = after ≡ before
Prints SourceFault model_file output_file before after = after ≡ before
Prints SinkFault model_file output_file before after = TakesFront model_file output_file before after
Prints (Refused r) model_file output_file before after = after ≡ with_more before (answer_text (Refused r))
Prints NoMemory model_file output_file before after = after ≡ before

-- all of it is flushed
abbrev pub IsFlushed : CheckStatus → Option (List ℕ) → ℕ → Type 0
IsFlushed Yes after flushed = AllFlushed after flushed
IsFlushed No after flushed = AllFlushed after flushed
IsFlushed Usage after flushed = Unit {0}
IsFlushed SourceFault after flushed = Unit {0}
IsFlushed SinkFault after flushed = Unit {0}
IsFlushed (Refused r) after flushed = AllFlushed after flushed
IsFlushed NoMemory after flushed = Unit {0}

-- each answer's cause, by the counts of faults of the source and of the sink before and after
abbrev pub HasItsCause : CheckStatus → ℕ → ℕ → ℕ → ℕ → Type 0
HasItsCause Yes a b c d = (b ≡ a) × (d ≡ c)
HasItsCause No a b c d = (b ≡ a) × (d ≡ c)
HasItsCause Usage a b c d = (b ≡ a) × (d ≡ c)
HasItsCause SourceFault a b c d = (a < b) × (d ≡ c)
HasItsCause SinkFault a b c d = (b ≡ a) × (c < d)
HasItsCause (Refused r) a b c d = (b ≡ a) × (d ≡ c)
HasItsCause NoMemory a b c d = (b ≡ a) × (d ≡ c)
