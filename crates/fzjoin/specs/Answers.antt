-- What each answer of the joiner says of the texts, of what was printed, and of its cause. `fzjoin` cites these.
use Rattle.std.specs.Prelude.{◌≡◌, ℕ, ◌+◌, ◌<◌, ◌≤◌, Bool, true, false, ◌||◌, take, Option, Some, None, IfSome, Result, Ok, Err, List, [], ◌∷◌, length, codes, bytes_eq, if◌then◌else◌}
use Rattle.std.specs.List.{AllByRecursion}
use Rattle.fz_spec.specs.declared.limits.TheConstants.{TEXT_LIMIT}
use Rattle.fz_spec.specs.Instance.{Instance}
use Rattle.fz_language.specs.Reads.{Reads, Accepted}
use Rattle.fz_tree.specs.declared.decision.Decision.{Decision}
use Rattle.fz_io.specs.Outside.{with_more, AllFlushed}
use Rattle.fz_part.specs.Parts.{IsPartOf}
use Rattle.fz_print.specs.declared.refusal.Refusal.{Refusal}
use Rattle.fz_print.specs.Refusal.{text_of}
use Rattle.fz_reader.specs.Refusals.{IsRefusal}
use Rattle.fz_shown.specs.Shown.{ShowsAll}
use Rattle.fz_join.specs.Joins.{ArePartsOf, Ran, parts_text}
use Rattle.fz_join.specs.Joining.{AreBlocks, Joining, HaveRun}
use Rattle.fz_join.specs.Joining as joining
use Rattle.fz_join.specs.Parting.{IsMisplaced}
use Rattle.fz_join.specs.declared.lack.Lack.{Lack}
use Rattle.fz_join.specs.declared.lack.Lack.TheVariants as lack
use Rattle.fzjoin.specs.declared.prepare.TheConstants.{PARTS_LIMIT}
use Rattle.fzjoin.specs.declared.status.JoinStatus.{JoinStatus}
use Rattle.fzjoin.specs.declared.status.JoinStatus.TheVariants.{Done, Usage, SourceFault, SinkFault, Refused, NoMemory, NoParts, SameParts, CutOff, Part, Bound, NoSolution}

-- the exit status of each answer
abbrev pub code_of : JoinStatus → ℕ
code_of Done = 0
code_of Usage = 2
code_of SourceFault = 3
code_of SinkFault = 4
code_of (Refused r) = 5
code_of NoMemory = 6
code_of (NoParts line) = 7
code_of SameParts = 8
code_of CutOff = 9
code_of (Part place) = 10
code_of Bound = 11
code_of NoSolution = 12

-- ---- words

-- whether all solutions are asked for, and the names of the model and of the parts
pub record Call : Type 0 where
  pub all : Bool
  pub model : List ℕ
  pub parts : List ℕ

-- standard input, which has the texts
abbrev pub input : List ℕ
input = codes "-"

-- the names of the model and of the parts, which aren't standard input
abbrev pub named : Bool → List ℕ → List ℕ → Option Call
named all model parts = if bytes_eq model input || bytes_eq parts input then None else Some (record { all = all; model = model; parts = parts })

-- `-a` before them asks for all solutions
abbrev pub flagged : List ℕ → List ℕ → List ℕ → Option Call
flagged flag model parts = if bytes_eq flag (codes "-a") then named true model parts else None

abbrev pub asked_of : List (List ℕ) → Option Call
asked_of (model ∷ parts ∷ []) = named false model parts
asked_of (flag ∷ model ∷ parts ∷ []) = flagged flag model parts
asked_of words = None

-- ---- files

-- the model, the parts, and the texts that runs printed, each where it is told
pub record Files : Type 0 where
  pub model : Option (List ℕ)
  pub parts : Option (List ℕ)
  pub texts : Option (List ℕ)

abbrev pub files_of : (List ℕ → Option (List ℕ)) → Call → Files
files_of texts call = record { model = texts call.model; parts = texts call.parts; texts = texts input }

-- What is read of a file, where its text is told: that, or the first bytes of one that is longer than the limit, one more than it.
abbrev pub IsReadOf : ℕ → Option (List ℕ) → List ℕ → Type 0
IsReadOf limit file read = IfSome file (λ text. read ≡ take (limit + 1) text)

-- the text is accepted as this model
pub record IsModelOf (file : Option (List ℕ)) (m : Instance) : Type 0 where
  pub text : List ℕ
  pub read : IsReadOf TEXT_LIMIT file text
  pub accepted : Reads text (Accepted m)

-- the text is refused so
pub record IsRefusedText (file : Option (List ℕ)) (r : Refusal) : Type 0 where
  pub text : List ℕ
  pub read : IsReadOf TEXT_LIMIT file text
  pub refused : IsRefusal text r

-- the model, and the text of the parts, which is within its limit
pub record AreRead (f : Files) (m : Instance) (text : List ℕ) : Type 0 where
  pub model : IsModelOf f.model m
  pub parts : IsReadOf PARTS_LIMIT f.parts text
  pub short : length text ≤ PARTS_LIMIT

-- the first line that is of no part
pub record AreNoParts (f : Files) (line : ℕ) : Type 0 where
  pub model : Instance
  pub text : List ℕ
  pub read : AreRead f model text
  pub misplaced : IsMisplaced model text line

-- parts of the model, two of them of the same text
pub record AreSameParts (f : Files) : Type 0 where
  pub model : Instance
  pub parts : List (List Decision)
  pub read : AreRead f model (parts_text parts)
  pub of_model : AllByRecursion (IsPartOf model) parts
  pub same : ArePartsOf model parts → ⊥

-- ---- answers

-- where something lacks, nothing but blocks is printed
abbrev pub IsCutShort : Result (Unit {0}) Lack → Instance → List ℕ → Type 0
IsCutShort (Ok done) m printed = Unit {0}
IsCutShort (Err lack) m printed = AreBlocks m printed

-- The texts are read whole, where they are told, and the sink took what is printed of them: what a run of the whole model prints, or
-- the blocks that come before something lacks. Where each variable is shown, these are blocks of assignments that satisfy the model.
pub record IsEnded (answer : Result (Unit {0}) Lack) (all : Bool) (f : Files) (before after : Option (List ℕ)) : Type 0 where
  pub join : Joining
  pub asked : join.all ≡ all
  pub read : AreRead f join.model (parts_text join.parts)
  pub of_model : ArePartsOf join.model join.parts
  pub texts : IfSome f.texts (λ text. join.read ≡ text)
  pub printed : List ℕ
  pub taken : after ≡ with_more before printed
  pub blocks : IsCutShort answer join.model printed
  pub sound : ShowsAll join.model → joining.IsSound answer join.model printed
  pub answers : (rs : List Ran) → HaveRun join rs → joining.Answers answer join printed rs

-- the sink took some text
abbrev pub TakesMore : Option (List ℕ) → Option (List ℕ) → Type 0
TakesMore before after = (more : List ℕ) × (after ≡ with_more before more)

-- what the answer says of the texts, and of what the sink took in this call
abbrev pub Answers : JoinStatus → Bool → Files → Option (List ℕ) → Option (List ℕ) → Type 0
Answers Done all f before after = IsEnded (Ok tt) all f before after
Answers Usage all f before after = ⊥
Answers SourceFault all f before after = TakesMore before after
Answers SinkFault all f before after = TakesMore before after
Answers (Refused r) all f before after = IsRefusedText f.model r × (after ≡ with_more before (text_of r))
Answers NoMemory all f before after = TakesMore before after
Answers (NoParts line) all f before after = AreNoParts f line × (after ≡ before)
Answers SameParts all f before after = AreSameParts f × (after ≡ before)
Answers CutOff all f before after = IsEnded (Err lack.CutOff) all f before after
Answers (Part place) all f before after = IsEnded (Err (lack.Part place)) all f before after
Answers Bound all f before after = IsEnded (Err lack.Bound) all f before after
Answers NoSolution all f before after = IsEnded (Err lack.NoSolution) all f before after

-- all of it is flushed
abbrev pub IsFlushed : JoinStatus → Option (List ℕ) → ℕ → Type 0
IsFlushed Done after flushed = AllFlushed after flushed
IsFlushed Usage after flushed = Unit {0}
IsFlushed SourceFault after flushed = Unit {0}
IsFlushed SinkFault after flushed = Unit {0}
IsFlushed (Refused r) after flushed = AllFlushed after flushed
IsFlushed NoMemory after flushed = Unit {0}
IsFlushed (NoParts line) after flushed = Unit {0}
IsFlushed SameParts after flushed = Unit {0}
IsFlushed CutOff after flushed = AllFlushed after flushed
IsFlushed (Part place) after flushed = AllFlushed after flushed
IsFlushed Bound after flushed = AllFlushed after flushed
IsFlushed NoSolution after flushed = AllFlushed after flushed

-- each answer's cause, by the counts of faults of the source and of the sink before and after
abbrev pub HasItsCause : JoinStatus → ℕ → ℕ → ℕ → ℕ → Type 0
HasItsCause Done a b c d = (b ≡ a) × (d ≡ c)
HasItsCause Usage a b c d = (b ≡ a) × (d ≡ c)
HasItsCause SourceFault a b c d = (a < b) × (d ≡ c)
HasItsCause SinkFault a b c d = (b ≡ a) × (c < d)
HasItsCause (Refused r) a b c d = (b ≡ a) × (d ≡ c)
HasItsCause NoMemory a b c d = (b ≡ a) × (d ≡ c)
HasItsCause (NoParts line) a b c d = (b ≡ a) × (d ≡ c)
HasItsCause SameParts a b c d = (b ≡ a) × (d ≡ c)
HasItsCause CutOff a b c d = (b ≡ a) × (d ≡ c)
HasItsCause (Part place) a b c d = (b ≡ a) × (d ≡ c)
HasItsCause Bound a b c d = (b ≡ a) × (d ≡ c)
HasItsCause NoSolution a b c d = (b ≡ a) × (d ≡ c)
