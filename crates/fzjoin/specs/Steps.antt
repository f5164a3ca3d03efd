-- What the steps of a join say, within this crate.
use Rattle.std.specs.Prelude.{◌≡◌, ◌⊎◌, ℕ, ◌<◌, Bool, Option, IfSome, Result, Ok, Err, MatchResult, List, [], ◌++◌, option_map}
use Rattle.fz_io.specs.Outside.{with_more, AllFlushed}
use Rattle.fz_print.specs.Refusal.{text_of}
use Rattle.fz_shown.specs.Shown.{ShowsAll}
use Rattle.fz_join.specs.Joins.{ArePartsOf, Ran, parts_text}
use Rattle.fz_join.specs.Joining.{AreBlocks, Joining, HaveRun}
use Rattle.fz_join.specs.Joining as joining
use Rattle.fz_join.specs.declared.lack.Lack.{Lack}
use Rattle.fz_join.specs.declared.lack.Lack.TheVariants as lack
use Rattle.fzjoin.specs.declared.prepare.Stop.{Stop}
use Rattle.fzjoin.specs.declared.prepare.Stop.TheVariants.{Memory, Fault}
use Rattle.fzjoin.specs.declared.status.JoinStatus.{JoinStatus}
use Rattle.fzjoin.specs.declared.status.JoinStatus.TheVariants.{Done, Usage, SourceFault, SinkFault, Refused, NoMemory, NoParts, SameParts, CutOff, Part, Bound, NoSolution}
use Rattle.fzjoin.specs.Answers.{Files, AreRead, AreNoParts, AreSameParts, Answers, HasItsCause, IsFlushed, IsRefusedText, TakesMore}

-- ---- what is read before the texts

-- the count of the source at a stop, and where there was none
abbrev pub CountsAtStop : ℕ → ℕ → Stop → Type 0
CountsAtStop before after Memory = after ≡ before
CountsAtStop before after Fault = before < after

abbrev pub HasStopCause : {T : Type 0} → ℕ → ℕ → Result T Stop → Type 0
HasStopCause before after result = MatchResult result (λ _. after ≡ before) (CountsAtStop before after)

-- a join that begins
pub record IsReady (all : Bool) (f : Files) (j : Joining) : Type 0 where
  pub asked : j.all ≡ all
  pub read : AreRead f j.model (parts_text j.parts)
  pub of_model : ArePartsOf j.model j.parts
  pub none_read : j.read ≡ []
  pub none_printed : j.printed ≡ []

-- why none begins
abbrev pub IsUnready : JoinStatus → Files → Type 0
IsUnready Done f = ⊥
IsUnready Usage f = ⊥
IsUnready SourceFault f = Unit {0}
IsUnready SinkFault f = ⊥
IsUnready (Refused r) f = IsRefusedText f.model r
IsUnready NoMemory f = Unit {0}
IsUnready (NoParts line) f = AreNoParts f line
IsUnready SameParts f = AreSameParts f
IsUnready CutOff f = ⊥
IsUnready (Part place) f = ⊥
IsUnready Bound f = ⊥
IsUnready NoSolution f = ⊥

abbrev pub IsPrepared : Result Joining JoinStatus → Bool → Files → Type 0
IsPrepared (Ok j) all f = IsReady all f j
IsPrepared (Err status) all f = IsUnready status f

-- the answers where none begins, by the counts of the source
abbrev pub HasSourceCause : JoinStatus → ℕ → ℕ → Type 0
HasSourceCause Done a b = ⊥
HasSourceCause Usage a b = ⊥
HasSourceCause SourceFault a b = a < b
HasSourceCause SinkFault a b = ⊥
HasSourceCause (Refused r) a b = b ≡ a
HasSourceCause NoMemory a b = b ≡ a
HasSourceCause (NoParts line) a b = b ≡ a
HasSourceCause SameParts a b = b ≡ a
HasSourceCause CutOff a b = ⊥
HasSourceCause (Part place) a b = ⊥
HasSourceCause Bound a b = ⊥
HasSourceCause NoSolution a b = ⊥

abbrev pub HasReadyCause : ℕ → ℕ → Result Joining JoinStatus → Type 0
HasReadyCause a b (Ok j) = b ≡ a
HasReadyCause a b (Err status) = HasSourceCause status a b

-- ---- what is printed

-- all was taken and flushed, and the answer is as it was to be
pub record IsPut (meant result : JoinStatus) (text : List ℕ) (before after : Option (List ℕ)) (flushed c d : ℕ) : Type 0 where
  pub status : result ≡ meant
  pub taken : after ≡ with_more before text
  pub whole : AllFlushed after flushed
  pub counts : d ≡ c

-- the sink failed
pub record IsCut (result : JoinStatus) (before after : Option (List ℕ)) (c d : ℕ) : Type 0 where
  pub status : result ≡ SinkFault
  pub more : TakesMore before after
  pub counts : c < d

abbrev pub Puts : JoinStatus → JoinStatus → List ℕ → Option (List ℕ) → Option (List ℕ) → ℕ → ℕ → ℕ → Type 0
Puts meant result text before after flushed c d = IsPut meant result text before after flushed c d ⊎ IsCut result before after c d

-- nothing was printed
pub record IsQuiet (meant result : JoinStatus) (before after : Option (List ℕ)) (c d : ℕ) : Type 0 where
  pub status : result ≡ meant
  pub taken : after ≡ before
  pub counts : d ≡ c

-- a refusal is told: its text is put, or there was no memory for that
abbrev pub IsTold : JoinStatus → JoinStatus → Option (List ℕ) → Option (List ℕ) → ℕ → ℕ → ℕ → Type 0
IsTold Done result before after flushed c d = IsQuiet Done result before after c d
IsTold Usage result before after flushed c d = IsQuiet Usage result before after c d
IsTold SourceFault result before after flushed c d = IsQuiet SourceFault result before after c d
IsTold SinkFault result before after flushed c d = IsQuiet SinkFault result before after c d
IsTold (Refused r) result before after flushed c d = Puts (Refused r) result (text_of r) before after flushed c d ⊎ IsQuiet NoMemory result before after c d
IsTold NoMemory result before after flushed c d = IsQuiet NoMemory result before after c d
IsTold (NoParts line) result before after flushed c d = IsQuiet (NoParts line) result before after c d
IsTold SameParts result before after flushed c d = IsQuiet SameParts result before after c d
IsTold CutOff result before after flushed c d = IsQuiet CutOff result before after c d
IsTold (Part place) result before after flushed c d = IsQuiet (Part place) result before after c d
IsTold Bound result before after flushed c d = IsQuiet Bound result before after c d
IsTold NoSolution result before after flushed c d = IsQuiet NoSolution result before after c d

-- ---- the texts

-- the join, where this is read and printed
abbrev pub fed : Joining → List ℕ → List ℕ → Joining
fed j read printed = record { model = j.model; all = j.all; parts = j.parts; read = read; printed = printed }

-- what was read, and what is left, are the text
abbrev pub with_left : List ℕ → Option (List ℕ) → Option (List ℕ)
with_left read left = option_map (λ rest. read ++ rest) left

-- a piece is read, and what is to be printed by then is put
pub record IsFed (piece : List ℕ) (old new : Joining) (before after : Option (List ℕ)) : Type 0 where
  pub more : List ℕ
  pub is : new ≡ fed old (old.read ++ piece) (old.printed ++ more)
  pub taken : after ≡ with_more before more

-- the texts are read whole, and what is to be printed by then is put
pub record IsPassed (old new : Joining) (file before after : Option (List ℕ)) : Type 0 where
  pub is : new ≡ fed old new.read new.printed
  pub texts : IfSome file (λ text. new.read ≡ text)
  pub taken : after ≡ with_more before new.printed

-- a fault, or no memory, by the counts of the source and of the sink
abbrev pub IsBroken : JoinStatus → ℕ → ℕ → ℕ → ℕ → Type 0
IsBroken Done a b c d = ⊥
IsBroken Usage a b c d = ⊥
IsBroken SourceFault a b c d = (a < b) × (d ≡ c)
IsBroken SinkFault a b c d = (b ≡ a) × (c < d)
IsBroken (Refused r) a b c d = ⊥
IsBroken NoMemory a b c d = (b ≡ a) × (d ≡ c)
IsBroken (NoParts line) a b c d = ⊥
IsBroken SameParts a b c d = ⊥
IsBroken CutOff a b c d = ⊥
IsBroken (Part place) a b c d = ⊥
IsBroken Bound a b c d = ⊥
IsBroken NoSolution a b c d = ⊥

abbrev pub HasTextCause : Result (Unit {0}) JoinStatus → ℕ → ℕ → ℕ → ℕ → Type 0
HasTextCause (Ok done) a b c d = (b ≡ a) × (d ≡ c)
HasTextCause (Err status) a b c d = IsBroken status a b c d

-- ---- the end

abbrev pub ended_as : Result (Unit {0}) Lack → JoinStatus
ended_as (Ok done) = Done
ended_as (Err lack.CutOff) = CutOff
ended_as (Err (lack.Part place)) = Part place
ended_as (Err lack.Bound) = Bound
ended_as (Err lack.NoSolution) = NoSolution

-- what is left is put, and what is printed in all is as the answer says
pub record IsFinal (j : Joining) (result : JoinStatus) (before after : Option (List ℕ)) (flushed c d : ℕ) : Type 0 where
  pub answer : Result (Unit {0}) Lack
  pub more : List ℕ
  pub quiet : joining.IsQuiet answer more
  pub blocks : AreBlocks j.model j.printed
  pub sound : ShowsAll j.model → joining.IsSound answer j.model (j.printed ++ more)
  pub answers : (rs : List Ran) → HaveRun j rs → joining.Answers answer j (j.printed ++ more) rs
  pub put : Puts (ended_as answer) result more before after flushed c d

-- or there was no memory
abbrev pub Finishes : Joining → JoinStatus → Option (List ℕ) → Option (List ℕ) → ℕ → ℕ → ℕ → Type 0
Finishes j result before after flushed c d = IsFinal j result before after flushed c d ⊎ IsQuiet NoMemory result before after c d

-- what a whole call says at its end
pub record Ends (result : JoinStatus) (all : Bool) (f : Files) (before after : Option (List ℕ)) (flushed a b c d : ℕ) : Type 0 where
  pub answers : Answers result all f before after
  pub whole : IsFlushed result after flushed
  pub cause : HasItsCause result a b c d
