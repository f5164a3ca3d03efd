-- What the steps of a check say, within this crate.
use Rattle.std.specs.Prelude.{◌≡◌, ◌⊎◌, ℕ, ◌<◌, take, Option, Result, MatchResult, List}
use Rattle.fz_io.specs.Outside.{with_more, AllFlushed}
use Rattle.fzcheck.specs.declared.run.Stop.{Stop}
use Rattle.fzcheck.specs.declared.run.Stop.TheVariants.{Memory, Fault}
use Rattle.fzcheck.specs.declared.status.CheckStatus.{CheckStatus}
use Rattle.fzcheck.specs.declared.status.CheckStatus.TheVariants.{Yes, No, Usage, SourceFault, SinkFault, Refused, NoMemory}
use Rattle.fzcheck.specs.Answers.{answer_text}

-- the count of the source at a stop, and where there was none
abbrev pub CountsAtStop : ℕ → ℕ → Stop → Type 0
CountsAtStop before after Memory = after ≡ before
CountsAtStop before after Fault = before < after

abbrev pub HasStopCause : {T : Type 0} → ℕ → ℕ → Result T Stop → Type 0
HasStopCause before after result = MatchResult result (λ _. after ≡ before) (CountsAtStop before after)

-- the answers before anything is printed, by the counts of the source
abbrev pub HasSourceCause : CheckStatus → ℕ → ℕ → Type 0
HasSourceCause Yes a b = b ≡ a
HasSourceCause No a b = b ≡ a
HasSourceCause Usage a b = ⊥
HasSourceCause SourceFault a b = a < b
HasSourceCause SinkFault a b = ⊥
HasSourceCause (Refused r) a b = b ≡ a
HasSourceCause NoMemory a b = b ≡ a

-- all was taken and flushed, and the answer is as it was to be; or the sink failed, and took a prefix
pub record IsPut (meant result : CheckStatus) (text : List ℕ) (before after : Option (List ℕ)) (flushed c d : ℕ) : Type 0 where
  pub status : result ≡ meant
  pub taken : after ≡ with_more before text
  pub whole : AllFlushed after flushed
  pub counts : d ≡ c

pub record IsCut (result : CheckStatus) (text : List ℕ) (before after : Option (List ℕ)) (c d : ℕ) : Type 0 where
  pub status : result ≡ SinkFault
  pub count : ℕ
  pub taken : after ≡ with_more before (take count text)
  pub counts : c < d

abbrev pub Puts : CheckStatus → CheckStatus → List ℕ → Option (List ℕ) → Option (List ℕ) → ℕ → ℕ → ℕ → Type 0
Puts meant result text before after flushed c d = IsPut meant result text before after flushed c d ⊎ IsCut result text before after c d

-- nothing was printed
pub record IsQuiet (meant result : CheckStatus) (before after : Option (List ℕ)) (c d : ℕ) : Type 0 where
  pub status : result ≡ meant
  pub taken : after ≡ before
  pub counts : d ≡ c

-- an answer is told: its text is put; or there was no memory for that; or it has none
abbrev pub IsTold : CheckStatus → CheckStatus → Option (List ℕ) → Option (List ℕ) → ℕ → ℕ → ℕ → Type 0
IsTold Yes result before after flushed c d = Puts Yes result (answer_text Yes) before after flushed c d
IsTold No result before after flushed c d = Puts No result (answer_text No) before after flushed c d
IsTold Usage result before after flushed c d = IsQuiet Usage result before after c d
IsTold SourceFault result before after flushed c d = IsQuiet SourceFault result before after c d
IsTold SinkFault result before after flushed c d = IsQuiet SinkFault result before after c d
IsTold (Refused r) result before after flushed c d = Puts (Refused r) result (answer_text (Refused r)) before after flushed c d ⊎ IsQuiet NoMemory result before after c d
IsTold NoMemory result before after flushed c d = IsQuiet NoMemory result before after c d
