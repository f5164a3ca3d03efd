-- What is said of a text that is refused.
use Rattle.std.specs.Prelude.{◌≡◌, ℕ, List}
use Rattle.fz_spec.specs.declared.code.Code.{Code}
use Rattle.fz_spec.specs.Codes.{code_number}
use Rattle.fz_language.specs.Reads.{Reads, IsRefusedAt}
use Rattle.fz_language.specs.Reads as reads
use Rattle.fz_print.specs.declared.refusal.Refusal.{Refusal}
use Rattle.fz_reader.specs.declared.reader.Cause.{Cause}

-- the text is refused for this cause
abbrev pub IsCause : List ℕ → Cause → Type 0
IsCause text cause = IsRefusedAt text cause.code cause.at

-- the text is refused so
pub record IsRefusal (text : List ℕ) (r : Refusal) : Type 0 where
  pub code : Code
  pub number : r.code ≡ code_number code
  pub reads : Reads text (reads.Refused code r.line r.column)
