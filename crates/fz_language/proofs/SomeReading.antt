-- A text has a reading.
use Rattle.std.proofs.Common.{◌≡◌, ℕ, ◌⊎◌, inl, inr, List, [], length, refl}
use Rattle.std.proofs.lemmas.Bool.{cases_lt}
use Rattle.fz_spec.specs.declared.limits.TheConstants.{TEXT_LIMIT}
use Rattle.fz_spec.specs.declared.code.Code.{Code}
use Rattle.fz_spec.specs.declared.code.Code.TheVariants as code
use Rattle.fz_language.specs.declared.fault.SyntaxFault.TheVariants.{Unexpected, TooDeep}
use Rattle.fz_language.specs.Places.{line_of, column_of}
use Rattle.fz_language.specs.Tokens.{Token, AreTokensOf, place_in}
use Rattle.fz_language.specs.Trees.{Program}
use Rattle.fz_language.specs.Grammar.{Spells, Breaks, IsTooDeep}
use Rattle.fz_language.specs.Models.{model_of}
use Rattle.fz_language.specs.Reads.{token_code, syntax_code, program_faults, IsShort, IsProgramText, IsFirst, IsRefusedAt, Reading, Accepted, Refused, Reads}
use Rattle.fz_language.specs.Laws.{SomeReading}
use Rattle.fz_language.proofs.RuleLaws.{judged}
use Rattle.fz_language.proofs.SyntaxProofs.{some_verdict_is}
use Rattle.fz_language.proofs.SomeTokens.{some_tokens}

abbrev HasReading : List ℕ → Type 0
HasReading text = (r : Reading) × Reads text r

refused : (text : List ℕ) (c : Code) (at : ℕ) → IsRefusedAt text c at → HasReading text
refused text c at h = (Refused c (line_of text at) (column_of text at), record { at = at; refused = h; line_is = refl; column_is = refl })

of_program : (text : List ℕ) (p : Program) → IsProgramText text p → (program_faults p ≡ []) ⊎ ((c : Code) × (at : ℕ) × IsFirst (program_faults p) c at) → HasReading text
of_program text p s (inl e) = (Accepted (model_of p), record { program = p; spelt = s; keep = e; is = refl })
of_program text p s (inr f) = refused text f.0 f.1 (inr (inr (inr (record { program = p; spelt = s; first = f.2 }))))

of_tokens : (text : List ℕ) (ts : List Token) → IsShort text → AreTokensOf text ts → ((p : Program) × Spells ts p) ⊎ (((b : List Token) × Breaks ts b) ⊎ ((b : List Token) × IsTooDeep ts b)) → HasReading text
of_tokens text ts s l (inl p) = of_program text p.0 (record { short = s; tokens = ts; lexed = l; spelt = p.1 }) (judged (program_faults p.0))
of_tokens text ts s l (inr (inl b)) =
    refused text (syntax_code Unexpected) (place_in text b.0) (inr (inr (inl (record { short = s; tokens = ts; lexed = l; tokens_behind = b.0; fault = inl (refl, b.1); place = refl }))))
of_tokens text ts s l (inr (inr b)) =
    refused text (syntax_code TooDeep) (place_in text b.0) (inr (inr (inl (record { short = s; tokens = ts; lexed = l; tokens_behind = b.0; fault = inr (refl, b.1); place = refl }))))

pub some_reading : SomeReading
some_reading text = elim (cases_lt TEXT_LIMIT (length text)) [
  | inl long ↦ refused text code.OverLimit TEXT_LIMIT (inl (record { long = long; code = refl; place = refl }))
  | inr short ↦ elim (some_tokens text) [
    | inl t ↦ of_tokens text t.0 short t.1 (some_verdict_is t.0)
    | inr f ↦ refused text (token_code f.0) f.1 (inr (inl (record { short = short; fault = f.0; first = f.2; code = refl })))
  ]
]
