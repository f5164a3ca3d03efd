-- What a lexer knows. A text leads from each place to one list of tokens and one ending, as fz_language proves: these are ahead.
use Rattle.std.specs.Prelude.{◌≡◌, ℕ, ◌<◌, ◌≤◌, ◌⊎◌, List, [], length}
use Rattle.std.proofs.Common.{inl, inr}
use Rattle.std.proofs.lemmas.Bool.{cases_lt}
use Rattle.fz_spec.specs.declared.limits.TheConstants.{TEXT_LIMIT}
use Rattle.fz_language.specs.Tokens.{End, IsFault}
use Rattle.fz_language.proofs.SomeTokens.{leads_from}
use Rattle.fz_lex.specs.declared.lexer.Head.{Head}
use Rattle.fz_lex.specs.declared.lexer.Head.TheVariants as head
use Rattle.fz_lex.specs.Ahead.{Ahead}
use Rattle.fz_lex.specs.Steps.{IsFoundAt}

-- what is ahead of a place of the text; of a place after the text, nothing
unfoldable pub ahead_from : (text : List ℕ) (at : ℕ) → (length text < at) ⊎ (at ≤ length text) → Ahead
ahead_from text at (inl over) = record { source = record { text = text; ending = End }; tokens = [] }
ahead_from text at (inr within) = let l = leads_from text at within in record { source = record { text = text; ending = l.1 }; tokens = l.0 }

unfoldable pub ahead_of : List ℕ → ℕ → Ahead
ahead_of text at = ahead_from text at (cases_lt (length text) at)

-- a token stands there, or the text's end, or a fault
abbrev pub IsHead : List ℕ → ℕ → Head → Type 0
IsHead text at (head.Token lexeme stop) = IsFoundAt text at (record { lexeme = lexeme; stop = stop })
IsHead text at head.End = at ≡ length text
IsHead text at (head.Fault fault) = IsFault text fault at

pub record IsLexer (text : List ℕ) (at : ℕ) (h : Head) : Type 0 where
  pub short : length text ≤ TEXT_LIMIT
  pub within : at ≤ length text
  pub is : IsHead text at h
