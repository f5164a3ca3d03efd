-- Which of the language's tokens a token of the code is.
use Rattle.std.specs.Prelude.{ℕ, ◌≤◌, List, length, slice_range}
use Rattle.fz_language.specs.Tokens as language
use Rattle.fz_lex.specs.declared.lexeme.Lexeme.{Lexeme}
use Rattle.fz_lex.specs.declared.lexeme.Lexeme.TheVariants.{Identifier, Word, Integer, Float, Text, Sign}

-- what a token says that begins at this place of a text
abbrev pub lexeme_of : List ℕ → ℕ → Lexeme → language.Lexeme
lexeme_of text at (Identifier stop) = language.Identifier (slice_range text at stop)
lexeme_of text at (Word k) = language.Word k
lexeme_of text at (Integer n) = language.Number n
lexeme_of text at Float = language.Float
lexeme_of text at Text = language.Text
lexeme_of text at (Sign s) = language.Punct s

-- an identifier's bytes are a part of the text
abbrev pub IsBounded : List ℕ → ℕ → Lexeme → Type 0
IsBounded text at (Identifier stop) = (at ≤ stop) × (stop ≤ length text)
IsBounded text at (Word k) = Unit {0}
IsBounded text at (Integer n) = Unit {0}
IsBounded text at Float = Unit {0}
IsBounded text at Text = Unit {0}
IsBounded text at (Sign s) = Unit {0}
