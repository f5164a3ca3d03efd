-- What is ahead of a place of a text.
use Rattle.std.specs.Prelude.{◌≡◌, ◌≢◌, ℕ, List, [], ◌∷◌, drop, length}
use Rattle.fz_language.specs.declared.token_kind.TokenKind.{TokenKind}
use Rattle.fz_language.specs.Tokens.{Token, Lexeme, Ending, End, Fault}
use Rattle.fz_language.specs.Kinds.{number, kind_of}

-- a text, and what stands after its tokens
pub record Source : Type 0 where
  pub text : List ℕ
  pub ending : Ending

-- the tokens that are ahead, in order
pub record Ahead : Type 0 where
  pub source : Source
  pub tokens : List Token

-- the kind of the first of these tokens
abbrev pub head_kind : List Token → ℕ
head_kind [] = 0
head_kind (t ∷ ts) = number (kind_of t.lexeme)

-- the first of these tokens says this, at this place
abbrev pub Begins : List Token → Lexeme → ℕ → Type 0
Begins tokens lexeme at = tokens ≡ record { lexeme = lexeme; at = at } ∷ drop 1 tokens

-- the first of these tokens is of another kind, or there is none
abbrev pub IsNotAt : List Token → TokenKind → Type 0
IsNotAt tokens kind = head_kind tokens ≢ number kind

-- where tokens end
abbrev pub end_place : List ℕ → Ending → ℕ
end_place text End = length text
end_place text (Fault fault at) = at

-- the place of the first of these tokens, or of what stands after them
abbrev pub place_of : Source → List Token → ℕ
place_of source [] = end_place source.text source.ending
place_of source (t ∷ ts) = t.at

abbrev pub place_ahead : Ahead → ℕ
place_ahead ahead = place_of ahead.source ahead.tokens
