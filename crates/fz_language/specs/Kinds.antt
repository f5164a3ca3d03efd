-- The kinds of tokens, as numbers: 0 is the end of the text.
use Rattle.std.specs.Prelude.{ℕ}
use Rattle.fz_language.specs.declared.sign.Sign.{Sign}
use Rattle.fz_language.specs.declared.sign.Sign.TheVariants as sign
use Rattle.fz_language.specs.declared.keyword.Keyword.{Keyword}
use Rattle.fz_language.specs.declared.keyword.Keyword.TheVariants as keyword
use Rattle.fz_language.specs.declared.token_kind.TokenKind.{TokenKind}
use Rattle.fz_language.specs.declared.token_kind.TokenKind.TheVariants as kind
use Rattle.fz_language.specs.Tokens.{Lexeme, Identifier, Word, Number, Float, Text, Punct}

abbrev pub sign_number : Sign → ℕ
sign_number sign.Semicolon = 5
sign_number sign.Colon = 6
sign_number sign.DoubleColon = 7
sign_number sign.Comma = 8
sign_number sign.LeftParenthesis = 9
sign_number sign.RightParenthesis = 10
sign_number sign.LeftBracket = 11
sign_number sign.RightBracket = 12
sign_number sign.LeftBrace = 13
sign_number sign.RightBrace = 14
sign_number sign.Equals = 15
sign_number sign.DoubleDot = 16

abbrev pub keyword_number : Keyword → ℕ
keyword_number keyword.Array = 17
keyword_number keyword.Bool = 18
keyword_number keyword.Constraint = 19
keyword_number keyword.False = 20
keyword_number keyword.Float = 21
keyword_number keyword.Int = 22
keyword_number keyword.Maximize = 23
keyword_number keyword.Minimize = 24
keyword_number keyword.Of = 25
keyword_number keyword.Predicate = 26
keyword_number keyword.Satisfy = 27
keyword_number keyword.Set = 28
keyword_number keyword.Solve = 29
keyword_number keyword.True = 30
keyword_number keyword.Var = 31

abbrev pub number : TokenKind → ℕ
number kind.End = 0
number kind.Identifier = 1
number kind.Integer = 2
number kind.Float = 3
number kind.Text = 4
number (kind.Sign s) = sign_number s
number (kind.Keyword k) = keyword_number k

abbrev pub kind_of : Lexeme → TokenKind
kind_of (Identifier name) = kind.Identifier
kind_of (Word k) = kind.Keyword k
kind_of (Number v) = kind.Integer
kind_of Float = kind.Float
kind_of Text = kind.Text
kind_of (Punct s) = kind.Sign s
