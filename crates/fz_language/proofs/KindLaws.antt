-- A kind's number tells it.
use Rattle.std.proofs.Common.{◌≡◌, ℕ, ◌==◌, List, [], ◌∷◌, if◌then◌else◌, refl, sym, ap, ◌∙◌}
use Rattle.fz_language.specs.declared.sign.Sign.{Sign}
use Rattle.fz_language.specs.declared.sign.Sign.TheVariants as sign
use Rattle.fz_language.specs.declared.keyword.Keyword.{Keyword}
use Rattle.fz_language.specs.declared.keyword.Keyword.TheVariants as keyword
use Rattle.fz_language.specs.declared.token_kind.TokenKind.{TokenKind}
use Rattle.fz_language.specs.declared.token_kind.TokenKind.TheVariants as kind
use Rattle.fz_language.specs.Kinds.{number}

kind_in : ℕ → List TokenKind → TokenKind
kind_in n [] = kind.End
kind_in n (k ∷ ks) = if n == number k then k else kind_in n ks

kind_numbered : ℕ → TokenKind
kind_numbered n = kind_in n (kind.Identifier ∷ kind.Integer ∷ kind.Float ∷ kind.Text
    ∷ kind.Sign sign.Semicolon ∷ kind.Sign sign.Colon ∷ kind.Sign sign.DoubleColon ∷ kind.Sign sign.Comma ∷ kind.Sign sign.LeftParenthesis
    ∷ kind.Sign sign.RightParenthesis ∷ kind.Sign sign.LeftBracket ∷ kind.Sign sign.RightBracket ∷ kind.Sign sign.LeftBrace
    ∷ kind.Sign sign.RightBrace ∷ kind.Sign sign.Equals ∷ kind.Sign sign.DoubleDot
    ∷ kind.Keyword keyword.Array ∷ kind.Keyword keyword.Bool ∷ kind.Keyword keyword.Constraint ∷ kind.Keyword keyword.False
    ∷ kind.Keyword keyword.Float ∷ kind.Keyword keyword.Int ∷ kind.Keyword keyword.Maximize ∷ kind.Keyword keyword.Minimize
    ∷ kind.Keyword keyword.Of ∷ kind.Keyword keyword.Predicate ∷ kind.Keyword keyword.Satisfy ∷ kind.Keyword keyword.Set
    ∷ kind.Keyword keyword.Solve ∷ kind.Keyword keyword.True ∷ kind.Keyword keyword.Var ∷ [])

sign_back : (s : Sign) → kind_numbered (number (kind.Sign s)) ≡ kind.Sign s
unfolding kind_numbered kind_in
sign_back sign.Semicolon = refl
sign_back _ = refl

keyword_back : (k : Keyword) → kind_numbered (number (kind.Keyword k)) ≡ kind.Keyword k
unfolding kind_numbered kind_in
keyword_back keyword.Array = refl
keyword_back _ = refl

back : (k : TokenKind) → kind_numbered (number k) ≡ k
unfolding kind_numbered kind_in
back kind.End = refl
back kind.Identifier = refl
back kind.Integer = refl
back kind.Float = refl
back kind.Text = refl
back (kind.Sign s) = sign_back s
back (kind.Keyword k) = keyword_back k

pub same_kind : (a b : TokenKind) → number a ≡ number b → a ≡ b
same_kind a b e = sym (back a) ∙ ap kind_numbered e ∙ back b
