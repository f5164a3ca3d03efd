-- The text of a knapsack, as pieces.
use Rattle.std.proofs.Common.{ℕ, zero, suc, ℤ, pos, negsuc, ◌+◌, ◌/◌, List, [], ◌∷◌, ◌++◌, codes, map}
use Rattle.std.specs.Prelude.{decimal}
use Rattle.std.specs.List.{range_with_len}
use Rattle.fz_language.specs.declared.sign.Sign.{Sign}
use Rattle.fz_language.specs.declared.sign.Sign.TheVariants.{Semicolon, Colon, DoubleColon, Comma, LeftParenthesis, RightParenthesis, LeftBracket, RightBracket, DoubleDot}
use Rattle.fz_language.specs.declared.keyword.Keyword.{Keyword}
use Rattle.fz_language.specs.declared.keyword.Keyword.TheVariants as keyword
use Rattle.fz_language.specs.Tokens.{Lexeme, Identifier, Word, Number, Punct, keyword_bytes, sign_bytes}
use Rattle.fz_gen.specs.declared.text.Measure.{Measure}
use Rattle.fz_gen.specs.declared.text.Measure.TheVariants.{Weight, Value}
use Rattle.fz_gen.specs.Knapsack.{measure_of, total}
use Rattle.fz_gen.proofs.Spelling.{Piece, Blank, Said}

-- ---- tokens

abbrev pub sign : Sign → Piece
sign s = Said (Punct s) (sign_bytes s)

abbrev pub word : Keyword → Piece
word k = Said (Word k) (keyword_bytes k)

abbrev pub identifier : List ℕ → Piece
identifier name = Said (Identifier name) name

abbrev pub space : Piece
space = Blank 32

abbrev pub line : Piece
line = Blank 10

-- ---- lists

-- what stands in a list: a number as it is written, or a name
pub data Entry : Type 0 where
  Written : (value : ℤ) (digits : List ℕ) → Entry
  Known : (name : List ℕ) → Entry

abbrev pub lexeme_in : Entry → Lexeme
lexeme_in (Written value digits) = Number value
lexeme_in (Known name) = Identifier name

abbrev pub bytes_in : Entry → List ℕ
bytes_in (Written value digits) = digits
bytes_in (Known name) = name

abbrev pub entry : Entry → Piece
entry e = Said (lexeme_in e) (bytes_in e)

abbrev pub number : ℕ → Entry
number n = Written (pos n) (decimal n)

abbrev pub nought : Entry
nought = Written (pos 0) (codes "0")

abbrev pub one : Entry
one = Written (pos 1) (codes "1")

abbrev pub minus_one : Entry
minus_one = Written (negsuc 0) (codes "-1")

-- entries with a comma before each, and the bracket that closes them
abbrev pub further : List Entry → List Piece → List Piece
further [] ps = sign RightBracket ∷ ps
further (e ∷ es) ps = sign Comma ∷ entry e ∷ further es ps

-- all entries of a list, and that bracket
abbrev pub elements : List Entry → List Piece → List Piece
elements [] ps = sign RightBracket ∷ ps
elements (e ∷ es) ps = entry e ∷ further es ps

abbrev pub listed : List Entry → List Piece → List Piece
listed es ps = sign LeftBracket ∷ elements es ps

-- ---- items

-- `var 0..1: x1;`
abbrev pub name_of : ℕ → List ℕ
name_of i = codes "x" ++ decimal i

abbrev pub choice : ℕ → List Piece → List Piece
choice i ps = word keyword.Var ∷ space ∷ entry nought ∷ sign DoubleDot ∷ entry one ∷ sign Colon ∷ space ∷ identifier (name_of i) ∷ sign Semicolon ∷ line ∷ ps

-- that many of them, from a number on
abbrev pub choices : ℕ → ℕ → List Piece → List Piece
choices i zero ps = ps
choices i (suc k) ps = choice i (choices (i + 1) k ps)

abbrev pub goal_name : List ℕ
goal_name = codes "z"

-- `var 0..9: z :: output_var;`
abbrev pub goal : ℕ → List Piece → List Piece
goal most ps =
    word keyword.Var ∷ space ∷ entry nought ∷ sign DoubleDot ∷ entry (number most) ∷ sign Colon ∷ space ∷ identifier goal_name ∷ space ∷ sign DoubleColon ∷ space ∷ identifier (codes "output_var") ∷ sign Semicolon ∷ line ∷ ps

-- `constraint NAME([..],[..],N);`
abbrev pub sum : List ℕ → List Entry → List Entry → Entry → List Piece → List Piece
sum name factors names bound ps =
    word keyword.Constraint ∷ space ∷ identifier name ∷ sign LeftParenthesis ∷ listed factors (sign Comma ∷ listed names (sign Comma ∷ entry bound ∷ sign RightParenthesis ∷ sign Semicolon ∷ line ∷ ps))

-- `solve maximize z;`
abbrev pub solve : List Piece
solve = word keyword.Solve ∷ space ∷ word keyword.Maximize ∷ space ∷ identifier goal_name ∷ sign Semicolon ∷ line ∷ []

-- ---- the whole

abbrev pub measures : Measure → ℕ → List Entry
measures measure n = map (λ i. number (measure_of measure i)) (range_with_len 1 n)

abbrev pub names : ℕ → List Entry
names n = map (λ i. Known (name_of i)) (range_with_len 1 n)

abbrev pub weights : ℕ → List Piece → List Piece
weights n ps = sum (codes "int_lin_le") (measures Weight n) (names n) (number (total Weight n / 2)) ps

abbrev pub values : ℕ → List Piece → List Piece
values n ps = sum (codes "int_lin_eq") (measures Value n ++ minus_one ∷ []) (names n ++ Known goal_name ∷ []) nought ps

abbrev pub whole : ℕ → List Piece
whole n = choices 1 n (goal (total Value n) (weights n (values n solve)))
