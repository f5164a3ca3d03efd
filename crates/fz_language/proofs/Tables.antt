-- The tables of the grammar, which computation checks: one token tells which alternative goes on, and each rule can be completed.
use Rattle.std.proofs.Common.{◌≡◌, ℕ, ◌==◌, List, [], ◌∷◌, map, true, codes, pos, if◌then◌else◌, refl}
use Rattle.fz_language.specs.declared.sign.Sign.TheVariants.{Semicolon, Colon, DoubleColon, Comma, LeftParenthesis, RightParenthesis, LeftBracket, RightBracket, LeftBrace, RightBrace, Equals, DoubleDot}
use Rattle.fz_language.specs.declared.keyword.Keyword.{Keyword}
use Rattle.fz_language.specs.declared.keyword.Keyword.TheVariants as keyword
use Rattle.fz_language.specs.declared.sign.Sign.{Sign}
use Rattle.fz_language.specs.declared.token_kind.TokenKind.TheVariants as kind
use Rattle.fz_language.specs.Tokens.{Token, Lexeme, Identifier, Word, Number, Float, Text, Punct}
use Rattle.fz_language.specs.Kinds.{number, sign_number, keyword_number}
use Rattle.fz_language.specs.Grammar.{Part, WholeProgram, Items, OneItem, PredicateItem, Parameter, OfArray, IndexSets, Index, Variability, VariableItem, OptionalValue, ParameterItem, ArrayItem, ValueType, Plain, SetLiteral, Braces, OneNumber, Constant, RangeEnd, Basic, ListLiteral, Expression, ConstraintItem, SolveItem, Method, Annotations, Annotation, Called, Argument, Listed, More, Parameters, Indexes, Members, Elements, Expressions, Arguments, flatzinc, rules}
use Rattle.fz_grammar.specs.Tables.{Tables, is_fine}
use Rattle.fz_grammar.specs.Levels.{AreEven}

abbrev sign_of : ℕ → List Sign → Sign
sign_of k [] = DoubleDot
sign_of k (s ∷ ss) = if k == sign_number s then s else sign_of k ss

abbrev keyword_of : ℕ → List Keyword → Lexeme
keyword_of k [] = Punct (sign_of k (Semicolon ∷ Colon ∷ DoubleColon ∷ Comma ∷ LeftParenthesis ∷ RightParenthesis ∷ LeftBracket ∷ RightBracket ∷ LeftBrace ∷ RightBrace ∷ Equals ∷ []))
keyword_of k (w ∷ ws) = if k == keyword_number w then Word w else keyword_of k ws

-- some token of a kind
abbrev example : ℕ → Token
example k = record {
  lexeme = if k == 1 then Identifier (codes "x") else if k == 2 then Number (pos 0) else if k == 3 then Float else if k == 4 then Text else
      keyword_of k (keyword.Array ∷ keyword.Bool ∷ keyword.Constraint ∷ keyword.False ∷ keyword.Float ∷ keyword.Int ∷ keyword.Maximize ∷ keyword.Minimize
      ∷ keyword.Of ∷ keyword.Predicate ∷ keyword.Satisfy ∷ keyword.Set ∷ keyword.Solve ∷ keyword.True ∷ keyword.Var ∷ []);
  at = 0;
}

-- what may come where a rule is awaited
abbrev begins : Part → List ℕ
begins WholeProgram = map number (kind.Integer ∷ kind.Float ∷ kind.Sign LeftBrace ∷ kind.Keyword keyword.Array ∷ kind.Keyword keyword.Bool ∷ kind.Keyword keyword.Constraint ∷ kind.Keyword keyword.Float ∷ kind.Keyword keyword.Int ∷ kind.Keyword keyword.Predicate ∷ kind.Keyword keyword.Set ∷ kind.Keyword keyword.Solve ∷ kind.Keyword keyword.Var ∷ [])
begins Items = map number (kind.Integer ∷ kind.Float ∷ kind.Sign LeftBrace ∷ kind.Keyword keyword.Array ∷ kind.Keyword keyword.Bool ∷ kind.Keyword keyword.Constraint ∷ kind.Keyword keyword.Float ∷ kind.Keyword keyword.Int ∷ kind.Keyword keyword.Predicate ∷ kind.Keyword keyword.Set ∷ kind.Keyword keyword.Solve ∷ kind.Keyword keyword.Var ∷ [])
begins OneItem = map number (kind.Integer ∷ kind.Float ∷ kind.Sign LeftBrace ∷ kind.Keyword keyword.Array ∷ kind.Keyword keyword.Bool ∷ kind.Keyword keyword.Constraint ∷ kind.Keyword keyword.Float ∷ kind.Keyword keyword.Int ∷ kind.Keyword keyword.Predicate ∷ kind.Keyword keyword.Set ∷ kind.Keyword keyword.Var ∷ [])
begins PredicateItem = map number (kind.Keyword keyword.Predicate ∷ [])
begins Parameter = map number (kind.Integer ∷ kind.Float ∷ kind.Sign LeftBrace ∷ kind.Keyword keyword.Array ∷ kind.Keyword keyword.Bool ∷ kind.Keyword keyword.Float ∷ kind.Keyword keyword.Int ∷ kind.Keyword keyword.Set ∷ kind.Keyword keyword.Var ∷ [])
begins OfArray = map number (kind.Integer ∷ kind.Float ∷ kind.Sign LeftBrace ∷ kind.Keyword keyword.Array ∷ kind.Keyword keyword.Bool ∷ kind.Keyword keyword.Float ∷ kind.Keyword keyword.Int ∷ kind.Keyword keyword.Set ∷ kind.Keyword keyword.Var ∷ [])
begins IndexSets = map number (kind.Integer ∷ kind.Keyword keyword.Int ∷ [])
begins Index = map number (kind.Integer ∷ kind.Keyword keyword.Int ∷ [])
begins Variability = map number (kind.Integer ∷ kind.Float ∷ kind.Sign LeftBrace ∷ kind.Keyword keyword.Bool ∷ kind.Keyword keyword.Float ∷ kind.Keyword keyword.Int ∷ kind.Keyword keyword.Set ∷ kind.Keyword keyword.Var ∷ [])
begins VariableItem = map number (kind.Keyword keyword.Var ∷ [])
begins OptionalValue = map number (kind.Sign Semicolon ∷ kind.Sign Equals ∷ [])
begins ParameterItem = map number (kind.Integer ∷ kind.Float ∷ kind.Sign LeftBrace ∷ kind.Keyword keyword.Bool ∷ kind.Keyword keyword.Float ∷ kind.Keyword keyword.Int ∷ kind.Keyword keyword.Set ∷ [])
begins ArrayItem = map number (kind.Keyword keyword.Array ∷ [])
begins ValueType = map number (kind.Integer ∷ kind.Float ∷ kind.Sign LeftBrace ∷ kind.Keyword keyword.Bool ∷ kind.Keyword keyword.Float ∷ kind.Keyword keyword.Int ∷ kind.Keyword keyword.Set ∷ [])
begins Plain = map number (kind.Integer ∷ kind.Float ∷ kind.Sign LeftBrace ∷ kind.Keyword keyword.Bool ∷ kind.Keyword keyword.Float ∷ kind.Keyword keyword.Int ∷ [])
begins SetLiteral = map number (kind.Integer ∷ kind.Float ∷ kind.Sign LeftBrace ∷ [])
begins Braces = map number (kind.Sign LeftBrace ∷ [])
begins OneNumber = map number (kind.Integer ∷ kind.Float ∷ [])
begins Constant = map number (kind.Integer ∷ kind.Float ∷ kind.Sign LeftBrace ∷ kind.Keyword keyword.False ∷ kind.Keyword keyword.True ∷ [])
begins RangeEnd = map number (kind.Sign Semicolon ∷ kind.Sign Comma ∷ kind.Sign RightParenthesis ∷ kind.Sign RightBracket ∷ kind.Sign DoubleDot ∷ [])
begins Basic = map number (kind.Identifier ∷ kind.Integer ∷ kind.Float ∷ kind.Sign LeftBrace ∷ kind.Keyword keyword.False ∷ kind.Keyword keyword.True ∷ [])
begins ListLiteral = map number (kind.Sign LeftBracket ∷ [])
begins Expression = map number (kind.Identifier ∷ kind.Integer ∷ kind.Float ∷ kind.Sign LeftBracket ∷ kind.Sign LeftBrace ∷ kind.Keyword keyword.False ∷ kind.Keyword keyword.True ∷ [])
begins ConstraintItem = map number (kind.Keyword keyword.Constraint ∷ [])
begins SolveItem = map number (kind.Keyword keyword.Solve ∷ [])
begins Method = map number (kind.Keyword keyword.Maximize ∷ kind.Keyword keyword.Minimize ∷ kind.Keyword keyword.Satisfy ∷ [])
begins Annotations = map number (kind.Sign Semicolon ∷ kind.Sign DoubleColon ∷ kind.Sign Equals ∷ kind.Keyword keyword.Maximize ∷ kind.Keyword keyword.Minimize ∷ kind.Keyword keyword.Satisfy ∷ [])
begins Annotation = map number (kind.Identifier ∷ [])
begins Called = map number (kind.Sign Semicolon ∷ kind.Sign DoubleColon ∷ kind.Sign Comma ∷ kind.Sign LeftParenthesis ∷ kind.Sign RightParenthesis ∷ kind.Sign RightBracket ∷ kind.Sign Equals ∷ kind.Keyword keyword.Maximize ∷ kind.Keyword keyword.Minimize ∷ kind.Keyword keyword.Satisfy ∷ [])
begins Argument = map number (kind.Identifier ∷ kind.Integer ∷ kind.Float ∷ kind.Text ∷ kind.Sign LeftBracket ∷ kind.Sign LeftBrace ∷ kind.Keyword keyword.False ∷ kind.Keyword keyword.True ∷ [])
begins (Listed Parameters) = map number (kind.Integer ∷ kind.Float ∷ kind.Sign RightParenthesis ∷ kind.Sign LeftBrace ∷ kind.Keyword keyword.Array ∷ kind.Keyword keyword.Bool ∷ kind.Keyword keyword.Float ∷ kind.Keyword keyword.Int ∷ kind.Keyword keyword.Set ∷ kind.Keyword keyword.Var ∷ [])
begins (More Parameters) = map number (kind.Sign Comma ∷ kind.Sign RightParenthesis ∷ [])
begins (Listed Indexes) = map number (kind.Integer ∷ kind.Keyword keyword.Int ∷ [])
begins (More Indexes) = map number (kind.Sign Comma ∷ kind.Sign RightBracket ∷ [])
begins (Listed Members) = map number (kind.Integer ∷ kind.Float ∷ kind.Sign RightBrace ∷ [])
begins (More Members) = map number (kind.Sign Comma ∷ kind.Sign RightBrace ∷ [])
begins (Listed Elements) = map number (kind.Identifier ∷ kind.Integer ∷ kind.Float ∷ kind.Sign RightBracket ∷ kind.Sign LeftBrace ∷ kind.Keyword keyword.False ∷ kind.Keyword keyword.True ∷ [])
begins (More Elements) = map number (kind.Sign Comma ∷ kind.Sign RightBracket ∷ [])
begins (Listed Expressions) = map number (kind.Identifier ∷ kind.Integer ∷ kind.Float ∷ kind.Sign RightParenthesis ∷ kind.Sign LeftBracket ∷ kind.Sign LeftBrace ∷ kind.Keyword keyword.False ∷ kind.Keyword keyword.True ∷ [])
begins (More Expressions) = map number (kind.Sign Comma ∷ kind.Sign RightParenthesis ∷ [])
begins (Listed Arguments) = map number (kind.Identifier ∷ kind.Integer ∷ kind.Float ∷ kind.Text ∷ kind.Sign RightParenthesis ∷ kind.Sign LeftBracket ∷ kind.Sign RightBracket ∷ kind.Sign LeftBrace ∷ kind.Keyword keyword.False ∷ kind.Keyword keyword.True ∷ [])
begins (More Arguments) = map number (kind.Sign Comma ∷ kind.Sign RightParenthesis ∷ kind.Sign RightBracket ∷ [])

-- what may come after it
abbrev follow : Part → List ℕ
follow WholeProgram = map number (kind.End ∷ [])
follow Items = map number (kind.Keyword keyword.Solve ∷ [])
follow OneItem = map number (kind.Integer ∷ kind.Float ∷ kind.Sign LeftBrace ∷ kind.Keyword keyword.Array ∷ kind.Keyword keyword.Bool ∷ kind.Keyword keyword.Constraint ∷ kind.Keyword keyword.Float ∷ kind.Keyword keyword.Int ∷ kind.Keyword keyword.Predicate ∷ kind.Keyword keyword.Set ∷ kind.Keyword keyword.Solve ∷ kind.Keyword keyword.Var ∷ [])
follow PredicateItem = map number (kind.Integer ∷ kind.Float ∷ kind.Sign LeftBrace ∷ kind.Keyword keyword.Array ∷ kind.Keyword keyword.Bool ∷ kind.Keyword keyword.Constraint ∷ kind.Keyword keyword.Float ∷ kind.Keyword keyword.Int ∷ kind.Keyword keyword.Predicate ∷ kind.Keyword keyword.Set ∷ kind.Keyword keyword.Solve ∷ kind.Keyword keyword.Var ∷ [])
follow Parameter = map number (kind.Sign Comma ∷ kind.Sign RightParenthesis ∷ [])
follow OfArray = map number (kind.Integer ∷ kind.Float ∷ kind.Sign LeftBrace ∷ kind.Keyword keyword.Bool ∷ kind.Keyword keyword.Float ∷ kind.Keyword keyword.Int ∷ kind.Keyword keyword.Set ∷ kind.Keyword keyword.Var ∷ [])
follow IndexSets = map number (kind.Sign RightBracket ∷ [])
follow Index = map number (kind.Sign Comma ∷ kind.Sign RightBracket ∷ [])
follow Variability = map number (kind.Integer ∷ kind.Float ∷ kind.Sign LeftBrace ∷ kind.Keyword keyword.Bool ∷ kind.Keyword keyword.Float ∷ kind.Keyword keyword.Int ∷ kind.Keyword keyword.Set ∷ [])
follow VariableItem = map number (kind.Integer ∷ kind.Float ∷ kind.Sign LeftBrace ∷ kind.Keyword keyword.Array ∷ kind.Keyword keyword.Bool ∷ kind.Keyword keyword.Constraint ∷ kind.Keyword keyword.Float ∷ kind.Keyword keyword.Int ∷ kind.Keyword keyword.Predicate ∷ kind.Keyword keyword.Set ∷ kind.Keyword keyword.Solve ∷ kind.Keyword keyword.Var ∷ [])
follow OptionalValue = map number (kind.Sign Semicolon ∷ [])
follow ParameterItem = map number (kind.Integer ∷ kind.Float ∷ kind.Sign LeftBrace ∷ kind.Keyword keyword.Array ∷ kind.Keyword keyword.Bool ∷ kind.Keyword keyword.Constraint ∷ kind.Keyword keyword.Float ∷ kind.Keyword keyword.Int ∷ kind.Keyword keyword.Predicate ∷ kind.Keyword keyword.Set ∷ kind.Keyword keyword.Solve ∷ kind.Keyword keyword.Var ∷ [])
follow ArrayItem = map number (kind.Integer ∷ kind.Float ∷ kind.Sign LeftBrace ∷ kind.Keyword keyword.Array ∷ kind.Keyword keyword.Bool ∷ kind.Keyword keyword.Constraint ∷ kind.Keyword keyword.Float ∷ kind.Keyword keyword.Int ∷ kind.Keyword keyword.Predicate ∷ kind.Keyword keyword.Set ∷ kind.Keyword keyword.Solve ∷ kind.Keyword keyword.Var ∷ [])
follow ValueType = map number (kind.Sign Colon ∷ [])
follow Plain = map number (kind.Sign Colon ∷ [])
follow SetLiteral = map number (kind.Sign Colon ∷ [])
follow Braces = map number (kind.Sign Semicolon ∷ kind.Sign Colon ∷ kind.Sign Comma ∷ kind.Sign RightParenthesis ∷ kind.Sign RightBracket ∷ [])
follow OneNumber = map number (kind.Sign Semicolon ∷ kind.Sign Colon ∷ kind.Sign Comma ∷ kind.Sign RightParenthesis ∷ kind.Sign RightBracket ∷ kind.Sign RightBrace ∷ kind.Sign DoubleDot ∷ [])
follow Constant = map number (kind.Sign Semicolon ∷ kind.Sign Comma ∷ kind.Sign RightParenthesis ∷ kind.Sign RightBracket ∷ [])
follow RangeEnd = map number (kind.Sign Semicolon ∷ kind.Sign Comma ∷ kind.Sign RightParenthesis ∷ kind.Sign RightBracket ∷ [])
follow Basic = map number (kind.Sign Semicolon ∷ kind.Sign Comma ∷ kind.Sign RightParenthesis ∷ kind.Sign RightBracket ∷ [])
follow ListLiteral = map number (kind.Sign Semicolon ∷ kind.Sign Comma ∷ kind.Sign RightParenthesis ∷ [])
follow Expression = map number (kind.Sign Comma ∷ kind.Sign RightParenthesis ∷ [])
follow ConstraintItem = map number (kind.Integer ∷ kind.Float ∷ kind.Sign LeftBrace ∷ kind.Keyword keyword.Array ∷ kind.Keyword keyword.Bool ∷ kind.Keyword keyword.Constraint ∷ kind.Keyword keyword.Float ∷ kind.Keyword keyword.Int ∷ kind.Keyword keyword.Predicate ∷ kind.Keyword keyword.Set ∷ kind.Keyword keyword.Solve ∷ kind.Keyword keyword.Var ∷ [])
follow SolveItem = map number (kind.End ∷ [])
follow Method = map number (kind.Sign Semicolon ∷ [])
follow Annotations = map number (kind.Sign Semicolon ∷ kind.Sign Equals ∷ kind.Keyword keyword.Maximize ∷ kind.Keyword keyword.Minimize ∷ kind.Keyword keyword.Satisfy ∷ [])
follow Annotation = map number (kind.Sign Semicolon ∷ kind.Sign DoubleColon ∷ kind.Sign Comma ∷ kind.Sign RightParenthesis ∷ kind.Sign RightBracket ∷ kind.Sign Equals ∷ kind.Keyword keyword.Maximize ∷ kind.Keyword keyword.Minimize ∷ kind.Keyword keyword.Satisfy ∷ [])
follow Called = map number (kind.Sign Semicolon ∷ kind.Sign DoubleColon ∷ kind.Sign Comma ∷ kind.Sign RightParenthesis ∷ kind.Sign RightBracket ∷ kind.Sign Equals ∷ kind.Keyword keyword.Maximize ∷ kind.Keyword keyword.Minimize ∷ kind.Keyword keyword.Satisfy ∷ [])
follow Argument = map number (kind.Sign Comma ∷ kind.Sign RightParenthesis ∷ kind.Sign RightBracket ∷ [])
follow (Listed Parameters) = map number (kind.Sign RightParenthesis ∷ [])
follow (More Parameters) = map number (kind.Sign RightParenthesis ∷ [])
follow (Listed Indexes) = map number ([])
follow (More Indexes) = map number (kind.Sign RightBracket ∷ [])
follow (Listed Members) = map number (kind.Sign RightBrace ∷ [])
follow (More Members) = map number (kind.Sign RightBrace ∷ [])
follow (Listed Elements) = map number (kind.Sign RightBracket ∷ [])
follow (More Elements) = map number (kind.Sign RightBracket ∷ [])
follow (Listed Expressions) = map number (kind.Sign RightParenthesis ∷ [])
follow (More Expressions) = map number (kind.Sign RightParenthesis ∷ [])
follow (Listed Arguments) = map number (kind.Sign RightParenthesis ∷ kind.Sign RightBracket ∷ [])
follow (More Arguments) = map number (kind.Sign RightParenthesis ∷ kind.Sign RightBracket ∷ [])

-- how high it stands over the leaves, by its last alternatives
abbrev height : Part → ℕ
height WholeProgram = 2
height Items = 0
height OneItem = 6
height PredicateItem = 6
height Parameter = 4
height OfArray = 0
height IndexSets = 1
height Index = 0
height Variability = 0
height VariableItem = 4
height OptionalValue = 0
height ParameterItem = 4
height ArrayItem = 5
height ValueType = 3
height Plain = 2
height SetLiteral = 1
height Braces = 2
height OneNumber = 0
height Constant = 1
height RangeEnd = 0
height Basic = 2
height ListLiteral = 4
height Expression = 3
height ConstraintItem = 5
height SolveItem = 1
height Method = 0
height Annotations = 0
height Annotation = 1
height Called = 0
height Argument = 2
height (Listed Parameters) = 5
height (More Parameters) = 0
height (Listed Indexes) = 1
height (More Indexes) = 0
height (Listed Members) = 1
height (More Members) = 0
height (Listed Elements) = 3
height (More Elements) = 0
height (Listed Expressions) = 4
height (More Expressions) = 0
height (Listed Arguments) = 3
height (More Arguments) = 0

abbrev pub tables : Tables flatzinc
tables = record { begins = begins; follow = follow; height = height; example = example }

pub fine : (n : Part) → is_fine flatzinc tables n ≡ true
fine WholeProgram = refl
fine Items = refl
fine OneItem = refl
fine PredicateItem = refl
fine Parameter = refl
fine OfArray = refl
fine IndexSets = refl
fine Index = refl
fine Variability = refl
fine VariableItem = refl
fine OptionalValue = refl
fine ParameterItem = refl
fine ArrayItem = refl
fine ValueType = refl
fine Plain = refl
fine SetLiteral = refl
fine Braces = refl
fine OneNumber = refl
fine Constant = refl
fine RangeEnd = refl
fine Basic = refl
fine ListLiteral = refl
fine Expression = refl
fine ConstraintItem = refl
fine SolveItem = refl
fine Method = refl
fine Annotations = refl
fine Annotation = refl
fine Called = refl
fine Argument = refl
fine (Listed Parameters) = refl
fine (More Parameters) = refl
fine (Listed Indexes) = refl
fine (More Indexes) = refl
fine (Listed Members) = refl
fine (More Members) = refl
fine (Listed Elements) = refl
fine (More Elements) = refl
fine (Listed Expressions) = refl
fine (More Expressions) = refl
fine (Listed Arguments) = refl
fine (More Arguments) = refl

-- each rule closes what it opens
pub even : (n : Part) → AreEven flatzinc n (rules n)
even WholeProgram = λ l. refl
even Items = (λ l. refl, λ l. refl)
even OneItem = (λ l. refl, (λ l. refl, (λ l. refl, (λ l. refl, λ l. refl))))
even PredicateItem = λ l. refl
even Parameter = λ l. refl
even OfArray = (λ l. refl, λ l. refl)
even IndexSets = λ l. refl
even Index = (λ l. refl, λ l. refl)
even Variability = (λ l. refl, λ l. refl)
even VariableItem = λ l. refl
even OptionalValue = (λ l. refl, λ l. refl)
even ParameterItem = λ l. refl
even ArrayItem = λ l. refl
even ValueType = (λ l. refl, λ l. refl)
even Plain = (λ l. refl, (λ l. refl, (λ l. refl, λ l. refl)))
even SetLiteral = (λ l. refl, λ l. refl)
even Braces = λ l. refl
even OneNumber = (λ l. refl, λ l. refl)
even Constant = (λ l. refl, (λ l. refl, (λ l. refl, λ l. refl)))
even RangeEnd = (λ l. refl, λ l. refl)
even Basic = (λ l. refl, λ l. refl)
even ListLiteral = λ l. refl
even Expression = (λ l. refl, λ l. refl)
even ConstraintItem = λ l. refl
even SolveItem = λ l. refl
even Method = (λ l. refl, (λ l. refl, λ l. refl))
even Annotations = (λ l. refl, λ l. refl)
even Annotation = λ l. refl
even Called = (λ l. refl, λ l. refl)
even Argument = (λ l. refl, (λ l. refl, (λ l. refl, λ l. refl)))
even (Listed Parameters) = (λ l. refl, λ l. refl)
even (More Parameters) = (λ l. refl, λ l. refl)
even (Listed Indexes) = (λ l. refl, λ l. refl)
even (More Indexes) = (λ l. refl, λ l. refl)
even (Listed Members) = (λ l. refl, λ l. refl)
even (More Members) = (λ l. refl, λ l. refl)
even (Listed Elements) = (λ l. refl, λ l. refl)
even (More Elements) = (λ l. refl, λ l. refl)
even (Listed Expressions) = (λ l. refl, λ l. refl)
even (More Expressions) = (λ l. refl, λ l. refl)
even (Listed Arguments) = (λ l. refl, λ l. refl)
even (More Arguments) = (λ l. refl, λ l. refl)
