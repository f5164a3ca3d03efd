-- The grammar (MiniZinc Handbook, "FlatZinc grammar"): which tokens spell a program, apart from any way to find it.
-- Each alternative of a rule is the symbols that it is made of, and the tree that is built of their trees; `on` gives the kinds
-- of token that it begins with, of which the tables of the reading make use.
use Rattle.std.specs.Prelude.{ℕ, pos, ◌==◌, ◌||◌, Bool, true, false, List, [], ◌∷◌, map, Option, Some, None}
use Rattle.fz_language.specs.declared.sign.Sign.TheVariants.{Semicolon, Colon, DoubleColon, Comma, LeftParenthesis, RightParenthesis, LeftBracket, RightBracket, LeftBrace, RightBrace, Equals, DoubleDot}
use Rattle.fz_language.specs.declared.sign.Sign.{Sign}
use Rattle.fz_language.specs.declared.keyword.Keyword.{Keyword}
use Rattle.fz_language.specs.declared.keyword.Keyword.TheVariants as keyword
use Rattle.fz_language.specs.declared.token_kind.TokenKind.{TokenKind}
use Rattle.fz_language.specs.declared.token_kind.TokenKind.TheVariants as kind
use Rattle.fz_language.specs.Tokens.{Token, Identifier, Word, Number, Float, Text, Punct}
use Rattle.fz_language.specs.Kinds.{number, kind_of, sign_number}
use Rattle.fz_language.specs.Trees as trees
use Rattle.fz_language.specs.declared.limits.TheConstants.{LEVEL_LIMIT}
use Rattle.fz_language.specs.Trees.{Program}
use Rattle.fz_grammar.specs.Grammar.{Grammar, Symbol, Leaf, Rule, Values, Choice, Only, When}
use Rattle.fz_grammar.specs.Verdict as verdict

-- what stands in a list with commas
pub data Element : Type 0 where
  Parameters : Element
  Indexes : Element
  Members : Element
  Elements : Element
  Expressions : Element
  Arguments : Element

-- the rules
pub data Part : Type 0 where
  WholeProgram : Part
  Items : Part
  OneItem : Part
  PredicateItem : Part
  Parameter : Part
  OfArray : Part
  IndexSets : Part
  Index : Part
  Variability : Part
  VariableItem : Part
  OptionalValue : Part
  ParameterItem : Part
  ArrayItem : Part
  ValueType : Part
  Plain : Part
  SetLiteral : Part
  Braces : Part
  OneNumber : Part
  Constant : Part
  RangeEnd : Part
  Basic : Part
  ListLiteral : Part
  Expression : Part
  ConstraintItem : Part
  SolveItem : Part
  Method : Part
  Annotations : Part
  Annotation : Part
  Called : Part
  Argument : Part
  Listed : (element : Element) → Part
  More : (element : Element) → Part

-- the rule of an element, and what its elements make
abbrev pub part_of : Element → Part
part_of Parameters = Parameter
part_of Indexes = Index
part_of Members = OneNumber
part_of Elements = Basic
part_of Expressions = Expression
part_of Arguments = Argument

abbrev pub TreesOf : Element → Type 0
TreesOf Parameters = List trees.PredicateParameter
TreesOf Indexes = List trees.Index
TreesOf Members = List trees.Number
TreesOf Elements = List trees.Basic
TreesOf Expressions = List trees.Expression
TreesOf Arguments = trees.Arguments

abbrev pub Tree : Part → Type 0
Tree WholeProgram = trees.Program
Tree Items = List trees.Item
Tree OneItem = trees.Item
Tree PredicateItem = trees.PredicateItem
Tree Parameter = trees.PredicateParameter
Tree OfArray = Option (List trees.Index)
Tree IndexSets = List trees.Index
Tree Index = trees.Index
Tree Variability = Bool
Tree VariableItem = trees.VariableItem
Tree OptionalValue = Option trees.Basic
Tree ParameterItem = trees.ParameterItem
Tree ArrayItem = trees.ArrayItem
Tree ValueType = trees.ValueType
Tree Plain = trees.Plain
Tree SetLiteral = trees.SetLiteral
Tree Braces = trees.SetLiteral
Tree OneNumber = trees.Number
Tree Constant = trees.Basic
Tree RangeEnd = Option trees.Number
Tree Basic = trees.Basic
Tree ListLiteral = trees.ListLiteral
Tree Expression = trees.Expression
Tree ConstraintItem = trees.ConstraintItem
Tree SolveItem = trees.SolveItem
Tree Method = trees.Method
Tree Annotations = List trees.Annotation
Tree Annotation = trees.Annotation
Tree Called = Option trees.Arguments
Tree Argument = trees.Argument
Tree (Listed e) = TreesOf e
Tree (More e) = TreesOf e

-- no element, and one more before others
abbrev pub none_of : (e : Element) → TreesOf e
none_of Parameters = []
none_of Indexes = []
none_of Members = []
none_of Elements = []
none_of Expressions = []
none_of Arguments = trees.Nil

abbrev pub more_of : (e : Element) → Tree (part_of e) → TreesOf e → TreesOf e
more_of Parameters x xs = x ∷ xs
more_of Indexes x xs = x ∷ xs
more_of Members x xs = x ∷ xs
more_of Elements x xs = x ∷ xs
more_of Expressions x xs = x ∷ xs
more_of Arguments x xs = trees.More x xs

-- A leaf as it is kept. Where the grammar asks for an identifier or an integer, no other token stands.
abbrev pub name_in : Token → trees.Name
name_in t = elim t.lexeme [
  | Identifier name ↦ record { bytes = name; at = t.at }
  | Word k ↦ record { bytes = []; at = t.at }
  | Number v ↦ record { bytes = []; at = t.at }
  | Float ↦ record { bytes = []; at = t.at }
  | Text ↦ record { bytes = []; at = t.at }
  | Punct s ↦ record { bytes = []; at = t.at }
]

abbrev pub integer_in : Token → trees.Integer
integer_in t = elim t.lexeme [
  | Identifier name ↦ record { value = pos 0; at = t.at }
  | Word k ↦ record { value = pos 0; at = t.at }
  | Number v ↦ record { value = v; at = t.at }
  | Float ↦ record { value = pos 0; at = t.at }
  | Text ↦ record { value = pos 0; at = t.at }
  | Punct s ↦ record { value = pos 0; at = t.at }
]

-- symbols for one token
abbrev pub sign : Sign → Symbol Part
sign s = Leaf (number (kind.Sign s))

abbrev pub word : Keyword → Symbol Part
word k = Leaf (number (kind.Keyword k))

abbrev pub identifier : Symbol Part
identifier = Leaf (number kind.Identifier)

abbrev pub integer : Symbol Part
integer = Leaf (number kind.Integer)

-- these symbols make this tree; and they begin with one of these kinds
abbrev pub only : {n : Part} (body : List (Symbol Part)) → (Values Tree Token body → Tree n) → Choice Tree Token n
only body build = Only (record { begins = []; body = body; build = build })

abbrev pub on : {n : Part} → List TokenKind → (body : List (Symbol Part)) → (Values Tree Token body → Tree n) → Choice Tree Token n → Choice Tree Token n
on kinds body build others = When (record { begins = map number kinds; body = body; build = build }) others

abbrev pub of_sign : Sign → List TokenKind
of_sign s = kind.Sign s ∷ []

abbrev pub of_word : Keyword → List TokenKind
of_word k = kind.Keyword k ∷ []

-- what closes a list
abbrev pub closing : Element → List TokenKind
closing Parameters = of_sign RightParenthesis
closing Indexes = of_sign RightBracket
closing Members = of_sign RightBrace
closing Elements = of_sign RightBracket
closing Expressions = of_sign RightParenthesis
closing Arguments = kind.Sign RightParenthesis ∷ kind.Sign RightBracket ∷ []

-- what begins a type, and an item before the solve item
abbrev pub type_kinds : List TokenKind
type_kinds = kind.Keyword keyword.Set ∷ kind.Keyword keyword.Bool ∷ kind.Keyword keyword.Int ∷ kind.Keyword keyword.Float ∷ kind.Sign LeftBrace ∷ kind.Integer ∷ kind.Float ∷ []

abbrev pub item_kinds : List TokenKind
item_kinds = kind.Keyword keyword.Predicate ∷ kind.Keyword keyword.Var ∷ kind.Keyword keyword.Array ∷ kind.Keyword keyword.Constraint ∷ type_kinds

-- a number, or a range that begins with it
abbrev pub number_or_range : trees.Number → Option trees.Number → trees.Basic
number_or_range low None = trees.Numeral low
number_or_range low (Some high) = trees.Literal (trees.Range low high)

-- a name, or an annotation with arguments
abbrev pub name_or_call : trees.Annotation → trees.Argument
name_or_call annotation = elim annotation.arguments [
  | None ↦ trees.Simple (trees.Named annotation.name)
  | Some arguments ↦ trees.Call annotation.name arguments
]

abbrev pub rules : (n : Part) → Choice Tree Token n
rules WholeProgram = only (Rule Items ∷ Rule SolveItem ∷ []) (λ v. record { items = v.0; solve = v.1.0 })
rules Items = on item_kinds (Rule OneItem ∷ Rule Items ∷ []) (λ v. v.0 ∷ v.1.0)
    (only [] (λ v. []))
rules OneItem = on (of_word keyword.Predicate) (Rule PredicateItem ∷ []) (λ v. trees.Predicate v.0)
    (on (of_word keyword.Var) (Rule VariableItem ∷ []) (λ v. trees.Variable v.0)
    (on (of_word keyword.Array) (Rule ArrayItem ∷ []) (λ v. trees.Array v.0)
    (on type_kinds (Rule ParameterItem ∷ []) (λ v. trees.Parameter v.0)
    (only (Rule ConstraintItem ∷ []) (λ v. trees.Constraint v.0)))))
rules PredicateItem = only (word keyword.Predicate ∷ identifier ∷ sign LeftParenthesis ∷ Rule (Listed Parameters) ∷ sign RightParenthesis ∷ sign Semicolon ∷ [])
    (λ v. record { name = name_in v.1.0; parameters = v.1.1.1.0 })
rules Parameter = only (Rule OfArray ∷ Rule Variability ∷ Rule ValueType ∷ sign Colon ∷ identifier ∷ [])
    (λ v. record { indexes = v.0; variable = v.1.0; value_type = v.1.1.0; name = name_in v.1.1.1.1.0 })
rules OfArray = on (of_word keyword.Array) (word keyword.Array ∷ sign LeftBracket ∷ Rule IndexSets ∷ sign RightBracket ∷ word keyword.Of ∷ []) (λ v. Some v.1.1.0)
    (only [] (λ v. None))
rules IndexSets = only (Rule Index ∷ Rule (More Indexes) ∷ []) (λ v. v.0 ∷ v.1.0)
rules Index = on (of_word keyword.Int) (word keyword.Int ∷ []) (λ v. trees.AnyIndex)
    (only (integer ∷ sign DoubleDot ∷ integer ∷ []) (λ v. trees.IndexRange (integer_in v.0) (integer_in v.1.1.0)))
rules Variability = on (of_word keyword.Var) (word keyword.Var ∷ []) (λ v. true)
    (only [] (λ v. false))
rules VariableItem = only (word keyword.Var ∷ Rule ValueType ∷ sign Colon ∷ identifier ∷ Rule Annotations ∷ Rule OptionalValue ∷ sign Semicolon ∷ [])
    (λ v. record { value_type = v.1.0; name = name_in v.1.1.1.0; annotations = v.1.1.1.1.0; value = v.1.1.1.1.1.0 })
rules OptionalValue = on (of_sign Equals) (sign Equals ∷ Rule Basic ∷ []) (λ v. Some v.1.0)
    (only [] (λ v. None))
rules ParameterItem = only (Rule ValueType ∷ sign Colon ∷ identifier ∷ Rule Annotations ∷ sign Equals ∷ Rule Basic ∷ sign Semicolon ∷ [])
    (λ v. record { value_type = v.0; name = name_in v.1.1.0; annotations = v.1.1.1.0; value = v.1.1.1.1.1.0 })
rules ArrayItem = only (word keyword.Array ∷ sign LeftBracket ∷ integer ∷ sign DoubleDot ∷ integer ∷ sign RightBracket ∷ word keyword.Of ∷ Rule Variability ∷ Rule ValueType
    ∷ sign Colon ∷ identifier ∷ Rule Annotations ∷ sign Equals ∷ Rule ListLiteral ∷ sign Semicolon ∷ [])
    (λ v. record {
      low = integer_in v.1.1.0;
      high = integer_in v.1.1.1.1.0;
      variable = v.1.1.1.1.1.1.1.0;
      value_type = v.1.1.1.1.1.1.1.1.0;
      name = name_in v.1.1.1.1.1.1.1.1.1.1.0;
      annotations = v.1.1.1.1.1.1.1.1.1.1.1.0;
      list = v.1.1.1.1.1.1.1.1.1.1.1.1.1.0;
    })
rules ValueType = on (of_word keyword.Set) (word keyword.Set ∷ word keyword.Of ∷ Rule Plain ∷ []) (λ v. trees.SetOf v.0.at v.1.1.0)
    (only (Rule Plain ∷ []) (λ v. trees.One v.0))
rules Plain = on (of_word keyword.Bool) (word keyword.Bool ∷ []) (λ v. trees.AnyBool v.0.at)
    (on (of_word keyword.Int) (word keyword.Int ∷ []) (λ v. trees.AnyInt v.0.at)
    (on (of_word keyword.Float) (word keyword.Float ∷ []) (λ v. trees.AnyFloat v.0.at)
    (only (Rule SetLiteral ∷ []) (λ v. trees.Within v.0))))
rules SetLiteral = on (of_sign LeftBrace) (Rule Braces ∷ []) (λ v. v.0)
    (only (Rule OneNumber ∷ sign DoubleDot ∷ Rule OneNumber ∷ []) (λ v. trees.Range v.0 v.1.1.0))
rules Braces = only (sign LeftBrace ∷ Rule (Listed Members) ∷ sign RightBrace ∷ []) (λ v. trees.Braces v.0.at v.1.0)
rules OneNumber = on (kind.Float ∷ []) (Leaf (number kind.Float) ∷ []) (λ v. trees.Float v.0.at)
    (only (integer ∷ []) (λ v. trees.Whole (integer_in v.0)))
rules Constant = on (of_word keyword.True) (word keyword.True ∷ []) (λ v. trees.Truth true v.0.at)
    (on (of_word keyword.False) (word keyword.False ∷ []) (λ v. trees.Truth false v.0.at)
    (on (of_sign LeftBrace) (Rule Braces ∷ []) (λ v. trees.Literal v.0)
    (only (Rule OneNumber ∷ Rule RangeEnd ∷ []) (λ v. number_or_range v.0 v.1.0))))
rules RangeEnd = on (of_sign DoubleDot) (sign DoubleDot ∷ Rule OneNumber ∷ []) (λ v. Some v.1.0)
    (only [] (λ v. None))
rules Basic = on (kind.Identifier ∷ []) (identifier ∷ []) (λ v. trees.Named (name_in v.0))
    (only (Rule Constant ∷ []) (λ v. v.0))
rules ListLiteral = only (sign LeftBracket ∷ Rule (Listed Elements) ∷ sign RightBracket ∷ []) (λ v. record { at = v.0.at; elements = v.1.0 })
rules Expression = on (of_sign LeftBracket) (Rule ListLiteral ∷ []) (λ v. trees.Listed v.0)
    (only (Rule Basic ∷ []) (λ v. trees.Scalar v.0))
rules ConstraintItem = only (word keyword.Constraint ∷ identifier ∷ sign LeftParenthesis ∷ Rule (Listed Expressions) ∷ sign RightParenthesis ∷ Rule Annotations ∷ sign Semicolon ∷ [])
    (λ v. record { name = name_in v.1.0; arguments = v.1.1.1.0; annotations = v.1.1.1.1.1.0 })
rules SolveItem = only (word keyword.Solve ∷ Rule Annotations ∷ Rule Method ∷ sign Semicolon ∷ []) (λ v. record { annotations = v.1.0; method = v.1.1.0 })
rules Method = on (of_word keyword.Minimize) (word keyword.Minimize ∷ Rule Basic ∷ []) (λ v. trees.Minimize v.0.at v.1.0)
    (on (of_word keyword.Maximize) (word keyword.Maximize ∷ Rule Basic ∷ []) (λ v. trees.Maximize v.0.at v.1.0)
    (only (word keyword.Satisfy ∷ []) (λ v. trees.Satisfy v.0.at)))
rules Annotations = on (of_sign DoubleColon) (sign DoubleColon ∷ Rule Annotation ∷ Rule Annotations ∷ []) (λ v. v.1.0 ∷ v.1.1.0)
    (only [] (λ v. []))
rules Annotation = only (identifier ∷ Rule Called ∷ []) (λ v. record { name = name_in v.0; arguments = v.1.0 })
rules Called = on (of_sign LeftParenthesis) (sign LeftParenthesis ∷ Rule (Listed Arguments) ∷ sign RightParenthesis ∷ []) (λ v. Some v.1.0)
    (only [] (λ v. None))
rules Argument = on (kind.Text ∷ []) (Leaf (number kind.Text) ∷ []) (λ v. trees.Text v.0.at)
    (on (of_sign LeftBracket) (sign LeftBracket ∷ Rule (Listed Arguments) ∷ sign RightBracket ∷ []) (λ v. trees.Brackets v.0.at v.1.0)
    (on (kind.Identifier ∷ []) (Rule Annotation ∷ []) (λ v. name_or_call v.0)
    (only (Rule Constant ∷ []) (λ v. trees.Simple v.0))))
rules (Listed e) = on (closing e) [] (λ v. none_of e)
    (only (Rule (part_of e) ∷ Rule (More e) ∷ []) (λ v. more_of e v.0 v.1.0))
rules (More e) = on (of_sign Comma) (sign Comma ∷ Rule (part_of e) ∷ Rule (More e) ∷ []) (λ v. more_of e v.1.0 v.1.1.0)
    (only [] (λ v. none_of e))

-- parentheses and brackets open levels; annotations stand in none of an item's own
abbrev pub flatzinc : Grammar
flatzinc = record {
  Name = Part;
  Tree = Tree;
  Token = Token;
  kind = λ t. number (kind_of t.lexeme);
  opens = λ k. (k == sign_number LeftParenthesis) || (k == sign_number LeftBracket);
  closes = λ k. (k == sign_number RightParenthesis) || (k == sign_number RightBracket);
  rules = rules;
}

-- the most levels of brackets that are open at a place
abbrev pub level_limit : ℕ
level_limit = LEVEL_LIMIT

-- the tokens are the program's, and no bracket opens a level over the limit
abbrev pub Spells : List Token → Program → Type 0
Spells ts p = verdict.IsAccepted flatzinc level_limit WholeProgram ts p

-- The syntax is at fault behind a front of a program: `behind` begins with the first token with which no program begins, or is empty.
abbrev pub Breaks : List Token → List Token → Type 0
Breaks ts behind = verdict.HasFault flatzinc level_limit WholeProgram ts behind

-- `behind` begins with the first bracket that opens a level over the limit; some program begins so.
abbrev pub IsTooDeep : List Token → List Token → Type 0
IsTooDeep ts behind = verdict.IsTooDeep flatzinc level_limit WholeProgram ts behind
