-- The syntax trees of a text: a type for each rule of the grammar, with a field for each part of the rule that says something.
-- A leaf is a name, a number or the place of a token, and a place is the count of bytes before it.
use Rattle.std.specs.Prelude.{ℕ, ℤ, Bool, List, Option}

-- an identifier
pub record Name : Type 0 where
  pub bytes : List ℕ
  pub at : ℕ

-- an integer literal
pub record Integer : Type 0 where
  pub value : ℤ
  pub at : ℕ

-- integer | float
pub data Number : Type 0 where
  Whole : (integer : Integer) → Number
  Float : (at : ℕ) → Number

-- number ".." number | "{" [ number { "," number } ] "}"
pub data SetLiteral : Type 0 where
  Range : (low high : Number) → SetLiteral
  Braces : (at : ℕ) (members : List Number) → SetLiteral

-- "bool" | "int" | "float" | set literal
pub data Plain : Type 0 where
  AnyBool : (at : ℕ) → Plain
  AnyInt : (at : ℕ) → Plain
  AnyFloat : (at : ℕ) → Plain
  Within : (set : SetLiteral) → Plain

-- plain | "set" "of" plain
pub data ValueType : Type 0 where
  One : (plain : Plain) → ValueType
  SetOf : (at : ℕ) (plain : Plain) → ValueType

-- "true" | "false" | number | set literal | identifier
pub data Basic : Type 0 where
  Truth : (value : Bool) (at : ℕ) → Basic
  Numeral : (number : Number) → Basic
  Literal : (set : SetLiteral) → Basic
  Named : (name : Name) → Basic

-- "[" [ basic { "," basic } ] "]"
pub record ListLiteral : Type 0 where
  pub at : ℕ
  pub elements : List Basic

-- basic | list literal
pub data Expression : Type 0 where
  Scalar : (basic : Basic) → Expression
  Listed : (list : ListLiteral) → Expression

-- basic | string | identifier "(" [ argument { "," argument } ] ")" | "[" [ argument { "," argument } ] "]"
mutual
  pub data Argument : Type 0 where
    Simple : (basic : Basic) → Argument
    Text : (at : ℕ) → Argument
    Call : (name : Name) (arguments : Arguments) → Argument
    Brackets : (at : ℕ) (arguments : Arguments) → Argument

  pub data Arguments : Type 0 where
    Nil : Arguments
    More : (argument : Argument) (others : Arguments) → Arguments

-- identifier [ "(" [ argument { "," argument } ] ")" ]
pub record Annotation : Type 0 where
  pub name : Name
  pub arguments : Option Arguments

-- "int" | integer ".." integer
pub data Index : Type 0 where
  AnyIndex : Index
  IndexRange : (low high : Integer) → Index

-- [ "array" "[" index { "," index } "]" "of" ] [ "var" ] type ":" identifier
pub record PredicateParameter : Type 0 where
  pub indexes : Option (List Index)
  pub variable : Bool
  pub value_type : ValueType
  pub name : Name

-- "predicate" identifier "(" [ parameter { "," parameter } ] ")" ";"
pub record PredicateItem : Type 0 where
  pub name : Name
  pub parameters : List PredicateParameter

-- "var" type ":" identifier annotations [ "=" basic ] ";"
pub record VariableItem : Type 0 where
  pub value_type : ValueType
  pub name : Name
  pub annotations : List Annotation
  pub value : Option Basic

-- type ":" identifier annotations "=" basic ";"
pub record ParameterItem : Type 0 where
  pub value_type : ValueType
  pub name : Name
  pub annotations : List Annotation
  pub value : Basic

-- "array" "[" integer ".." integer "]" "of" [ "var" ] type ":" identifier annotations "=" list literal ";"
pub record ArrayItem : Type 0 where
  pub low : Integer
  pub high : Integer
  pub variable : Bool
  pub value_type : ValueType
  pub name : Name
  pub annotations : List Annotation
  pub list : ListLiteral

-- "constraint" identifier "(" [ expression { "," expression } ] ")" annotations ";"
pub record ConstraintItem : Type 0 where
  pub name : Name
  pub arguments : List Expression
  pub annotations : List Annotation

-- an item before the solve item
pub data Item : Type 0 where
  Predicate : (item : PredicateItem) → Item
  Variable : (item : VariableItem) → Item
  Parameter : (item : ParameterItem) → Item
  Array : (item : ArrayItem) → Item
  Constraint : (item : ConstraintItem) → Item

-- "satisfy" | "minimize" basic | "maximize" basic, with the place of the word
pub data Method : Type 0 where
  Satisfy : (at : ℕ) → Method
  Minimize : (at : ℕ) (objective : Basic) → Method
  Maximize : (at : ℕ) (objective : Basic) → Method

-- "solve" annotations method ";"
pub record SolveItem : Type 0 where
  pub annotations : List Annotation
  pub method : Method

-- { item } solve item
pub record Program : Type 0 where
  pub items : List Item
  pub solve : SolveItem

-- the place of the first token
abbrev pub number_at : Number → ℕ
number_at (Whole integer) = integer.at
number_at (Float at) = at

abbrev pub set_at : SetLiteral → ℕ
set_at (Range low high) = number_at low
set_at (Braces at members) = at

abbrev pub plain_at : Plain → ℕ
plain_at (AnyBool at) = at
plain_at (AnyInt at) = at
plain_at (AnyFloat at) = at
plain_at (Within set) = set_at set

abbrev pub type_at : ValueType → ℕ
type_at (One plain) = plain_at plain
type_at (SetOf at plain) = at

abbrev pub basic_at : Basic → ℕ
basic_at (Truth value at) = at
basic_at (Numeral number) = number_at number
basic_at (Literal set) = set_at set
basic_at (Named name) = name.at

abbrev pub expression_at : Expression → ℕ
expression_at (Scalar basic) = basic_at basic
expression_at (Listed list) = list.at
