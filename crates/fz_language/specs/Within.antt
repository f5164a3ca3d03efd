-- What a program has from its text, if that is within its limit: the integers of its types, values, lists, arguments, index sets
-- and index ranges for output lie within the limits; names of variables and arrays, items, and annotations of the solve item with
-- their arguments are no more than the text's bytes.
use Rattle.std.specs.Prelude.{ℕ, ◌+◌, ◌≤◌, List, [], ◌∷◌, length, Option, Some, None}
use Rattle.std.specs.List.{AllByRecursion}
use Rattle.fz_sets.specs.Sets.{IsWithinLimits}
use Rattle.fz_spec.specs.declared.limits.TheConstants.{TEXT_LIMIT}
use Rattle.fz_language.specs.Trees.{Name, Integer, Number, Whole, Float, SetLiteral, Range, Braces, Plain, AnyBool, AnyInt, AnyFloat, Within, ValueType, One, SetOf, Basic, Truth, Numeral, Literal, Named, ListLiteral, Expression, Scalar, Listed, Argument, Arguments, Simple, Text, Call, Brackets, Nil, More, Annotation, VariableItem, ParameterItem, ArrayItem, Item, Predicate, Variable, Parameter, Array, Constraint, Method, Satisfy, Minimize, Maximize, Program}

abbrev pub IntegerFits : Integer → Type 0
IntegerFits i = IsWithinLimits i.value

abbrev pub NumberFits : Number → Type 0
NumberFits (Whole i) = IntegerFits i
NumberFits (Float at) = Unit {0}

abbrev pub SetFits : SetLiteral → Type 0
SetFits (Range low high) = NumberFits low × NumberFits high
SetFits (Braces at members) = AllByRecursion NumberFits members

abbrev pub PlainFits : Plain → Type 0
PlainFits (AnyBool at) = Unit {0}
PlainFits (AnyInt at) = Unit {0}
PlainFits (AnyFloat at) = Unit {0}
PlainFits (Within set) = SetFits set

abbrev pub TypeFits : ValueType → Type 0
TypeFits (One plain) = PlainFits plain
TypeFits (SetOf at plain) = PlainFits plain

abbrev pub BasicFits : Basic → Type 0
BasicFits (Truth value at) = Unit {0}
BasicFits (Numeral number) = NumberFits number
BasicFits (Literal set) = SetFits set
BasicFits (Named name) = Unit {0}

abbrev pub ListFits : ListLiteral → Type 0
ListFits l = AllByRecursion BasicFits l.elements

abbrev pub ExpressionFits : Expression → Type 0
ExpressionFits (Scalar basic) = BasicFits basic
ExpressionFits (Listed list) = ListFits list

abbrev pub ValueFits : Option Basic → Type 0
ValueFits None = Unit {0}
ValueFits (Some basic) = BasicFits basic

abbrev pub NameFits : Name → Type 0
NameFits name = length name.bytes ≤ TEXT_LIMIT

abbrev mutual
  pub ArgumentFits : Argument → Type 0
  ArgumentFits (Simple basic) = BasicFits basic
  ArgumentFits (Text at) = Unit {0}
  ArgumentFits (Call name arguments) = ArgumentsFit arguments
  ArgumentFits (Brackets at arguments) = ArgumentsFit arguments

  pub ArgumentsFit : Arguments → Type 0
  ArgumentsFit Nil = Unit {0}
  ArgumentsFit (More argument others) = ArgumentFits argument × ArgumentsFit others

abbrev pub CalledFits : Option Arguments → Type 0
CalledFits None = Unit {0}
CalledFits (Some arguments) = ArgumentsFit arguments

abbrev pub AnnotationFits : Annotation → Type 0
AnnotationFits a = CalledFits a.arguments

-- ---- items

abbrev pub VariableFits : VariableItem → Type 0
VariableFits v = TypeFits v.value_type × ValueFits v.value × NameFits v.name

abbrev pub ParameterFits : ParameterItem → Type 0
ParameterFits p = TypeFits p.value_type × BasicFits p.value

abbrev pub ArrayFits : ArrayItem → Type 0
ArrayFits a = IntegerFits a.low × IntegerFits a.high × TypeFits a.value_type × ListFits a.list × NameFits a.name × AllByRecursion AnnotationFits a.annotations

abbrev pub ItemFits : Item → Type 0
ItemFits (Predicate item) = Unit {0}
ItemFits (Variable item) = VariableFits item
ItemFits (Parameter item) = ParameterFits item
ItemFits (Array item) = ArrayFits item
ItemFits (Constraint item) = AllByRecursion ExpressionFits item.arguments

abbrev pub MethodFits : Method → Type 0
MethodFits (Satisfy at) = Unit {0}
MethodFits (Minimize at objective) = BasicFits objective
MethodFits (Maximize at objective) = BasicFits objective

-- ---- sizes

-- an argument and those within it
abbrev mutual
  pub argument_size : Argument → ℕ
  argument_size (Simple basic) = 1
  argument_size (Text at) = 1
  argument_size (Call name arguments) = 1 + arguments_size arguments
  argument_size (Brackets at arguments) = 1 + arguments_size arguments

  pub arguments_size : Arguments → ℕ
  arguments_size Nil = 0
  arguments_size (More argument others) = argument_size argument + arguments_size others

abbrev pub called_size : Option Arguments → ℕ
called_size None = 0
called_size (Some arguments) = arguments_size arguments

-- annotations, with the arguments within them
abbrev pub annotations_size : List Annotation → ℕ
annotations_size [] = 0
annotations_size (a ∷ annotations) = 1 + called_size a.arguments + annotations_size annotations

-- the items, and the annotations of the solve item
abbrev pub program_size : Program → ℕ
program_size p = length p.items + annotations_size p.solve.annotations

-- ---- the whole

abbrev pub ProgramFits : Program → Type 0
ProgramFits p = AllByRecursion ItemFits p.items × MethodFits p.solve.method × (program_size p ≤ TEXT_LIMIT)
