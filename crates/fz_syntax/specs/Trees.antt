-- Which tree of the definitions each tree of the code is.
use Rattle.std.specs.Prelude.{ℕ, List, [], ◌∷◌, map, take, drop, length, option_to_list, Some, None}
use Rattle.fz_language.specs.Trees as trees
use Rattle.fz_language.specs.Trees.{Nil, More}
use Rattle.fz_syntax.specs.declared.leaf.Name.{Name}
use Rattle.fz_syntax.specs.declared.leaf.Integer.{Integer}
use Rattle.fz_syntax.specs.declared.expression.Number.{Number}
use Rattle.fz_syntax.specs.declared.expression.Number.TheVariants as number
use Rattle.fz_syntax.specs.declared.expression.SetLiteral.{SetLiteral}
use Rattle.fz_syntax.specs.declared.expression.SetLiteral.TheVariants as set
use Rattle.fz_syntax.specs.declared.expression.Basic.{Basic}
use Rattle.fz_syntax.specs.declared.expression.Basic.TheVariants as basic
use Rattle.fz_syntax.specs.declared.expression.Elements.{Elements}
use Rattle.fz_syntax.specs.declared.expression.Elements.TheVariants as elements
use Rattle.fz_syntax.specs.declared.expression.ListLiteral.{ListLiteral}
use Rattle.fz_syntax.specs.declared.expression.Expression.{Expression}
use Rattle.fz_syntax.specs.declared.expression.Expression.TheVariants as expression
use Rattle.fz_syntax.specs.declared.value_type.Plain.{Plain}
use Rattle.fz_syntax.specs.declared.value_type.Plain.TheVariants as plain
use Rattle.fz_syntax.specs.declared.value_type.ValueType.{ValueType}
use Rattle.fz_syntax.specs.declared.value_type.ValueType.TheVariants as value_type
use Rattle.fz_syntax.specs.declared.annotation.Argument.{Argument}
use Rattle.fz_syntax.specs.declared.annotation.Argument.TheVariants as argument
use Rattle.fz_syntax.specs.declared.annotation.Nested.{Nested}
use Rattle.fz_syntax.specs.declared.annotation.Nested.TheVariants as nested
use Rattle.fz_syntax.specs.declared.annotation.Annotation.{Annotation}
use Rattle.fz_syntax.specs.declared.item.Index.{Index}
use Rattle.fz_syntax.specs.declared.item.Index.TheVariants as index
use Rattle.fz_syntax.specs.declared.item.PredicateParameter.{PredicateParameter}
use Rattle.fz_syntax.specs.declared.item.PredicateItem.{PredicateItem}
use Rattle.fz_syntax.specs.declared.item.VariableItem.{VariableItem}
use Rattle.fz_syntax.specs.declared.item.ParameterItem.{ParameterItem}
use Rattle.fz_syntax.specs.declared.item.ArrayItem.{ArrayItem}
use Rattle.fz_syntax.specs.declared.item.ConstraintItem.{ConstraintItem}
use Rattle.fz_syntax.specs.declared.item.Item.{Item}
use Rattle.fz_syntax.specs.declared.item.Item.TheVariants as item
use Rattle.fz_syntax.specs.declared.program.Method.{Method}
use Rattle.fz_syntax.specs.declared.program.Method.TheVariants as method
use Rattle.fz_syntax.specs.declared.program.SolveItem.{SolveItem}
use Rattle.fz_syntax.specs.declared.program.Program.{Program}

abbrev pub name_of : Name → trees.Name
name_of n = record { bytes = n.bytes.now; at = n.at }

abbrev pub integer_of : Integer → trees.Integer
integer_of i = record { value = i.value; at = i.at }

abbrev pub number_of : Number → trees.Number
number_of (number.Whole integer) = trees.Whole (integer_of integer)
number_of (number.Float at) = trees.Float at

abbrev pub set_of : SetLiteral → trees.SetLiteral
set_of (set.Range low high) = trees.Range (number_of low) (number_of high)
set_of (set.Braces at members) = trees.Braces at (map number_of members.items)

abbrev pub plain_of : Plain → trees.Plain
plain_of (plain.AnyBool at) = trees.AnyBool at
plain_of (plain.AnyInt at) = trees.AnyInt at
plain_of (plain.AnyFloat at) = trees.AnyFloat at
plain_of (plain.Within set) = trees.Within (set_of set)

abbrev pub type_of : ValueType → trees.ValueType
type_of (value_type.One plain) = trees.One (plain_of plain)
type_of (value_type.SetOf at plain) = trees.SetOf at (plain_of plain)

abbrev pub basic_of : Basic → trees.Basic
basic_of (basic.Truth value at) = trees.Truth value at
basic_of (basic.Numeral number) = trees.Numeral (number_of number)
basic_of (basic.Small at member) = trees.Literal (trees.Braces at (map number_of (option_to_list member)))
basic_of (basic.Literal set) = trees.Literal (set_of set.value)
basic_of (basic.Named at bytes) = trees.Named (record { bytes = bytes.now; at = at })

-- an integer as an element of a list
abbrev pub integer_basic_of : Integer → trees.Basic
integer_basic_of i = trees.Numeral (trees.Whole (integer_of i))

abbrev pub elements_of : Elements → List trees.Basic
elements_of (elements.Integers integers) = map integer_basic_of integers.items
elements_of (elements.Basics basics) = map basic_of basics.items

abbrev pub list_of : ListLiteral → trees.ListLiteral
list_of l = record { at = l.at; elements = elements_of l.elements }

abbrev pub expression_of : Expression → trees.Expression
expression_of (expression.Scalar basic) = trees.Scalar (basic_of basic)
expression_of (expression.Integers at integers) = trees.Listed (record { at = at; elements = map integer_basic_of integers.items })
expression_of (expression.Basics at basics) = trees.Listed (record { at = at; elements = map basic_of basics.items })

-- arguments one after another
abbrev pub joined : List trees.Argument → trees.Arguments
joined [] = Nil
joined (a ∷ rest) = More a (joined rest)

-- how many arguments it has
abbrev pub count_of : Argument → ℕ
count_of (argument.Simple basic) = 0
count_of (argument.Text at) = 0
count_of (argument.Call at bytes count) = count
count_of (argument.Brackets at count) = count

-- an argument that has these
abbrev pub with_inside : Argument → List trees.Argument → trees.Argument
with_inside (argument.Simple basic) inside = trees.Simple (basic_of basic)
with_inside (argument.Text at) inside = trees.Text at
with_inside (argument.Call at bytes count) inside = trees.Call (record { bytes = bytes.now; at = at }) (joined inside)
with_inside (argument.Brackets at count) inside = trees.Brackets at (joined inside)

-- an argument before others, of which that many as it has stand inside it
abbrev pub put : Argument → List trees.Argument → List trees.Argument
put a behind = with_inside a (take (count_of a) behind) ∷ drop (count_of a) behind

-- arguments in one list, before others
abbrev pub before : List Argument → List trees.Argument → List trees.Argument
before [] behind = behind
before (a ∷ rest) behind = put a (before rest behind)

abbrev pub trees_of : List Argument → List trees.Argument
trees_of arguments = before arguments []

abbrev pub arguments_of : List Argument → trees.Arguments
arguments_of arguments = joined (trees_of arguments)

-- one with those inside it
abbrev pub nested_of : Nested → trees.Argument
nested_of (nested.Simple basic) = trees.Simple (basic_of basic.now)
nested_of (nested.Text at) = trees.Text at
nested_of (nested.Call name arguments) = trees.Call (name_of name) (arguments_of arguments.now)
nested_of (nested.Brackets at arguments) = trees.Brackets at (arguments_of arguments.now)

-- how many stand inside it, those inside these too
abbrev pub inside : Nested → ℕ
inside (nested.Simple basic) = 0
inside (nested.Text at) = 0
inside (nested.Call name arguments) = length arguments.now
inside (nested.Brackets at arguments) = length arguments.now

abbrev pub annotation_of : Annotation → trees.Annotation
annotation_of a = record { name = name_of a.name; arguments = elim a.arguments [ Some arguments ↦ Some (arguments_of arguments.items) | None ↦ None ] }

abbrev pub index_of : Index → trees.Index
index_of index.AnyIndex = trees.AnyIndex
index_of (index.IndexRange low high) = trees.IndexRange (integer_of low) (integer_of high)

abbrev pub predicate_parameter_of : PredicateParameter → trees.PredicateParameter
predicate_parameter_of p = record {
  indexes = elim p.indexes [ Some indexes ↦ Some (map index_of indexes.items) | None ↦ None ];
  variable = p.variable;
  value_type = type_of p.value_type;
  name = name_of p.name;
}

abbrev pub predicate_item_of : PredicateItem → trees.PredicateItem
predicate_item_of p = record { name = name_of p.name; parameters = map predicate_parameter_of p.parameters.items }

abbrev pub annotations_of : List Annotation → List trees.Annotation
annotations_of annotations = map annotation_of annotations

abbrev pub variable_item_of : VariableItem → trees.VariableItem
variable_item_of v = record {
  value_type = type_of v.value_type;
  name = name_of v.name;
  annotations = annotations_of v.annotations.items;
  value = elim v.value [ Some value ↦ Some (basic_of value) | None ↦ None ];
}

abbrev pub parameter_item_of : ParameterItem → trees.ParameterItem
parameter_item_of p = record { value_type = type_of p.value_type; name = name_of p.name; annotations = annotations_of p.annotations.items; value = basic_of p.value }

abbrev pub array_item_of : ArrayItem → trees.ArrayItem
array_item_of a = record {
  low = integer_of a.low;
  high = integer_of a.high;
  variable = a.variable;
  value_type = type_of a.value_type;
  name = name_of a.name;
  annotations = annotations_of a.annotations.items;
  list = list_of a.list;
}

abbrev pub constraint_item_of : ConstraintItem → trees.ConstraintItem
constraint_item_of c = record { name = name_of c.name; arguments = map expression_of c.arguments.items; annotations = annotations_of c.annotations.items }

abbrev pub item_of : Item → trees.Item
item_of (item.Predicate p) = trees.Predicate (predicate_item_of p)
item_of (item.Variable v) = trees.Variable (variable_item_of v)
item_of (item.Parameter p) = trees.Parameter (parameter_item_of p)
item_of (item.Array a) = trees.Array (array_item_of a.value)
item_of (item.Constraint c) = trees.Constraint (constraint_item_of c)

abbrev pub method_of : Method → trees.Method
method_of (method.Satisfy at) = trees.Satisfy at
method_of (method.Minimize at objective) = trees.Minimize at (basic_of objective)
method_of (method.Maximize at objective) = trees.Maximize at (basic_of objective)

abbrev pub solve_item_of : SolveItem → trees.SolveItem
solve_item_of s = record { annotations = annotations_of s.annotations.items; method = method_of s.method }

abbrev pub program_of : Program → trees.Program
program_of p = record { items = map item_of p.items.items; solve = solve_item_of p.solve }
