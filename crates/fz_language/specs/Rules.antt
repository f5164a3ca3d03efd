-- Rules that an item may break, and where: each a list of places in the order of the text (fzn's own rules; the types are those of
-- the MiniZinc Handbook, "FlatZinc").
use Rattle.std.specs.Prelude.{ℕ, pos, ◌+◌, Bool, true, false, cond, ◌==◌, nat_lt, Option, Some, None, List, [], ◌∷◌, ◌++◌, map, flat_map, length, codes, bytes_eq, reverse, ◌&&◌, ◌||◌}
use Rattle.std.specs.Ordering.{int_eq}
use Rattle.std.specs.Prelude.{Result, Ok, Err}
use Rattle.fz_spec.specs.declared.kind.Kind.{Kind}
use Rattle.fz_spec.specs.declared.kind.Kind.TheVariants as kinds
use Rattle.fz_spec.specs.declared.asked.Element.{Element}
use Rattle.fz_spec.specs.declared.asked.Asked.{Asked}
use Rattle.fz_spec.specs.declared.asked.Asked.TheVariants as asked
use Rattle.fz_spec.specs.declared.limits.TheConstants.{VARIABLE_LIMIT, CONSTRAINT_LIMIT, ELEMENT_LIMIT}
use Rattle.fz_spec.specs.Constraints.{Argument, fit_lengths}
use Rattle.fz_spec.specs.Instance.{element_count}
use Rattle.fz_spec.specs.Signatures.{Row, row_named, signature_of}
use Rattle.fz_language.specs.declared.fault.RuleFault.{RuleFault}
use Rattle.fz_language.specs.declared.fault.RuleFault.TheVariants.{Unsupported, UnknownConstraint, WrongArity, UnknownName, WrongType, WrongLengths, DeclaredTwice, OverLimit}
use Rattle.fz_language.specs.Trees.{Name, SetLiteral, Range, Braces, Plain, AnyBool, AnyInt, AnyFloat, Within, ValueType, One, SetOf, Basic, Truth, Numeral, Literal, Named, Expression, Scalar, Listed, ListLiteral, Annotation, ArrayItem, ConstraintItem, Item, Predicate, Variable, Parameter, Array, Constraint, SolveItem, Satisfy, Minimize, Maximize, number_at, type_at, basic_at}
use Rattle.fz_language.specs.Numerals.{floats_in, floats_of_set}
use Rattle.fz_language.specs.Entries.{Environment, term_in, set_of, resolve, each_of}
use Rattle.fz_language.specs.Annotations.{output_var_of, output_array_of, shape_among, seventh}

-- ---- what is asked of values

-- the kind of the values of a type
abbrev pub kind_of : ValueType → Kind
kind_of (One (AnyBool at)) = kinds.Bool
kind_of (One (AnyInt at)) = kinds.Int
kind_of (One (AnyFloat at)) = kinds.Int
kind_of (One (Within set)) = kinds.Int
kind_of (SetOf at plain) = kinds.Int

-- what the value of a variable of this type, or an element of an array of such variables, is asked to be
abbrev pub term_asked : ValueType → Element
term_asked t = record { kind = kind_of t; may_vary = true }

-- the same of a parameter, or of an array of parameters
abbrev pub number_asked : ValueType → Element
number_asked t = record { kind = kind_of t; may_vary = false }

abbrev pub value_asked : ValueType → Asked
value_asked (One plain) = asked.One (number_asked (One plain))
value_asked (SetOf at plain) = asked.Set

-- ---- unsupported

-- a variable has the type `bool`, `int` or a set of integers
abbrev pub bad_variable_type : ValueType → List ℕ
bad_variable_type (One (AnyBool at)) = []
bad_variable_type (One (AnyInt at)) = []
bad_variable_type (One (AnyFloat at)) = at ∷ []
bad_variable_type (One (Within set)) = floats_of_set set
bad_variable_type (SetOf at plain) = at ∷ []

-- a parameter has the type `bool`, `int` or `set of int`
abbrev pub bad_parameter_type : ValueType → List ℕ
bad_parameter_type (One (AnyBool at)) = []
bad_parameter_type (One (AnyInt at)) = []
bad_parameter_type (SetOf at (AnyInt of_at)) = []
bad_parameter_type t = type_at t ∷ []

abbrev pub bad_element_type : Bool → ValueType → List ℕ
bad_element_type true t = bad_variable_type t
bad_element_type false t = bad_parameter_type t

abbrev pub floats_of : Expression → List ℕ
floats_of (Scalar basic) = floats_in basic
floats_of (Listed list) = flat_map floats_in list.elements

abbrev pub begins : List ℕ → List ℕ → Bool
begins name [] = true
begins [] (b ∷ prefix) = false
begins (a ∷ name) (b ∷ prefix) = (a == b) && begins name prefix

abbrev pub ends_with : List ℕ → List ℕ → Bool
ends_with name suffix = begins (reverse name) (reverse suffix)

-- of the names that the table has not: a constraint over floats, over sets that vary, or a half reified one
abbrev pub is_of_floats_or_sets : List ℕ → Bool
is_of_floats_or_sets name =
    begins name (codes "float_") || begins name (codes "set_") || begins name (codes "array_float_") || begins name (codes "array_var_float_") || begins name (codes "array_set_") || begins name (codes "array_var_set_")
    || ends_with name (codes "_imp")

-- or a power, or a conversion to floats
abbrev pub is_unsupported : List ℕ → Bool
is_unsupported name = bytes_eq name (codes "int_pow") || bytes_eq name (codes "int2float") || is_of_floats_or_sets name

abbrev pub named_unsupported : Name → List ℕ
named_unsupported name = elim (row_named name.bytes) [ Some row ↦ [] | None ↦ cond (is_unsupported name.bytes) (name.at ∷ []) [] ]

abbrev pub named_unknown : Name → List ℕ
named_unknown name = elim (row_named name.bytes) [ Some row ↦ [] | None ↦ cond (is_unsupported name.bytes) [] (name.at ∷ []) ]

-- the place of the seventh index range of the annotation `output_array`
abbrev pub seventh_ranges : List Annotation → List ℕ
seventh_ranges annotations = elim (output_array_of annotations) [ Some a ↦ seventh a | None ↦ [] ]

abbrev pub floats_of_value : Option Basic → List ℕ
floats_of_value (Some basic) = floats_in basic
floats_of_value None = []

-- ---- names

abbrev pub unknown_name : Environment → Name → List ℕ
unknown_name env name = elim (env name.bytes) [ Some entry ↦ [] | None ↦ name.at ∷ [] ]

abbrev pub unknown_in : Environment → Basic → List ℕ
unknown_in env (Named name) = unknown_name env name
unknown_in env (Truth value at) = []
unknown_in env (Numeral number) = []
unknown_in env (Literal set) = []

abbrev pub unknown_of : Environment → Expression → List ℕ
unknown_of env (Scalar basic) = unknown_in env basic
unknown_of env (Listed list) = flat_map (unknown_in env) list.elements

abbrev pub unknown_of_value : Environment → Option Basic → List ℕ
unknown_of_value env (Some basic) = unknown_in env basic
unknown_of_value env None = []

abbrev pub declared_already : Environment → Name → List ℕ
declared_already env name = elim (env name.bytes) [ Some entry ↦ name.at ∷ [] | None ↦ [] ]

-- ---- types

abbrev pub wrong_place : {X : Type 0} → Result X ℕ → List ℕ
wrong_place (Ok x) = []
wrong_place (Err at) = at ∷ []

abbrev pub wrong_value : Environment → ValueType → Option Basic → List ℕ
wrong_value env t (Some basic) = wrong_place (resolve env (asked.One (term_asked t)) (Scalar basic))
wrong_value env t None = []

abbrev pub wrong_element : Environment → Bool → ValueType → ListLiteral → List ℕ
wrong_element env true t list = wrong_place (each_of (term_in env (term_asked t)) list.elements)
wrong_element env false (One plain) list = wrong_place (each_of (term_in env (number_asked (One plain))) list.elements)
wrong_element env false (SetOf at plain) list = wrong_place (each_of (set_of env) list.elements)

abbrev pub wrong_arguments : Environment → List Asked → List Expression → List ℕ
wrong_arguments env (wanted ∷ rest) (e ∷ es) = wrong_place (resolve env wanted e) ++ wrong_arguments env rest es
wrong_arguments env [] es = []
wrong_arguments env (wanted ∷ rest) [] = []

-- where an annotation `output_var` without arguments stands, and where an annotation `output_array`
abbrev pub output_var_places : List Annotation → List ℕ
output_var_places annotations = elim (output_var_of annotations) [ Some a ↦ a.name.at ∷ [] | None ↦ [] ]

abbrev pub output_array_places : List Annotation → List ℕ
output_array_places annotations = elim (output_array_of annotations) [ Some a ↦ a.name.at ∷ [] | None ↦ [] ]

-- an annotation `output_array` that isn't one list of integer ranges
abbrev pub malformed_output_array : List Annotation → List ℕ
malformed_output_array annotations = elim (shape_among annotations) [ Some shape ↦ [] | None ↦ output_array_places annotations ]

-- the two in the order of their places
abbrev pub in_order : List ℕ → List ℕ → List ℕ
in_order (a ∷ more) (b ∷ bs) = cond (nat_lt b a) (b ∷ a ∷ []) (a ∷ b ∷ [])
in_order [] bs = bs
in_order more [] = more

-- ---- lengths

-- the arguments that are of the types that are asked
abbrev pub arguments_in : Environment → List Asked → List Expression → List Argument
arguments_in env (wanted ∷ rest) (e ∷ es) = elim (resolve env wanted e) [ Ok argument ↦ argument ∷ arguments_in env rest es | Err at ↦ arguments_in env rest es ]
arguments_in env [] es = []
arguments_in env (wanted ∷ rest) [] = []

-- index sets are 1..n, n the number of elements
abbrev pub wrong_index_set : ArrayItem → List ℕ
wrong_index_set a = cond (int_eq a.low.value (pos 1) && int_eq a.high.value (pos (length a.list.elements))) [] (a.name.at ∷ [])

-- the index ranges for output have as many elements as the array
abbrev pub wrong_shape : ArrayItem → List ℕ
wrong_shape a = elim (shape_among a.annotations) [
  | Some shape ↦ cond (element_count shape == length a.list.elements) [] (output_array_places a.annotations)
  | None ↦ []
]

-- ---- limits

pub data Addition : Type 0 where
  AVariable : (at : ℕ) → Addition
  AConstraint : (at : ℕ) → Addition
  AnElement : (at : ℕ) → Addition

-- the elements of a set in braces, and of a list: a set in a list is one of its elements
abbrev pub members_of : SetLiteral → List Addition
members_of (Range low high) = []
members_of (Braces at members) = flat_map (λ m. AnElement (number_at m) ∷ []) members

abbrev pub members_in : Basic → List Addition
members_in (Literal set) = members_of set
members_in (Truth value at) = []
members_in (Numeral number) = []
members_in (Named name) = []

abbrev pub element_additions : Basic → List Addition
element_additions basic = AnElement (basic_at basic) ∷ members_in basic

abbrev pub expression_additions : Expression → List Addition
expression_additions (Scalar basic) = members_in basic
expression_additions (Listed list) = flat_map element_additions list.elements

abbrev pub plain_additions : Plain → List Addition
plain_additions (Within set) = members_of set
plain_additions (AnyBool at) = []
plain_additions (AnyInt at) = []
plain_additions (AnyFloat at) = []

abbrev pub type_additions : ValueType → List Addition
type_additions (One plain) = plain_additions plain
type_additions (SetOf at plain) = plain_additions plain

-- whether a type binds each element of an array of variables
abbrev pub is_bound : ValueType → Bool
is_bound (One (Within set)) = true
is_bound (One (AnyBool at)) = false
is_bound (One (AnyInt at)) = false
is_bound (One (AnyFloat at)) = false
is_bound (SetOf at plain) = false

abbrev pub array_element_additions : Bool → Basic → List Addition
array_element_additions bound basic = cond bound (AConstraint (basic_at basic) ∷ []) [] ++ element_additions basic

abbrev pub value_additions : Option Basic → List Addition
value_additions (Some basic) = AConstraint (basic_at basic) ∷ members_in basic
value_additions None = []

-- what an item adds, in the order of the text
abbrev pub additions : Item → List Addition
additions (Predicate p) = []
additions (Variable v) = type_additions v.value_type ++ AVariable v.name.at ∷ value_additions v.value
additions (Parameter p) = type_additions p.value_type ++ members_in p.value
additions (Array a) = type_additions a.value_type ++ flat_map (array_element_additions (a.variable && is_bound a.value_type)) a.list.elements
additions (Constraint c) = AConstraint c.name.at ∷ flat_map expression_additions c.arguments

pub record Counts : Type 0 where
  pub variables : ℕ
  pub constraints : ℕ
  pub elements : ℕ

abbrev pub none_yet : Counts
none_yet = record { variables = 0; constraints = 0; elements = 0 }

abbrev pub counted : Counts → Addition → Counts
counted n (AVariable at) = record n { variables = n.variables + 1 }
counted n (AConstraint at) = record n { constraints = n.constraints + 1 }
counted n (AnElement at) = record n { elements = n.elements + 1 }

abbrev pub all_counted : Counts → List Addition → Counts
all_counted n [] = n
all_counted n (a ∷ more) = all_counted (counted n a) more

abbrev pub is_over : Counts → Addition → List ℕ
is_over n (AVariable at) = cond (nat_lt n.variables VARIABLE_LIMIT) [] (at ∷ [])
is_over n (AConstraint at) = cond (nat_lt n.constraints CONSTRAINT_LIMIT) [] (at ∷ [])
is_over n (AnElement at) = cond (nat_lt n.elements ELEMENT_LIMIT) [] (at ∷ [])

-- those over a limit, after that many
abbrev pub over : Counts → List Addition → List ℕ
over n [] = []
over n (a ∷ more) = is_over n a ++ over (counted n a) more

-- ---- faults

pub record Fault : Type 0 where
  pub rule : RuleFault
  pub at : ℕ

abbrev pub at_places : RuleFault → List ℕ → List Fault
at_places rule places = map (λ at. record { rule = rule; at = at }) places

-- Rules that a call breaks: an unsupported or unknown name; a wrong number of arguments; unknown names among them; arguments of a
-- wrong type; lists of other lengths than are asked.
abbrev pub signature_faults : Environment → ConstraintItem → Row → Option (List Asked) → List Fault
signature_faults env c row None = at_places WrongArity (c.name.at ∷ []) ++ at_places UnknownName (flat_map (unknown_of env) c.arguments)
signature_faults env c row (Some signature) =
    at_places UnknownName (flat_map (unknown_of env) c.arguments) ++ at_places WrongType (wrong_arguments env signature c.arguments)
    ++ at_places WrongLengths (cond (fit_lengths row.lengths (arguments_in env signature c.arguments)) [] (c.name.at ∷ []))

abbrev pub row_faults : Environment → ConstraintItem → Option Row → List Fault
row_faults env c None = at_places UnknownConstraint (named_unknown c.name) ++ at_places UnknownName (flat_map (unknown_of env) c.arguments)
row_faults env c (Some row) = signature_faults env c row (signature_of row (length c.arguments))

abbrev pub call_faults : Environment → ConstraintItem → List Fault
call_faults env c = at_places Unsupported (named_unsupported c.name ++ flat_map floats_of c.arguments) ++ row_faults env c (row_named c.name.bytes)

-- The rules that an item breaks after an environment, in the order of the rules, each at its places in the order of the text.
abbrev pub item_faults : Environment → Item → List Fault
item_faults env (Predicate p) = []
item_faults env (Variable v) =
    at_places Unsupported (bad_variable_type v.value_type ++ seventh_ranges v.annotations ++ floats_of_value v.value)
    ++ at_places UnknownName (unknown_of_value env v.value)
    ++ at_places WrongType (output_array_places v.annotations ++ wrong_value env v.value_type v.value)
    ++ at_places DeclaredTwice (declared_already env v.name)
item_faults env (Parameter p) =
    at_places Unsupported (bad_parameter_type p.value_type ++ seventh_ranges p.annotations ++ floats_in p.value)
    ++ at_places UnknownName (unknown_in env p.value)
    ++ at_places WrongType (in_order (output_var_places p.annotations) (output_array_places p.annotations) ++ wrong_place (resolve env (value_asked p.value_type) (Scalar p.value)))
    ++ at_places DeclaredTwice (declared_already env p.name)
item_faults env (Array a) =
    at_places Unsupported (bad_element_type a.variable a.value_type ++ seventh_ranges a.annotations ++ flat_map floats_in a.list.elements)
    ++ at_places UnknownName (flat_map (unknown_in env) a.list.elements)
    ++ at_places WrongType (in_order (output_var_places a.annotations) (cond a.variable (malformed_output_array a.annotations) (output_array_places a.annotations)) ++ wrong_element env a.variable a.value_type a.list)
    ++ at_places WrongLengths (wrong_index_set a ++ wrong_shape a)
    ++ at_places DeclaredTwice (declared_already env a.name)
item_faults env (Constraint c) = call_faults env c

-- and those of the limits, which come last
abbrev pub faults_of : Environment → Counts → Item → List Fault
faults_of env n item = item_faults env item ++ at_places OverLimit (over n (additions item))

-- Rules that a goal breaks: it is of an integer, or of an integer variable.
abbrev pub goal_asked : Element
goal_asked = record { kind = kinds.Int; may_vary = true }

abbrev pub goal_faults : Environment → Basic → List Fault
goal_faults env objective =
    at_places Unsupported (floats_in objective) ++ at_places UnknownName (unknown_in env objective) ++ at_places WrongType (wrong_place (resolve env (asked.One goal_asked) (Scalar objective)))

-- Rules that the solve item breaks: those of its goal.
abbrev pub solve_faults : Environment → SolveItem → List Fault
solve_faults env s = elim s.method [
  | Satisfy at ↦ []
  | Minimize at objective ↦ goal_faults env objective
  | Maximize at objective ↦ goal_faults env objective
]
