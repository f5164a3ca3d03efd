-- The model of a program that breaks no rule.
use Rattle.std.specs.Prelude.{ℕ, ◌+◌, ℤ, pos, Bool, true, false, cond, Option, Some, None, List, [], ◌∷◌, ◌++◌, map, length}
use Rattle.std.specs.Prelude.{Ok, Err}
use Rattle.fz_sets.specs.Sets.{LEAST, GREATEST}
use Rattle.fz_spec.specs.declared.kind.Kind.{Kind}
use Rattle.fz_spec.specs.declared.kind.Kind.TheVariants as kinds
use Rattle.fz_spec.specs.declared.builtin.Builtin.TheVariants.{BoolEq, IntEq, SetIn}
use Rattle.fz_spec.specs.declared.term.Term.{Term}
use Rattle.fz_spec.specs.declared.term.Term.TheVariants.{Num, Var}
use Rattle.fz_spec.specs.declared.asked.Element.{Element}
use Rattle.fz_spec.specs.declared.goal.Goal.{Goal}
use Rattle.fz_spec.specs.declared.goal.Goal.TheVariants as goals
use Rattle.fz_spec.specs.Constraints as meaning
use Rattle.fz_spec.specs.Instance.{Instance, Output}
use Rattle.fz_spec.specs.Instance as instance
use Rattle.fz_spec.specs.Signatures.{row_named, signature_of}
use Rattle.fz_language.specs.Trees.{Plain, AnyBool, AnyInt, AnyFloat, Within, ValueType, One, SetOf, Basic, ListLiteral, VariableItem, ArrayItem, ConstraintItem, Item, Predicate, Variable, Parameter, Array, Constraint, SolveItem, Satisfy, Minimize, Maximize, Program}
use Rattle.fz_language.specs.Numerals.{set_in}
use Rattle.fz_language.specs.Entries.{Environment, Entry, nothing_declared, with_entry, term_in, set_of, each_of, number_of}
use Rattle.fz_language.specs.Entries as entries
use Rattle.fz_language.specs.Annotations.{output_var_of, shape_among, asks_whole}
use Rattle.fz_language.specs.Rules.{kind_of, term_asked, number_asked, goal_asked, arguments_in, is_bound}
use Rattle.fz_language.specs.Search.{search_of}

-- ---- sets

-- the set of a type: 0..1 for a Boolean, all numbers within the limits for an integer
abbrev pub plain_set : Plain → List (ℤ × ℤ)
plain_set (AnyBool at) = (pos 0, pos 1) ∷ []
plain_set (AnyInt at) = (LEAST, GREATEST) ∷ []
plain_set (AnyFloat at) = []
plain_set (Within set) = elim (set_in set) [ Some ranges ↦ ranges | None ↦ [] ]

abbrev pub type_set : ValueType → List (ℤ × ℤ)
type_set (One plain) = plain_set plain
type_set (SetOf at plain) = []

-- ---- what an item declares

abbrev pub terms_of : Environment → Element → ListLiteral → List Term
terms_of env e list = elim (each_of (term_in env e) list.elements) [ Ok terms ↦ terms | Err at ↦ [] ]

abbrev pub parameter_entry : Environment → ValueType → Basic → Option Entry
parameter_entry env (One plain) basic = elim (term_in env (number_asked (One plain)) basic) [ Some t ↦ Some (entries.Value (kind_of (One plain)) (number_of t)) | None ↦ None ]
parameter_entry env (SetOf at plain) basic = elim (set_of env basic) [ Some set ↦ Some (entries.Set set) | None ↦ None ]

abbrev pub array_entry : Environment → ArrayItem → Bool → ValueType → Entry
array_entry env a true t = entries.Terms (kind_of t) (terms_of env (term_asked t) a.list)
array_entry env a false (One plain) = entries.Numbers (kind_of (One plain)) (map number_of (terms_of env (number_asked (One plain)) a.list))
array_entry env a false (SetOf at plain) = entries.Sets

-- what stands before an item: what names stand for, and how many variables there are
pub record Scope : Type 0 where
  pub entries : Environment
  pub variables : ℕ

abbrev pub empty_scope : Scope
empty_scope = record { entries = nothing_declared; variables = 0 }

abbrev pub declare : List ℕ → Option Entry → Environment → Environment
declare name (Some entry) env = with_entry name entry env
declare name None env = env

-- what stands after an item
abbrev pub behind : Scope → Item → Scope
behind s (Variable v) = record { entries = with_entry v.name.bytes (entries.Variable (kind_of v.value_type) s.variables) s.entries; variables = s.variables + 1 }
behind s (Parameter p) = record s { entries = declare p.name.bytes (parameter_entry s.entries p.value_type p.value) s.entries }
behind s (Array a) = record s { entries = with_entry a.name.bytes (array_entry s.entries a a.variable a.value_type) s.entries }
behind s (Predicate p) = s
behind s (Constraint c) = s

abbrev pub scope_behind : Scope → List Item → Scope
scope_behind s [] = s
scope_behind s (item ∷ items) = scope_behind (behind s item) items

-- what items make, each by what stands before it
abbrev pub made : {X : Type 0} → (Scope → Item → List X) → Scope → List Item → List X
made make s [] = []
made make s (item ∷ items) = make s item ++ made make (behind s item) items

-- ---- variables and constraints

abbrev pub variables_of : Scope → Item → List instance.Variable
variables_of s (Variable v) = record { kind = kind_of v.value_type; set = type_set v.value_type } ∷ []
variables_of s (Predicate p) = []
variables_of s (Parameter p) = []
variables_of s (Array a) = []
variables_of s (Constraint c) = []

abbrev pub equal_to : Kind → Term → Term → meaning.Constraint
equal_to kinds.Bool x y = record { name = BoolEq; arguments = meaning.One x ∷ meaning.One y ∷ []; whole = false }
equal_to kinds.Int x y = record { name = IntEq; arguments = meaning.One x ∷ meaning.One y ∷ []; whole = false }

-- the term that the value of a variable is, if it has one
abbrev pub value_term : Environment → ValueType → Option Basic → Option Term
value_term env t value = elim value [ Some basic ↦ term_in env (term_asked t) basic | None ↦ None ]

-- that a variable equals its value, if it has one
abbrev pub equal_to_value : Kind → ℕ → Option Term → List meaning.Constraint
equal_to_value kind number value = elim value [ Some t ↦ equal_to kind (Var number) t ∷ [] | None ↦ [] ]

-- an element lies in the set of its type
abbrev pub bound_to : List (ℤ × ℤ) → Term → meaning.Constraint
bound_to set t = record { name = SetIn; arguments = meaning.One t ∷ meaning.Set set ∷ []; whole = false }

abbrev pub element_constraints : Scope → ArrayItem → List meaning.Constraint
element_constraints s a = cond a.variable (cond (is_bound a.value_type) (map (bound_to (type_set a.value_type)) (terms_of s.entries (term_asked a.value_type) a.list)) []) []

abbrev pub call_constraints : Scope → ConstraintItem → List meaning.Constraint
call_constraints s c = elim (row_named c.name.bytes) [
  | Some row ↦ elim (signature_of row (length c.arguments)) [ Some signature ↦ record { name = row.builtin; arguments = arguments_in s.entries signature c.arguments; whole = asks_whole c.annotations } ∷ [] | None ↦ [] ]
  | None ↦ []
]

abbrev pub constraints_of : Scope → Item → List meaning.Constraint
constraints_of s (Variable v) = equal_to_value (kind_of v.value_type) s.variables (value_term s.entries v.value_type v.value)
constraints_of s (Array a) = element_constraints s a
constraints_of s (Constraint c) = call_constraints s c
constraints_of s (Predicate p) = []
constraints_of s (Parameter p) = []

-- ---- output

-- a variable with the annotation `output_var` without arguments
abbrev pub scalar_outputs : Scope → VariableItem → List Output
scalar_outputs s v = elim (output_var_of v.annotations) [
  | Some a ↦ record { name = v.name.bytes; kind = kind_of v.value_type; array = false; shape = []; terms = Var s.variables ∷ [] } ∷ []
  | None ↦ []
]

-- an array with the annotation `output_array`
abbrev pub array_outputs : Scope → ArrayItem → List Output
array_outputs s a = elim (shape_among a.annotations) [
  | Some shape ↦ record { name = a.name.bytes; kind = kind_of a.value_type; array = true; shape = shape; terms = terms_of s.entries (term_asked a.value_type) a.list } ∷ []
  | None ↦ []
]

abbrev pub outputs_of : Scope → Item → List Output
outputs_of s (Variable v) = scalar_outputs s v
outputs_of s (Array a) = array_outputs s a
outputs_of s (Predicate p) = []
outputs_of s (Parameter p) = []
outputs_of s (Constraint c) = []

-- ---- the whole

abbrev pub goal_term : Environment → Basic → Term
goal_term env basic = elim (term_in env goal_asked basic) [ Some t ↦ t | None ↦ Num (pos 0) ]

abbrev pub goal_of : Environment → SolveItem → Goal
goal_of env s = elim s.method [
  | Satisfy at ↦ goals.Satisfy
  | Minimize at objective ↦ goals.Minimize (goal_term env objective)
  | Maximize at objective ↦ goals.Maximize (goal_term env objective)
]

abbrev pub model_of : Program → Instance
model_of p = let env = (scope_behind empty_scope p.items).entries in record {
  variables = made variables_of empty_scope p.items;
  constraints = made constraints_of empty_scope p.items;
  goal = goal_of env p.solve;
  outputs = made outputs_of empty_scope p.items;
  search = search_of env p.solve.annotations;
}
