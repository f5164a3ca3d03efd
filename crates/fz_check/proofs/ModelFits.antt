-- The model of a program that keeps all rules is one.
use Rattle.std.proofs.Common.{◌≡◌, ℕ, zero, suc, ◌+◌, ◌-◌, ◌≤◌, Bool, true, false, ◌&&◌, cond, Option, Some, None, List, [], ◌∷◌, ◌++◌, length, map, refl, sym, ap, ◌∙◌, append_assoc, length-append, arith, rules}
use Rattle.std.specs.Prelude.{ℤ, pos, flat_map}
use Rattle.std.proofs.lemmas.Int.{ints}
use Rattle.std.specs.List.{AllByRecursion}
use Rattle.std.proofs.lemmas.List.{length-map}
use Rattle.fz_spec.specs.declared.limits.TheConstants.{VARIABLE_LIMIT, CONSTRAINT_LIMIT, ELEMENT_LIMIT}
use Rattle.fz_spec.specs.declared.term.Term.{Term}
use Rattle.fz_spec.specs.declared.term.Term.TheVariants.{Num, Var}
use Rattle.fz_spec.specs.declared.kind.Kind.TheVariants as kinds
use Rattle.fz_spec.specs.declared.asked.Asked.{Asked}
use Rattle.fz_spec.specs.declared.goal.Goal.TheVariants as goals
use Rattle.fz_spec.specs.Constraints as meaning
use Rattle.fz_spec.specs.Instance.{Output}
use Rattle.fz_spec.specs.Instance as instance
use Rattle.fz_spec.specs.Signatures.{Row, row_named, signature_of}
use Rattle.fz_language.specs.declared.fault.RuleFault.TheVariants.{OverLimit}
use Rattle.fz_language.specs.Trees.{Basic, Annotation, VariableItem, ParameterItem, ArrayItem, ConstraintItem, Item, Predicate, Variable, Parameter, Array, Constraint, SolveItem, Method, Satisfy, Minimize, Maximize}
use Rattle.fz_language.specs.Entries.{Environment, nothing_declared, term_in, resolve}
use Rattle.fz_language.specs.Entries as entries
use Rattle.fz_language.specs.Rules.{goal_asked, AVariable, Counts, none_yet, all_counted, additions, over, at_places, faults_of, item_faults, kind_of, term_asked, is_bound, arguments_in, type_additions, value_additions, array_element_additions, members_in}
use Rattle.fz_language.specs.Models.{goal_term, Scope, empty_scope, behind, scope_behind, made, type_set, variables_of, constraints_of, outputs_of, value_term, equal_to_value, call_constraints, terms_of, bound_to}
use Rattle.fz_language.specs.Annotations.{output_var_of, shape_among, asks_whole}
use Rattle.fz_language.specs.Reads.{faults_from}
use Rattle.fz_language.specs.Within.{BasicFits, ItemFits, MethodFits}
use Rattle.fz_model.specs.Kept.{IsVariable, IsConstraint, IsOutput, IsGoal, IsTermOf, FitsElement, kind_at}
use Rattle.fz_check.specs.Fits.{Sound, ModelsFit}
use Rattle.fz_check.proofs.Counting.{nil_parts, variables_in, constraints_in, elements_in, Few, few, elements_both, constraints_both, variables_both, among_counted, array_counted, bound_counted, arguments_few}
use Rattle.fz_check.proofs.Keeps.{no_places, variable_typed, array_keeps, array_placed}
use Rattle.fz_check.proofs.ItemFits.{variable_fits, entered, parameter_fits, listing, array_entered, value_fits, elements_fit, call_fits, scalar_shown, array_shown}
use Rattle.fz_check.proofs.SearchFits.{search_fits}
use Rattle.fz_check.proofs.TermFits.{term_fits}
use Rattle.fz_sets.proofs.Lists.{all_both}

-- what an item makes
record Making (vs : List instance.Variable) (s : Scope) (item : Item) : Type 0 where
  sets : AllByRecursion IsVariable (variables_of s item)
  constrained : AllByRecursion (IsConstraint vs) (constraints_of s item)
  shown : AllByRecursion (IsOutput vs) (outputs_of s item)
  sound : Sound vs (behind s item).entries
  count : (behind s item).variables ≡ s.variables + length (variables_of s item)
  few_variables : length (variables_of s item) ≤ variables_in (additions item)
  few_constraints : length (constraints_of s item) ≤ constraints_in (additions item)

-- the variable that an item declares has its number
abbrev IsNumbered : List instance.Variable → Scope → Item → Type 0
IsNumbered vs s item = (u : instance.Variable) → variables_of s item ≡ u ∷ [] → kind_at vs s.variables ≡ Some u.kind

value_count : (s : Scope) (v : VariableItem) (value : Option Basic) → length (equal_to_value (kind_of v.value_type) s.variables (value_term s.entries v.value_type value)) ≤ constraints_in (value_additions value)
value_count s v None = omega arith
value_count s v (Some b) = go (term_in s.entries (term_asked v.value_type) b)
  where
    go : (o : Option Term) → length (equal_to_value (kind_of v.value_type) s.variables o) ≤ constraints_in (value_additions (Some b))
    go None = omega arith
    go (Some t) = omega arith

variable_made : (vs : List instance.Variable) (s : Scope) (n : Counts) (v : VariableItem) → Sound vs s.entries → ItemFits (Variable v) → IsNumbered vs s (Variable v) → item_faults s.entries (Variable v) ≡ [] → Few n (additions (Variable v)) → Making vs s (Variable v)
variable_made vs s n v sound h k e w =
    let kind = k (record { kind = kind_of v.value_type; set = type_set v.value_type }) refl in
    let rest = AVariable v.name.at ∷ value_additions v.value in
    record {
      sets = (variable_fits v.value_type h.0 (variable_typed s.entries v e) (omega (arith, w.elements, elements_both (type_additions v.value_type) rest)), tt);
      constrained = value_fits vs s v v.value sound kind h.1;
      shown = scalar_shown vs s v h.2 kind;
      sound = entered vs s.entries v.name.bytes (entries.Variable (kind_of v.value_type) s.variables) sound kind;
      count = refl;
      few_variables = omega (arith, variables_both (type_additions v.value_type) rest);
      few_constraints = omega (arith, constraints_both (type_additions v.value_type) rest, value_count s v v.value);
    }

parameter_made : (vs : List instance.Variable) (s : Scope) (n : Counts) (p : ParameterItem) → Sound vs s.entries → ItemFits (Parameter p) → Few n (additions (Parameter p)) → Making vs s (Parameter p)
parameter_made vs s n p sound h w = record {
  sets = tt;
  constrained = tt;
  shown = tt;
  sound = parameter_fits vs s.entries p.name.bytes p.value_type p.value sound h.1 (omega (arith, w.elements, elements_both (type_additions p.value_type) (members_in p.value), among_counted p.value));
  count = omega arith;
  few_variables = omega arith;
  few_constraints = omega arith;
}

element_count : (s : Scope) (a : ArrayItem) → AllByRecursion BasicFits a.list.elements → (vs : List instance.Variable) → Sound vs s.entries
    → (variable bound : Bool) → length (cond variable (cond bound (map (bound_to (type_set a.value_type)) (terms_of s.entries (term_asked a.value_type) a.list)) []) []) ≤ constraints_in (flat_map (array_element_additions (variable && bound)) a.list.elements)
element_count s a h vs sound true true =
    let l = listing vs s.entries (kind_of a.value_type) true a.list sound h in
    omega (arith, length-map (terms_of s.entries (term_asked a.value_type) a.list) (bound_to (type_set a.value_type)), l.count, bound_counted a.list.elements)
element_count s a h vs sound true false = omega arith
element_count s a h vs sound false bound = omega arith

array_made : (vs : List instance.Variable) (s : Scope) (n : Counts) (a : ArrayItem) → Sound vs s.entries → ItemFits (Array a) → item_faults s.entries (Array a) ≡ [] → Few n (additions (Array a)) → Making vs s (Array a)
array_made vs s n a sound h e w =
    let keeps = array_keeps s.entries a e in
    let more = flat_map (array_element_additions (a.variable && is_bound a.value_type)) a.list.elements in
    let both = elements_both (type_additions a.value_type) more in
    let few : length a.list.elements ≤ ELEMENT_LIMIT = omega (arith, w.elements, both, array_counted (a.variable && is_bound a.value_type) a.list.elements) in
    let few_members : elements_in (type_additions a.value_type) ≤ ELEMENT_LIMIT = omega (arith, w.elements, both) in
    record {
      sets = tt;
      constrained = elements_fit vs s a sound h.2 few_members h.3;
      shown = array_shown vs s a sound h few keeps.seven keeps.typed (array_placed a keeps.placed) keeps.whole;
      sound = array_entered vs s.entries a sound h.3 few;
      count = omega arith;
      few_variables = omega arith;
      few_constraints = omega (arith, constraints_both (type_additions a.value_type) more, element_count s a h.3 vs sound a.variable (is_bound a.value_type));
    }

call_count : (s : Scope) (c : ConstraintItem) → length (call_constraints s c) ≤ 1
call_count s c = named (row_named c.name.bytes)
  where
    called : (row : Row) (o : Option (List Asked))
        → length {A = meaning.Constraint} (elim o [ Some signature ↦ record { name = row.builtin; arguments = arguments_in s.entries signature c.arguments; whole = asks_whole c.annotations } ∷ [] | None ↦ [] ]) ≤ 1
    called row None = omega arith
    called row (Some signature) = omega arith

    named : (o : Option Row)
        → length {A = meaning.Constraint}
        (elim o [
          | Some row ↦ elim (signature_of row (length c.arguments)) [ Some signature ↦ record { name = row.builtin; arguments = arguments_in s.entries signature c.arguments; whole = asks_whole c.annotations } ∷ [] | None ↦ [] ]
          | None ↦ []
        ]) ≤ 1
    named None = omega arith
    named (Some row) = called row (signature_of row (length c.arguments))

constraint_made : (vs : List instance.Variable) (s : Scope) (n : Counts) (c : ConstraintItem) → Sound vs s.entries → ItemFits (Constraint c) → item_faults s.entries (Constraint c) ≡ [] → Few n (additions (Constraint c)) → Making vs s (Constraint c)
constraint_made vs s n c sound h e w = record {
  sets = tt;
  constrained = call_fits vs s c sound h (arguments_few c.arguments (omega (arith, w.elements))) e;
  shown = tt;
  sound = sound;
  count = omega arith;
  few_variables = omega arith;
  few_constraints = omega (arith, call_count s c);
}

item_made : (vs : List instance.Variable) (s : Scope) (n : Counts) (item : Item) → Sound vs s.entries → ItemFits item → IsNumbered vs s item → item_faults s.entries item ≡ [] → Few n (additions item) → Making vs s item
item_made vs s n (Predicate p) sound h k e w = record { sets = tt; constrained = tt; shown = tt; sound = sound; count = omega arith; few_variables = omega arith; few_constraints = omega arith }
item_made vs s n (Variable v) sound h k e w = variable_made vs s n v sound h k e w
item_made vs s n (Parameter p) sound h k e w = parameter_made vs s n p sound h w
item_made vs s n (Array a) sound h k e w = array_made vs s n a sound h e w
item_made vs s n (Constraint c) sound h k e w = constraint_made vs s n c sound h e w

-- ---- all items

record All (vs : List instance.Variable) (s : Scope) (n : Counts) (items : List Item) : Type 0 where
  sets : AllByRecursion IsVariable (made variables_of s items)
  constrained : AllByRecursion (IsConstraint vs) (made constraints_of s items)
  shown : AllByRecursion (IsOutput vs) (made outputs_of s items)
  sound : Sound vs (scope_behind s items).entries
  few_variables : length (made variables_of s items) ≤ VARIABLE_LIMIT - n.variables
  few_constraints : length (made constraints_of s items) ≤ CONSTRAINT_LIMIT - n.constraints

kind_behind : (front : List instance.Variable) (u : instance.Variable) (others : List instance.Variable) (i : ℕ) → length front ≡ i → kind_at (front ++ u ∷ others) i ≡ Some u.kind
kind_behind [] u others zero e = refl
kind_behind [] u others (suc i) e = absurd (omega (arith, e))
kind_behind (x ∷ front) u others zero e = absurd (omega (arith, e))
kind_behind (x ∷ front) u others (suc i) e = kind_behind front u others i (omega (arith, e))

numbered : (vs front : List instance.Variable) (s : Scope) (item : Item) (others : List instance.Variable) → vs ≡ front ++ (variables_of s item ++ others) → length front ≡ s.variables → IsNumbered vs s item
numbered vs front s item others is count u one =
    ap (λ (ws : List instance.Variable). kind_at ws s.variables) (is ∙ ap (λ (us : List instance.Variable). front ++ (us ++ others)) one) ∙ kind_behind front u others s.variables count

all_made : (vs front : List instance.Variable) (s : Scope) (n : Counts) (items : List Item) (solve : SolveItem) → vs ≡ front ++ made variables_of s items → length front ≡ s.variables → Sound vs s.entries → AllByRecursion ItemFits items
    → faults_from s n items solve ≡ [] → All vs s n items
all_made vs front s n [] solve is count sound h e = record { sets = tt; constrained = tt; shown = tt; sound = sound; few_variables = omega arith; few_constraints = omega arith }
all_made vs front s n (item ∷ items) solve is count sound h e =
    let p = nil_parts (faults_of s.entries n item) (faults_from (behind s item) (all_counted n (additions item)) items solve) e in
    let q = nil_parts (item_faults s.entries item) (at_places OverLimit (over n (additions item))) p.0 in
    let w = few n (additions item) (no_places OverLimit (over n (additions item)) q.1) in
    let others = made variables_of (behind s item) items in
    let here = item_made vs s n item sound h.0 (numbered vs front s item others is count) q.0 w in
    let rest = all_made vs (front ++ variables_of s item) (behind s item) (all_counted n (additions item)) items solve (is ∙ sym (append_assoc front (variables_of s item) others))
    (length-append front (variables_of s item) ∙ omega (arith, count, here.count)) here.sound h.1 p.1 in
    record {
      sets = all_both IsVariable (variables_of s item) others here.sets rest.sets;
      constrained = all_both (IsConstraint vs) (constraints_of s item) (made constraints_of (behind s item) items) here.constrained rest.constrained;
      shown = all_both (IsOutput vs) (outputs_of s item) (made outputs_of (behind s item) items) here.shown rest.shown;
      sound = rest.sound;
      few_variables = omega (arith, length-append (variables_of s item) others, here.few_variables, rest.few_variables, w.variables_are, w.variables);
      few_constraints = omega (arith, length-append (constraints_of s item) (made constraints_of (behind s item) items), here.few_constraints, rest.few_constraints, w.constraints_are, w.constraints);
    }

-- ---- the model

-- at most one output item for an item
outputs_count : (s : Scope) (item : Item) → length (outputs_of s item) ≤ 1
outputs_count s (Predicate p) = omega arith
outputs_count s (Parameter p) = omega arith
outputs_count s (Constraint c) = omega arith
outputs_count s (Variable v) = go (output_var_of v.annotations)
  where
    go : (o : Option Annotation) → length {A = Output} (elim o [ Some a ↦ record { name = v.name.bytes; kind = kind_of v.value_type; array = false; shape = []; terms = Var s.variables ∷ [] } ∷ [] | None ↦ [] ]) ≤ 1
    go None = omega arith
    go (Some a) = omega arith
outputs_count s (Array a) = go (shape_among a.annotations)
  where
    go : (o : Option (List (ℤ × ℤ))) → length {A = Output} (elim o [
      | Some shape ↦ record { name = a.name.bytes; kind = kind_of a.value_type; array = true; shape = shape; terms = terms_of s.entries (term_asked a.value_type) a.list } ∷ []
      | None ↦ []
    ]) ≤ 1
    go None = omega arith
    go (Some shape) = omega arith

all_outputs_count : (s : Scope) (items : List Item) → length (made outputs_of s items) ≤ length items
all_outputs_count s [] = omega arith
all_outputs_count s (item ∷ items) = omega (arith, length-append (outputs_of s item) (made outputs_of (behind s item) items), outputs_count s item, all_outputs_count (behind s item) items)

goal_number : (vs : List instance.Variable) → IsTermOf vs kinds.Int (Num (pos 0))
goal_number vs = search (rules, ints)

-- the term of a goal
term_fits_goal : (vs : List instance.Variable) (t : Term) → FitsElement vs goal_asked t → IsTermOf vs kinds.Int t
term_fits_goal vs (Num n) h = h
term_fits_goal vs (Var v) h = h.1

goal_term_fits : (vs : List instance.Variable) (env : Environment) (b : Basic) → Sound vs env → BasicFits b → IsTermOf vs kinds.Int (goal_term env b)
goal_term_fits vs env b sound h = go (term_in env goal_asked b) refl
  where
    go : (o : Option Term) → term_in env goal_asked b ≡ o → IsTermOf vs kinds.Int (elim o [ Some t ↦ t | None ↦ Num (pos 0) ])
    go None e = goal_number vs
    go (Some t) e = term_fits_goal vs t (term_fits vs env goal_asked b t sound h e)

goal_fits : (vs : List instance.Variable) (env : Environment) (m : Method) → Sound vs env → MethodFits m
    → IsGoal vs (elim m [ Satisfy at ↦ goals.Satisfy | Minimize at objective ↦ goals.Minimize (goal_term env objective) | Maximize at objective ↦ goals.Maximize (goal_term env objective) ])
goal_fits vs env (Satisfy at) sound h = tt
goal_fits vs env (Minimize at objective) sound h = goal_term_fits vs env objective sound h
goal_fits vs env (Maximize at objective) sound h = goal_term_fits vs env objective sound h

empty_sound : (vs : List instance.Variable) → Sound vs nothing_declared
empty_sound vs name entry e = cc

pub models_fit : ModelsFit
models_fit p h e =
    let vs = made variables_of empty_scope p.items in
    let a = all_made vs [] empty_scope none_yet p.items p.solve refl refl (empty_sound vs) h.0 e in
    let env = (scope_behind empty_scope p.items).entries in
    let size = h.2 in
    let parts = search_fits vs env p.solve.annotations a.sound (omega (arith, size)) in
    record {
      few = a.few_variables;
      sets = a.sets;
      few_constraints = a.few_constraints;
      constrained = a.constrained;
      goal = goal_fits vs env p.solve.method a.sound h.1;
      few_outputs = omega (arith, size, all_outputs_count empty_scope p.items);
      shown = a.shown;
      few_parts = (let l = parts.0 in omega (arith, size, l));
      searched = parts.1;
    }
