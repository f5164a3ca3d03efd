-- What an item that keeps all rules makes of a draft.
use Rattle.std.proofs.Common.{◌≡◌, ℕ, Bool, true, false, ◌&&◌, Option, Some, None, List, [], ◌∷◌, ◌++◌, length, refl, sym, ap, ap₂, ◌∙◌, subst, append_assoc, length-append, arith}
use Rattle.std.specs.Prelude.{ℤ, flat_map}
use Rattle.fz_language.specs.declared.fault.RuleFault.TheVariants.{OverLimit}
use Rattle.fz_language.specs.Trees.{Number, SetLiteral, Range, Braces, Basic, Truth, Numeral, Literal, Named, AnyBool, AnyInt, AnyFloat, Within, ValueType, One, SetOf, Expression, Scalar, Listed, Annotation, VariableItem, ArrayItem, Item, Predicate, Variable, Parameter, Array, Constraint, Program, number_at}
use Rattle.fz_language.specs.Rules.{AVariable, AnElement, Counts, all_counted, additions, over, at_places, item_faults, kind_of, is_bound, members_of, members_in, element_additions, expression_additions, type_additions, value_additions, array_element_additions}
use Rattle.fz_language.specs.Within.{VariableFits}
use Rattle.fz_model.specs.Kept.{IsVariable}
use Rattle.fz_language.specs.Annotations.{output_array_of, shape_in, shape_among}
use Rattle.fz_language.specs.Entries.{Environment}
use Rattle.fz_language.specs.Models.{Scope, empty_scope, behind, scope_behind, made, variables_of, constraints_of, outputs_of, type_set}
use Rattle.fz_language.specs.Reads.{faults_from}
use Rattle.fz_resolve.specs.Meant.{environment_of}
use Rattle.fz_syntax.specs.Rooms.{IsRoom}
use Rattle.fz_check.specs.Drafts.{scope_of, IsCounted, Adds, IsGrown, IsAhead}
use Rattle.fz_check.specs.declared.draft.Draft.{Draft}
use Rattle.fz_check.proofs.Counting.{variables_in, variables_both, elements_both, few}
use Rattle.fz_check.proofs.ItemFits.{variable_fits}
use Rattle.fz_check.proofs.Keeps.{variable_typed, array_keeps, array_placed}

-- ---- only variables count as variables

no_members : (ms : List Number) → variables_in (flat_map (λ m. AnElement (number_at m) ∷ []) ms) ≡ 0
no_members [] = refl
no_members (m ∷ ms) = no_members ms

none_in_set : (set : SetLiteral) → variables_in (members_of set) ≡ 0
none_in_set (Range low high) = refl
none_in_set (Braces at members) = no_members members

none_in_basic : (b : Basic) → variables_in (members_in b) ≡ 0
none_in_basic (Literal set) = none_in_set set
none_in_basic (Truth value at) = refl
none_in_basic (Numeral number) = refl
none_in_basic (Named name) = refl

none_in_type : (t : ValueType) → variables_in (type_additions t) ≡ 0
none_in_type (One (Within set)) = none_in_set set
none_in_type (One (AnyBool at)) = refl
none_in_type (One (AnyInt at)) = refl
none_in_type (One (AnyFloat at)) = refl
none_in_type (SetOf at (Within set)) = none_in_set set
none_in_type (SetOf at (AnyBool b)) = refl
none_in_type (SetOf at (AnyInt b)) = refl
none_in_type (SetOf at (AnyFloat b)) = refl

none_in_value : (value : Option Basic) → variables_in (value_additions value) ≡ 0
none_in_value None = refl
none_in_value (Some b) = none_in_basic b

none_in_elements : (bs : List Basic) → variables_in (flat_map element_additions bs) ≡ 0
none_in_elements [] = refl
none_in_elements (b ∷ bs) = omega (arith, variables_both (element_additions b) (flat_map element_additions bs), none_in_basic b, none_in_elements bs)

none_in_array : (bound : Bool) (bs : List Basic) → variables_in (flat_map (array_element_additions bound) bs) ≡ 0
none_in_array bound [] = refl
none_in_array true (b ∷ bs) = omega (arith, variables_both (array_element_additions true b) (flat_map (array_element_additions true) bs), none_in_basic b, none_in_array true bs)
none_in_array false (b ∷ bs) = omega (arith, variables_both (array_element_additions false b) (flat_map (array_element_additions false) bs), none_in_basic b, none_in_array false bs)

none_in_expression : (e : Expression) → variables_in (expression_additions e) ≡ 0
none_in_expression (Scalar b) = none_in_basic b
none_in_expression (Listed list) = none_in_elements list.elements

none_in_expressions : (es : List Expression) → variables_in (flat_map expression_additions es) ≡ 0
none_in_expressions [] = refl
none_in_expressions (e ∷ es) = omega (arith, variables_both (expression_additions e) (flat_map expression_additions es), none_in_expression e, none_in_expressions es)

counted_of : (s : Scope) (item : Item) → variables_in (additions item) ≡ length (variables_of s item)
counted_of s (Predicate p) = refl
counted_of s (Variable v) = omega (arith, variables_both (type_additions v.value_type) (AVariable v.name.at ∷ value_additions v.value), none_in_type v.value_type, none_in_value v.value)
counted_of s (Parameter p) = omega (arith, variables_both (type_additions p.value_type) (members_in p.value), none_in_type p.value_type, none_in_basic p.value)
counted_of s (Array a) =
    let bound = a.variable && is_bound a.value_type in
    omega (arith, variables_both (type_additions a.value_type) (flat_map (array_element_additions bound) a.list.elements), none_in_type a.value_type, none_in_array bound a.list.elements)
counted_of s (Constraint c) = none_in_expressions c.arguments

-- ---- one item more

pub grown : (old new : Draft) (n : Counts) (item : Item) → IsCounted old n → item_faults (environment_of old.names) item ≡ [] → over n (additions item) ≡ [] → IsRoom new.room (all_counted n (additions item)) → Adds old new (scope_of old) item → IsGrown old new n item
grown old new n item c keep fits room adds = record {
  keeps = ap₂ (λ xs ys. xs ++ at_places OverLimit ys) keep fits;
  counted = record {
    room = room;
    variables =
        let w = few n (additions item) fits in
        omega (arith, w.variables_are, counted_of (scope_of old) item, c.variables, ap length adds.variables, length-append old.variables.items (variables_of (scope_of old) item));
  };
  adds = adds;
}

-- what the room after an item says of it
abbrev pub Kept : Draft → Draft → Counts → Item → Item → Type 0
Kept old new n item it = (item_faults (environment_of old.names) it ≡ []) × (over n (additions item) ≡ []) × IsRoom new.room (all_counted n (additions item))

pub grown_item : (old new : Draft) (n : Counts) (item it : Item) → item ≡ it → IsCounted old n → Kept old new n item it → Adds old new (scope_of old) it → IsGrown old new n item
grown_item old new n item it e c h adds =
    subst (λ (x : Item). IsGrown old new n x) (sym e)
    (grown old new n it c h.0 (subst (λ (x : Item). over n (additions x) ≡ []) e h.1) (subst (λ (x : Item). IsRoom new.room (all_counted n (additions x))) e h.2) adds)

-- ---- declarations that keep all rules

pub variable_is : (env : Environment) (n : Counts) (v : VariableItem) → VariableFits v → item_faults env (Variable v) ≡ [] → over n (additions (Variable v)) ≡ [] → IsVariable (record { kind = kind_of v.value_type; set = type_set v.value_type })
variable_is env n v h e o =
    let w = few n (additions (Variable v)) o in
    variable_fits v.value_type h.0 (variable_typed env v e)
    (omega (arith, w.elements, elements_both (type_additions v.value_type) (AVariable v.name.at ∷ value_additions v.value)))

no_annotation : (o : Option Annotation) → ◌≡◌ {A = List ℕ} (elim o [ Some a ↦ a.name.at ∷ [] | None ↦ [] ]) [] → ◌≡◌ {A = Option (List (ℤ × ℤ))} (elim o [ Some a ↦ shape_in a | None ↦ None ]) None
no_annotation None e = refl
no_annotation (Some a) e = cc

-- an array of no variables has no index ranges for output
pub unplaced : (env : Environment) (a : ArrayItem) → item_faults env (Array a) ≡ [] → a.variable ≡ false → shape_among a.annotations ≡ None
unplaced env a e f = no_annotation (output_array_of a.annotations) (array_placed a (array_keeps env a e).placed f)

-- ---- all items

pub ahead_more : (p : Program) (old new : Draft) (item : Item) (rest : List Item) (a : IsAhead p old (item ∷ rest)) → IsGrown old new a.counts item → IsAhead p new rest
ahead_more p old new item rest a g = record {
  counts = all_counted a.counts (additions item);
  counted = g.counted;
  faults =
      a.faults ∙ ap (λ fs. fs ++ faults_from (behind (scope_of old) item) (all_counted a.counts (additions item)) rest p.solve) g.keeps
      ∙ ap (λ (s : Scope). faults_from s (all_counted a.counts (additions item)) rest p.solve) (sym g.adds.scope);
  scope = a.scope ∙ ap (λ (s : Scope). scope_behind s rest) (sym g.adds.scope);
  variables = next variables_of old.variables.items new.variables.items a.variables g.adds.variables;
  constraints = next constraints_of old.constraints new.constraints a.constraints g.adds.constraints;
  outputs = next outputs_of old.outputs.items new.outputs.items a.outputs g.adds.outputs;
}
  where
    next : {X : Type 0} (make : Scope → Item → List X) (xs ys : List X) → made make empty_scope p.items ≡ xs ++ (make (scope_of old) item ++ made make (behind (scope_of old) item) rest) → ys ≡ xs ++ make (scope_of old) item
        → made make empty_scope p.items ≡ ys ++ made make (scope_of new) rest
    next make xs ys e k =
        e ∙ sym (append_assoc xs (make (scope_of old) item) (made make (behind (scope_of old) item) rest))
        ∙ ap (λ zs. zs ++ made make (behind (scope_of old) item) rest) (sym k) ∙ ap (λ (s : Scope). ys ++ made make s rest) (sym g.adds.scope)
