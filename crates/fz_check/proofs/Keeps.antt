-- What a declaration that breaks no rule keeps.
use Rattle.std.proofs.Common.{◌≡◌, ℕ, Bool, true, false, cond, List, [], ◌∷◌, ◌++◌, refl}
use Rattle.std.specs.Prelude.{nat_lt, flat_map}
use Rattle.fz_language.specs.declared.fault.RuleFault.{RuleFault}
use Rattle.fz_language.specs.declared.fault.RuleFault.TheVariants.{Unsupported, UnknownName, WrongType, WrongLengths, DeclaredTwice}
use Rattle.fz_language.specs.Trees.{VariableItem, ArrayItem, Variable, Array}
use Rattle.fz_language.specs.Numerals.{floats_in}
use Rattle.fz_language.specs.Entries.{Environment}
use Rattle.fz_language.specs.Rules.{at_places, item_faults, bad_variable_type, bad_element_type, seventh_ranges, floats_of_value, unknown_of_value, unknown_in, output_array_places, output_var_places, malformed_output_array, in_order, wrong_value, wrong_element, wrong_index_set, wrong_shape, declared_already}
use Rattle.fz_check.proofs.Counting.{nil_parts}

pub no_places : (rule : RuleFault) (places : List ℕ) → at_places rule places ≡ [] → places ≡ []
no_places rule [] e = refl
no_places rule (at ∷ places) e = cc

pub variable_typed : (env : Environment) (v : VariableItem) → item_faults env (Variable v) ≡ [] → bad_variable_type v.value_type ≡ []
variable_typed env v e =
    let places = bad_variable_type v.value_type ++ seventh_ranges v.annotations ++ floats_of_value v.value in
    let unsupported = at_places Unsupported places in
    let unknown = at_places UnknownName (unknown_of_value env v.value) in
    let wrong = at_places WrongType (output_array_places v.annotations ++ wrong_value env v.value_type v.value) in
    let p = nil_parts (unsupported ++ unknown ++ wrong) (at_places DeclaredTwice (declared_already env v.name)) e in
    let q = nil_parts (unsupported ++ unknown) wrong p.0 in
    let t = nil_parts (bad_variable_type v.value_type ++ seventh_ranges v.annotations) (floats_of_value v.value) (no_places Unsupported places (nil_parts unsupported unknown q.0).0) in
    (nil_parts (bad_variable_type v.value_type) (seventh_ranges v.annotations) t.0).0

-- the places of the output annotations of an array
abbrev pub misplaced : ArrayItem → List ℕ
misplaced a = in_order (output_var_places a.annotations) (cond a.variable (malformed_output_array a.annotations) (output_array_places a.annotations))

pub record ArrayKeeps (env : Environment) (a : ArrayItem) : Type 0 where
  pub seven : seventh_ranges a.annotations ≡ []
  pub placed : misplaced a ≡ []
  pub typed : wrong_element env a.variable a.value_type a.list ≡ []
  pub whole : wrong_shape a ≡ []

pub array_keeps : (env : Environment) (a : ArrayItem) → item_faults env (Array a) ≡ [] → ArrayKeeps env a
array_keeps env a e =
    let bad = bad_element_type a.variable a.value_type in
    let seven = seventh_ranges a.annotations in
    let places = bad ++ seven ++ flat_map floats_in a.list.elements in
    let elements = wrong_element env a.variable a.value_type a.list in
    let unsupported = at_places Unsupported places in
    let unknown = at_places UnknownName (flat_map (unknown_in env) a.list.elements) in
    let wrong = at_places WrongType (misplaced a ++ elements) in
    let long = at_places WrongLengths (wrong_index_set a ++ wrong_shape a) in
    let p = nil_parts (unsupported ++ unknown ++ wrong ++ long) (at_places DeclaredTwice (declared_already env a.name)) e in
    let q = nil_parts (unsupported ++ unknown ++ wrong) long p.0 in
    let r = nil_parts (unsupported ++ unknown) wrong q.0 in
    let t = nil_parts (bad ++ seven) (flat_map floats_in a.list.elements) (no_places Unsupported places (nil_parts unsupported unknown r.0).0) in
    let types = nil_parts (misplaced a) elements (no_places WrongType (misplaced a ++ elements) r.1) in
    record {
      seven = (nil_parts bad seven t.0).1;
      placed = types.0;
      typed = types.1;
      whole = (nil_parts (wrong_index_set a) (wrong_shape a) (no_places WrongLengths (wrong_index_set a ++ wrong_shape a) q.1)).1;
    }

lists_placed : (xs ys zs : List ℕ) (b : Bool) → in_order xs (cond b ys zs) ≡ [] → b ≡ false → zs ≡ []
lists_placed [] ys zs true e f = cc
lists_placed (x ∷ xs) ys zs true e f = cc
lists_placed [] ys [] false e f = refl
lists_placed [] ys (z ∷ zs) false e f = cc
lists_placed (x ∷ xs) ys [] false e f = refl
lists_placed (x ∷ xs) ys (z ∷ zs) false e f = none (nat_lt z x) e
  where
    none : (c : Bool) → cond c (z ∷ x ∷ []) (x ∷ z ∷ []) ≡ [] → z ∷ zs ≡ []
    none true i = cc
    none false i = cc

-- an array of no variables has no annotation `output_array`
pub array_placed : (a : ArrayItem) → misplaced a ≡ [] → a.variable ≡ false → output_array_places a.annotations ≡ []
array_placed a e f = lists_placed (output_var_places a.annotations) (malformed_output_array a.annotations) (output_array_places a.annotations) a.variable e f
