-- What an item makes fits the variables of the model.
use Rattle.std.proofs.Common.{◌≡◌, ℕ, zero, suc, ◌≤◌, ℤ, Bool, true, false, cond, Option, Some, None, List, [], ◌∷◌, ◌++◌, length, map, refl, sym, ap, ◌∙◌, subst, arith, rules}
use Rattle.std.specs.Prelude.{Result, Ok, Err, MatchOption, ◌==◌, bytes_eq, slice_get, flat_map}
use Rattle.std.specs.List.{AllByRecursion}
use Rattle.std.proofs.lemmas.Int.{ints}
use Rattle.std.proofs.lemmas.Bool.{eqb-true}
use Rattle.fz_spec.specs.declared.limits.TheConstants.{ELEMENT_LIMIT}
use Rattle.fz_spec.specs.declared.kind.Kind.{Kind}
use Rattle.fz_spec.specs.declared.kind.Kind.TheVariants as kinds
use Rattle.fz_spec.specs.declared.term.Term.{Term}
use Rattle.fz_spec.specs.declared.term.Term.TheVariants.{Var}
use Rattle.fz_spec.specs.declared.asked.Asked.{Asked}
use Rattle.fz_spec.specs.declared.asked.Element.{Element}
use Rattle.fz_spec.specs.Constraints as meaning
use Rattle.fz_spec.specs.Instance.{Variable, Output, element_count}
use Rattle.fz_spec.specs.Signatures.{Row, row_named, row_of, signature_of}
use Rattle.fz_language.specs.declared.fault.RuleFault.TheVariants.{Unsupported, UnknownName, WrongType, WrongLengths}
use Rattle.fz_language.specs.Trees.{AnyBool, AnyInt, AnyFloat, Within, ValueType, One, SetOf, Basic, ListLiteral, Annotation, VariableItem, ArrayItem, ConstraintItem}
use Rattle.fz_language.specs.Trees as trees
use Rattle.fz_language.specs.Numerals.{set_in, all_of}
use Rattle.fz_language.specs.Entries.{Environment, Entry, with_entry, term_in, set_of, each_of, number_of}
use Rattle.fz_language.specs.Entries as entries
use Rattle.fz_language.specs.Annotations.{OUTPUT_ARRAY, asks_whole, output_var_of, output_array_of, list_of, arguments_of, shape_in, bracketed, range_of, place_of, seventh}
use Rattle.fz_language.specs.Rules.{number_asked, kind_of, term_asked, is_bound, bad_variable_type, type_additions, at_places, named_unsupported, floats_of, unknown_of, wrong_arguments, arguments_in, signature_faults, row_faults, call_faults, wrong_place, wrong_element, seventh_ranges, wrong_shape, output_array_places}
use Rattle.fz_language.specs.Models.{type_set, plain_set, terms_of, parameter_entry, array_entry, declare, Scope, equal_to, value_term, equal_to_value, bound_to, element_constraints, call_constraints, scalar_outputs, array_outputs}
use Rattle.fz_language.specs.Within.{SetFits, ValueFits, TypeFits, BasicFits, ExpressionFits, NameFits, ArgumentFits, ArgumentsFit, CalledFits, AnnotationFits, ArrayFits}
use Rattle.fz_model.specs.Kept.{IsSet, IsVariable, IsTermOf, FitsElement, IsConstraint, FitsRow, AllFit, IsIndexRange, IsOutput, kind_at}
use Rattle.fz_check.proofs.Mapped.{mapped}
use Rattle.fz_check.specs.Fits.{EntryFits, Sound}
use Rattle.fz_check.proofs.TermFits.{term_fits, terms_fit, are_terms, is_number, are_numbers}
use Rattle.fz_check.proofs.SetFits.{literal_fits, set_fits, members_among}
use Rattle.fz_check.proofs.Counting.{nil_parts, no_place, elements_in, members_counted, FewIn}
use Rattle.fz_check.proofs.Keeps.{no_places}
use Rattle.fz_check.proofs.ArgumentFits.{all_fit}
use Rattle.fz_check.proofs.RowLaws.{found, row_is_of, signature_length}
use Rattle.fz_spec.specs.Constraints.{fit_lengths}
use Rattle.std.proofs.lemmas.List.{length-map}

-- ---- types

within_fits : (set : trees.SetLiteral) → SetFits set → elements_in (type_additions (One (Within set))) ≤ ELEMENT_LIMIT → IsSet (plain_set (Within set))
within_fits set h few = go (set_in set) refl
  where
    go : (o : Option (List (ℤ × ℤ))) → set_in set ≡ o → IsSet (elim o [ Some ranges ↦ ranges | None ↦ [] ])
    go (Some s) k = literal_fits set s h (omega (arith, few, members_counted set)) k
    go None k = record { ranges = tt; within = tt; few = omega arith }

-- the set of a type of variables
pub variable_fits : (t : ValueType) → TypeFits t → bad_variable_type t ≡ [] → elements_in (type_additions t) ≤ ELEMENT_LIMIT → IsVariable (record { kind = kind_of t; set = type_set t })
variable_fits (One (AnyBool at)) h b few = refl
variable_fits (One (AnyInt at)) h b few = record { ranges = search (rules, ints); within = search (rules, ints); few = omega arith }
variable_fits (One (AnyFloat at)) h b few = cc
variable_fits (One (Within set)) h b few = within_fits set h few
variable_fits (SetOf at plain) h b few = cc

-- ---- entries

pub entered : (vs : List Variable) (env : Environment) (name : List ℕ) (entry : Entry) → Sound vs env → EntryFits vs entry → Sound vs (with_entry name entry env)
entered vs env name entry s h other found e = go (bytes_eq name other) e
  where
    go : (b : Bool) → cond b (Some entry) (env other) ≡ Some found → EntryFits vs found
    go true k = let is : entry ≡ found = cc in subst (EntryFits vs) is h
    go false k = s other found k

pub parameter_fits : (vs : List Variable) (env : Environment) (name : List ℕ) (t : ValueType) (b : Basic) → Sound vs env → BasicFits b → members_among b ≤ ELEMENT_LIMIT → Sound vs (declare name (parameter_entry env t b) env)
parameter_fits vs env name (One plain) b s h few = go (term_in env (number_asked (One plain)) b) refl
  where
    go : (o : Option Term) → term_in env (number_asked (One plain)) b ≡ o
        → Sound vs (declare name (elim o [ Some t ↦ Some (entries.Value (kind_of (One plain)) (number_of t)) | None ↦ None ]) env)
    go None k = s
    go (Some t) k =
        entered vs env name (entries.Value (kind_of (One plain)) (number_of t)) s
        (is_number vs (kind_of (One plain)) t (term_fits vs env (number_asked (One plain)) b t s h k))
parameter_fits vs env name (SetOf at plain) b s h few = go (set_of env b) refl
  where
    go : (o : Option (List (ℤ × ℤ))) → set_of env b ≡ o → Sound vs (declare name (elim o [ Some set ↦ Some (entries.Set set) | None ↦ None ]) env)
    go None k = s
    go (Some set) k = entered vs env name (entries.Set set) s (set_fits vs env b set s h few k)

-- the terms of a list, or none
pub record Listing (vs : List Variable) (kind : Kind) (may_vary : Bool) (list : ListLiteral) (ts : List Term) : Type 0 where
  pub all : AllByRecursion (FitsElement vs (record { kind = kind; may_vary = may_vary })) ts
  pub count : length ts ≤ length list.elements

pub listing : (vs : List Variable) (env : Environment) (kind : Kind) (may_vary : Bool) (list : ListLiteral) → Sound vs env → AllByRecursion BasicFits list.elements → Listing vs kind may_vary list (terms_of env (record { kind = kind; may_vary = may_vary }) list)
listing vs env kind may_vary list s h = go (each_of (term_in env (record { kind = kind; may_vary = may_vary })) list.elements) refl
  where
    go : (r : Result (List Term) ℕ) → each_of (term_in env (record { kind = kind; may_vary = may_vary })) list.elements ≡ r → Listing vs kind may_vary list (elim r [ Ok terms ↦ terms | Err at ↦ [] ])
    go (Ok ts) k = let t = terms_fit vs env (record { kind = kind; may_vary = may_vary }) list.elements ts s h k in record { all = t.all; count = omega (arith, t.count) }
    go (Err at) k = record { all = tt; count = omega arith }

array_fits : (vs : List Variable) (env : Environment) (a : ArrayItem) (variable : Bool) (t : ValueType) → Sound vs env → AllByRecursion BasicFits a.list.elements → length a.list.elements ≤ ELEMENT_LIMIT → EntryFits vs (array_entry env a variable t)
array_fits vs env a true t s h few =
    let l = listing vs env (kind_of t) true a.list s h in
    (omega (arith, few, l.count), are_terms vs (kind_of t) true (terms_of env (term_asked t) a.list) l.all)
array_fits vs env a false (One plain) s h few =
    let ts = terms_of env (number_asked (One plain)) a.list in
    let l = listing vs env (kind_of (One plain)) false a.list s h in
    (omega (arith, few, l.count, length-map ts number_of), are_numbers vs (kind_of (One plain)) ts l.all)
array_fits vs env a false (SetOf at plain) s h few = tt

pub array_entered : (vs : List Variable) (env : Environment) (a : ArrayItem) → Sound vs env → AllByRecursion BasicFits a.list.elements → length a.list.elements ≤ ELEMENT_LIMIT → Sound vs (with_entry a.name.bytes (array_entry env a a.variable a.value_type) env)
array_entered vs env a s h few = entered vs env a.name.bytes (array_entry env a a.variable a.value_type) s (array_fits vs env a a.variable a.value_type s h few)

-- ---- constraints of declarations

equal_fits : (vs : List Variable) (kind : Kind) (n : ℕ) (t : Term) → kind_at vs n ≡ Some kind → FitsElement vs (record { kind = kind; may_vary = true }) t → IsConstraint vs (equal_to kind (Var n) t)
equal_fits vs kinds.Bool n t k h = record { fit = ((refl, k), (h, tt)); lengths = refl }
equal_fits vs kinds.Int n t k h = record { fit = ((refl, k), (h, tt)); lengths = refl }

pub value_fits : (vs : List Variable) (s : Scope) (v : VariableItem) (value : Option Basic) → Sound vs s.entries → kind_at vs s.variables ≡ Some (kind_of v.value_type) → ValueFits value → AllByRecursion (IsConstraint vs) (equal_to_value (kind_of v.value_type) s.variables (value_term s.entries v.value_type value))
value_fits vs s v None sound k h = tt
value_fits vs s v (Some b) sound k h = go (term_in s.entries (term_asked v.value_type) b) refl
  where
    go : (o : Option Term) → term_in s.entries (term_asked v.value_type) b ≡ o → AllByRecursion (IsConstraint vs) (equal_to_value (kind_of v.value_type) s.variables o)
    go None e = tt
    go (Some t) e = (equal_fits vs (kind_of v.value_type) s.variables t k (term_fits vs s.entries (term_asked v.value_type) b t sound h e), tt)

bound_fits : (vs : List Variable) (set : List (ℤ × ℤ)) (t : Term) → IsSet set → FitsElement vs (record { kind = kinds.Int; may_vary = true }) t → IsConstraint vs (bound_to set t)
bound_fits vs set t s h = record { fit = (h, (s, tt)); lengths = refl }

bounds_fit : (vs : List Variable) (set : List (ℤ × ℤ)) (ts : List Term) → IsSet set → AllByRecursion (FitsElement vs (record { kind = kinds.Int; may_vary = true })) ts → AllByRecursion (IsConstraint vs) (map (bound_to set) ts)
bounds_fit vs set [] s h = tt
bounds_fit vs set (t ∷ ts) s h = (bound_fits vs set t s h.0, bounds_fit vs set ts s h.1)

abbrev when_bound : Scope → ArrayItem → ValueType → Bool → List meaning.Constraint
when_bound s a t bound = cond bound (map (bound_to (type_set t)) (terms_of s.entries (term_asked t) a.list)) []

bound_elements : (vs : List Variable) (s : Scope) (a : ArrayItem) (t : ValueType) → Sound vs s.entries → TypeFits t → elements_in (type_additions t) ≤ ELEMENT_LIMIT → AllByRecursion BasicFits a.list.elements → AllByRecursion (IsConstraint vs) (when_bound s a t (is_bound t))
bound_elements vs s a (One (Within set)) sound h few l =
    bounds_fit vs (plain_set (Within set)) (terms_of s.entries (term_asked (One (Within set))) a.list) (within_fits set h few) (listing vs s.entries kinds.Int true a.list sound l).all
bound_elements vs s a (One (AnyBool at)) sound h few l = tt
bound_elements vs s a (One (AnyInt at)) sound h few l = tt
bound_elements vs s a (One (AnyFloat at)) sound h few l = tt
bound_elements vs s a (SetOf at plain) sound h few l = tt

pub elements_fit : (vs : List Variable) (s : Scope) (a : ArrayItem) → Sound vs s.entries → TypeFits a.value_type → elements_in (type_additions a.value_type) ≤ ELEMENT_LIMIT → AllByRecursion BasicFits a.list.elements → AllByRecursion (IsConstraint vs) (element_constraints s a)
elements_fit vs s a sound h few l = go a.variable
  where
    go : (b : Bool) → AllByRecursion (IsConstraint vs) (cond b (when_bound s a a.value_type (is_bound a.value_type)) [])
    go true = bound_elements vs s a a.value_type sound h few l
    go false = tt

-- ---- calls

constraint_of_row : (vs : List Variable) (env : Environment) (c : ConstraintItem) (row : Row) (signature : List Asked) → Sound vs env → AllByRecursion ExpressionFits c.arguments → AllByRecursion FewIn c.arguments
    → row_of row.builtin ≡ Some row → signature_of row (length c.arguments) ≡ Some signature → signature_faults env c row (Some signature) ≡ []
    → IsConstraint vs (record { name = row.builtin; arguments = arguments_in env signature c.arguments; whole = asks_whole c.annotations })
constraint_of_row vs env c row signature s h few r k e =
    let unknown = at_places UnknownName (flat_map (unknown_of env) c.arguments) in
    let wrong = at_places WrongType (wrong_arguments env signature c.arguments) in
    let right = fit_lengths row.lengths (arguments_in env signature c.arguments) in
    let lengths = at_places WrongLengths (cond right [] (c.name.at ∷ [])) in
    let p = nil_parts (unknown ++ wrong) lengths e in
    let q = nil_parts unknown wrong p.0 in
    let typed = no_places WrongType (wrong_arguments env signature c.arguments) q.1 in
    let long = no_place right c.name.at (no_places WrongLengths (cond right [] (c.name.at ∷ [])) p.1) in
    let f = all_fit vs env signature c.arguments s (signature_length row (length c.arguments) signature k) h few typed in
    let arguments = arguments_in env signature c.arguments in
    subst (λ (o : Option Row). MatchOption o ⊥ (λ (found : Row). FitsRow vs found arguments)) (sym r)
    (record {
      fit = subst (λ (o : Option (List Asked)). MatchOption o ⊥ (λ asked. AllFit vs asked arguments)) (sym (ap (signature_of row) f.count ∙ k)) f.fit;
      lengths = long;
    })

pub call_fits : (vs : List Variable) (s : Scope) (c : ConstraintItem) → Sound vs s.entries → AllByRecursion ExpressionFits c.arguments → AllByRecursion FewIn c.arguments → call_faults s.entries c ≡ [] → AllByRecursion (IsConstraint vs) (call_constraints s c)
call_fits vs s c sound h few e = named (row_named c.name.bytes) refl (nil_parts (at_places Unsupported (named_unsupported c.name ++ flat_map floats_of c.arguments)) (row_faults s.entries c (row_named c.name.bytes)) e).1
  where
    called : (row : Row) → row_named c.name.bytes ≡ Some row → (o : Option (List Asked)) → signature_of row (length c.arguments) ≡ o → signature_faults s.entries c row o ≡ []
        → AllByRecursion (IsConstraint vs) (elim o [ Some signature ↦ record { name = row.builtin; arguments = arguments_in s.entries signature c.arguments; whole = asks_whole c.annotations } ∷ [] | None ↦ [] ])
    called row r None k f = tt
    called row r (Some signature) k f = (constraint_of_row vs s.entries c row signature sound h few (row_is_of c.name.bytes row r) k f, tt)

    named : (o : Option Row) → row_named c.name.bytes ≡ o → row_faults s.entries c o ≡ []
        → AllByRecursion (IsConstraint vs)
        (elim o [
          | Some row ↦ elim (signature_of row (length c.arguments)) [ Some signature ↦ record { name = row.builtin; arguments = arguments_in s.entries signature c.arguments; whole = asks_whole c.annotations } ∷ [] | None ↦ [] ]
          | None ↦ []
        ])
    named None r f = tt
    named (Some row) r f = called row r (signature_of row (length c.arguments)) refl f

-- ---- output items

pub scalar_shown : (vs : List Variable) (s : Scope) (v : VariableItem) → NameFits v.name → kind_at vs s.variables ≡ Some (kind_of v.value_type) → AllByRecursion (IsOutput vs) (scalar_outputs s v)
scalar_shown vs s v named k = go (output_var_of v.annotations)
  where
    go : (o : Option Annotation) → AllByRecursion (IsOutput vs) (elim o [ Some a ↦ record { name = v.name.bytes; kind = kind_of v.value_type; array = false; shape = []; terms = Var s.variables ∷ [] } ∷ [] | None ↦ [] ])
    go None = tt
    go (Some a) = (record { name = named; few = omega arith; terms = (k, tt); shape = (refl, refl) }, tt)

-- ---- index ranges

record Ranged (list : List trees.Argument) (shape : List (ℤ × ℤ)) : Type 0 where
  count : length shape ≡ length list
  within : AllByRecursion IsIndexRange shape
  each : (k : ℕ) (a : trees.Argument) → slice_get list k ≡ Some a → (r : ℤ × ℤ) × (range_of a ≡ Some r)

each_behind : (a : trees.Argument) (list : List trees.Argument) (r : ℤ × ℤ) → range_of a ≡ Some r → ((k : ℕ) (b : trees.Argument) → slice_get list k ≡ Some b → (q : ℤ × ℤ) × (range_of b ≡ Some q)) → (k : ℕ) (b : trees.Argument)
    → slice_get (a ∷ list) k ≡ Some b → (q : ℤ × ℤ) × (range_of b ≡ Some q)
each_behind a list r k f zero b i = let is : a ≡ b = cc in (r, ap range_of (sym is) ∙ k)
each_behind a list r k f (suc n) b i = f n b i

range_fits : (a : trees.Argument) (r : ℤ × ℤ) → ArgumentFits a → range_of a ≡ Some r → IsIndexRange r
range_fits (trees.Simple (trees.Literal (trees.Range (trees.Whole low) (trees.Whole high)))) r h e = let is : (low.value, high.value) ≡ r = cc in subst IsIndexRange is h
range_fits (trees.Simple (trees.Literal (trees.Range (trees.Whole low) (trees.Float at)))) r h e = cc
range_fits (trees.Simple (trees.Literal (trees.Range (trees.Float at) high))) r h e = cc
range_fits (trees.Simple (trees.Literal (trees.Braces at members))) r h e = cc
range_fits (trees.Simple (trees.Truth value at)) r h e = cc
range_fits (trees.Simple (trees.Numeral number)) r h e = cc
range_fits (trees.Simple (trees.Named name)) r h e = cc
range_fits (trees.Text at) r h e = cc
range_fits (trees.Call name arguments) r h e = cc
range_fits (trees.Brackets at arguments) r h e = cc

ranged : (list : List trees.Argument) (shape : List (ℤ × ℤ)) → AllByRecursion ArgumentFits list → all_of (map range_of list) ≡ Some shape → Ranged list shape
ranged [] shape fit e = let is : [] ≡ shape = cc in record { count = ap length (sym is); within = subst (λ (rs : List (ℤ × ℤ)). AllByRecursion IsIndexRange rs) is tt; each = λ k a h. cc }
ranged (a ∷ list) shape fit e = go (λ ys k. ranged list ys fit.1 k) (range_of a) refl e
  where
    go : ((ys : List (ℤ × ℤ)) → all_of (map range_of list) ≡ Some ys → Ranged list ys) → (o : Option (ℤ × ℤ)) → range_of a ≡ o → all_of (o ∷ map range_of list) ≡ Some shape → Ranged (a ∷ list) shape
    go f None k h = cc
    go f (Some r) k h =
        let w = mapped (λ ys. r ∷ ys) (all_of (map range_of list)) shape h in
        let rest = f w.x w.o_is in
        record {
          count = ap length (sym w.is) ∙ ap (λ n. suc n) rest.count;
          within = subst (λ (rs : List (ℤ × ℤ)). AllByRecursion IsIndexRange rs) w.is (range_fits a r fit.0 k, rest.within);
          each = each_behind a list r k rest.each;
        }

past : {X : Type 0} (xs : List X) (n : ℕ) → slice_get xs n ≡ None → length xs ≤ n
past [] n e = omega arith
past (x ∷ xs) zero e = cc
past (x ∷ xs) (suc n) e = omega (arith, past xs n e)

at_most_six : (list : List trees.Argument) (shape : List (ℤ × ℤ)) → Ranged list shape
    → ◌≡◌ {A = List ℕ} (elim (slice_get list 6) [ Some argument ↦ elim (range_of argument) [ Some r ↦ place_of argument ∷ [] | None ↦ [] ] | None ↦ [] ]) [] → length shape ≤ 6
at_most_six list shape r e = go (slice_get list 6) refl e
  where
    none : (a : trees.Argument) (o : Option (ℤ × ℤ)) (q : ℤ × ℤ) → o ≡ Some q → ◌≡◌ {A = List ℕ} (elim o [ Some r ↦ place_of a ∷ [] | None ↦ [] ]) [] → ⊥
    none a (Some p) q i h = cc
    none a None q i h = cc

    go : (o : Option trees.Argument) → slice_get list 6 ≡ o → ◌≡◌ {A = List ℕ} (elim o [ Some argument ↦ elim (range_of argument) [ Some r ↦ place_of argument ∷ [] | None ↦ [] ] | None ↦ [] ]) [] → length shape ≤ 6
    go None k h = omega (arith, past list 6 k, r.count)
    go (Some a) k h = let q = r.each 6 a k in absurd (none a (range_of a) q.0 q.1 h)

record Shaped (shape : List (ℤ × ℤ)) : Type 0 where
  some : 1 ≤ length shape
  few : length shape ≤ 6
  within : AllByRecursion IsIndexRange shape

shaped_of : (list : List trees.Argument) (shape : List (ℤ × ℤ)) → AllByRecursion ArgumentFits list → ◌≡◌ {A = Option (List (ℤ × ℤ))} (elim list [ [] ↦ None | argument ∷ others ↦ all_of (map range_of (argument ∷ others)) ]) (Some shape)
    → ◌≡◌ {A = List ℕ} (elim (slice_get list 6) [ Some argument ↦ elim (range_of argument) [ Some r ↦ place_of argument ∷ [] | None ↦ [] ] | None ↦ [] ]) [] → Shaped shape
shaped_of [] shape fit e h = cc
shaped_of (a ∷ list) shape fit e h = let r = ranged (a ∷ list) shape fit e in record { some = omega (arith, r.count); few = at_most_six (a ∷ list) shape r h; within = r.within }

all_arguments : (args : trees.Arguments) → ArgumentsFit args → AllByRecursion ArgumentFits (list_of args)
all_arguments trees.Nil h = tt
all_arguments (trees.More a others) h = (h.0, all_arguments others h.1)

brackets_fit : (args : List trees.Argument) → AllByRecursion ArgumentFits args → AllByRecursion ArgumentFits (bracketed args)
brackets_fit (trees.Brackets at arguments ∷ []) h = all_arguments arguments h.0
brackets_fit [] h = tt
brackets_fit (trees.Simple basic ∷ args) h = tt
brackets_fit (trees.Text at ∷ args) h = tt
brackets_fit (trees.Call name arguments ∷ args) h = tt
brackets_fit (trees.Brackets at arguments ∷ next ∷ args) h = tt

called_fit : (called : Option trees.Arguments) → CalledFits called → AllByRecursion ArgumentFits (elim called [ Some arguments ↦ list_of arguments | None ↦ [] ])
called_fit None h = tt
called_fit (Some arguments) h = all_arguments arguments h

shaped : (a : Annotation) (shape : List (ℤ × ℤ)) → AnnotationFits a → shape_in a ≡ Some shape → seventh a ≡ [] → Shaped shape
shaped a shape fit e h = shaped_of (bracketed (arguments_of a)) shape (brackets_fit (arguments_of a) (called_fit a.arguments fit)) e h

-- ---- arrays that are printed

abbrev shown_as : Scope → ArrayItem → List (ℤ × ℤ) → Output
shown_as s a shape = record { name = a.name.bytes; kind = kind_of a.value_type; array = true; shape = shape; terms = terms_of s.entries (term_asked a.value_type) a.list }

-- the terms of a list that is of the right types are as many as its elements
all_resolved : (env : Environment) (e : Element) (bs : List Basic) → wrong_place (each_of (term_in env e) bs) ≡ [] → (ts : List Term) × (each_of (term_in env e) bs ≡ Ok ts)
all_resolved env e bs h = go (each_of (term_in env e) bs) refl h
  where
    go : (r : Result (List Term) ℕ) → each_of (term_in env e) bs ≡ r → wrong_place r ≡ [] → (ts : List Term) × (each_of (term_in env e) bs ≡ Ok ts)
    go (Ok ts) k i = (ts, k)
    go (Err at) k i = cc

array_shown_of : (vs : List Variable) (s : Scope) (a : ArrayItem) (shape : List (ℤ × ℤ)) → Sound vs s.entries → NameFits a.name → AllByRecursion BasicFits a.list.elements → length a.list.elements ≤ ELEMENT_LIMIT → Shaped shape
    → element_count shape ≡ length a.list.elements → wrong_place (each_of (term_in s.entries (term_asked a.value_type)) a.list.elements) ≡ [] → IsOutput vs (shown_as s a shape)
array_shown_of vs s a shape sound named h few f count typed =
    let r = all_resolved s.entries (term_asked a.value_type) a.list.elements typed in
    let t = terms_fit vs s.entries (term_asked a.value_type) a.list.elements r.0 sound h r.1 in
    let is : terms_of s.entries (term_asked a.value_type) a.list ≡ r.0 = ap (λ (x : Result (List Term) ℕ). elim x [ Ok terms ↦ terms | Err at ↦ [] ]) r.1 in
    record {
      name = named;
      few = omega (arith, few, t.count, ap length is);
      terms = subst (λ (ts : List Term). AllByRecursion (IsTermOf vs (kind_of a.value_type)) ts) (sym is) (are_terms vs (kind_of a.value_type) true r.0 t.all);
      shape = record { some = f.some; few = f.few; within = f.within; whole = count ∙ sym t.count ∙ sym (ap length is) };
    }

abbrev shape_from : Option Annotation → Option (List (ℤ × ℤ))
shape_from o = elim o [ Some ann ↦ shape_in ann | None ↦ None ]

pub array_shown : (vs : List Variable) (s : Scope) (a : ArrayItem) → Sound vs s.entries → ArrayFits a → length a.list.elements ≤ ELEMENT_LIMIT → seventh_ranges a.annotations ≡ []
    → wrong_element s.entries a.variable a.value_type a.list ≡ [] → (a.variable ≡ false → output_array_places a.annotations ≡ []) → wrong_shape a ≡ [] → AllByRecursion (IsOutput vs) (array_outputs s a)
array_shown vs s a sound h few seven typed placed whole = go (output_array_of a.annotations) refl seven placed whole
  where
    is_variable : (b : Bool) → a.variable ≡ b → (at : ℕ) → (a.variable ≡ false → at ∷ [] ≡ []) → wrong_element s.entries a.variable a.value_type a.list ≡ []
        → wrong_place (each_of (term_in s.entries (term_asked a.value_type)) a.list.elements) ≡ []
    is_variable true e at p t = subst (λ (b : Bool). wrong_element s.entries b a.value_type a.list ≡ []) e t
    is_variable false e at p t = let no = p e in cc

    fitting : (ann : Annotation) → output_array_of a.annotations ≡ Some ann → AnnotationFits ann
    fitting ann e = found (λ (b : Annotation). bytes_eq OUTPUT_ARRAY b.name.bytes) AnnotationFits a.annotations ann h.5 e

    shown : (ann : Annotation) → AnnotationFits ann → (o : Option (List (ℤ × ℤ))) → shape_in ann ≡ o → seventh ann ≡ [] → (a.variable ≡ false → ann.name.at ∷ [] ≡ [])
        → ◌≡◌ {A = List ℕ} (elim o [ Some shape ↦ cond (element_count shape == length a.list.elements) [] (ann.name.at ∷ []) | None ↦ [] ]) []
        → AllByRecursion (IsOutput vs) (elim o [ Some shape ↦ shown_as s a shape ∷ [] | None ↦ [] ])
    shown ann fit None k n p w = tt
    shown ann fit (Some shape) k n p w = (
      array_shown_of vs s a shape sound h.4 h.3 few (shaped ann shape fit k n) (eqb-true (element_count shape) (length a.list.elements) (no_place (element_count shape == length a.list.elements) ann.name.at w))
          (is_variable a.variable refl ann.name.at p typed),
      tt,
    )

    go : (o : Option Annotation) → output_array_of a.annotations ≡ o → ◌≡◌ {A = List ℕ} (elim o [ Some ann ↦ seventh ann | None ↦ [] ]) [] → (a.variable ≡ false → ◌≡◌ {A = List ℕ} (elim o [ Some ann ↦ ann.name.at ∷ [] | None ↦ [] ]) [])
        → ◌≡◌ {A = List ℕ} (elim (shape_from o) [
          | Some shape ↦ cond (element_count shape == length a.list.elements) [] (elim o [ Some ann ↦ ann.name.at ∷ [] | None ↦ [] ])
          | None ↦ []
        ]) []
        → AllByRecursion (IsOutput vs) (elim (shape_from o) [ Some shape ↦ shown_as s a shape ∷ [] | None ↦ [] ])
    go None e n p w = tt
    go (Some ann) e n p w = shown ann (fitting ann e) (shape_in ann) refl n p w
