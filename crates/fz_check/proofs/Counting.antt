-- How much items add, where nothing is over a limit.
use Rattle.std.proofs.Common.{◌≡◌, ℕ, ◌+◌, ◌-◌, suc, ◌≤◌, Bool, true, false, cond, List, [], ◌∷◌, ◌++◌, length, refl, ap, arith}
use Rattle.std.specs.Prelude.{nat_lt, flat_map}
use Rattle.std.specs.List.{AllByRecursion}
use Rattle.std.proofs.lemmas.Bool.{ltb-true}
use Rattle.fz_spec.specs.declared.limits.TheConstants.{VARIABLE_LIMIT, CONSTRAINT_LIMIT, ELEMENT_LIMIT}
use Rattle.fz_language.specs.Trees.{Number, SetLiteral, Range, Braces, Basic, Truth, Numeral, Literal, Named, Expression, Scalar, Listed, number_at}
use Rattle.fz_language.specs.Rules.{Addition, AVariable, AConstraint, AnElement, Counts, counted, all_counted, is_over, over, members_of, members_in, element_additions, expression_additions, array_element_additions}
use Rattle.fz_check.proofs.SetFits.{member_count, members_among}

pub nil_parts : {X : Type 0} (xs ys : List X) → xs ++ ys ≡ [] → (xs ≡ []) × (ys ≡ [])
nil_parts [] ys e = (refl, e)
nil_parts (x ∷ xs) ys e = cc

abbrev pub variables_in : List Addition → ℕ
variables_in [] = 0
variables_in (AVariable at ∷ more) = suc (variables_in more)
variables_in (AConstraint at ∷ more) = variables_in more
variables_in (AnElement at ∷ more) = variables_in more

abbrev pub constraints_in : List Addition → ℕ
constraints_in [] = 0
constraints_in (AVariable at ∷ more) = constraints_in more
constraints_in (AConstraint at ∷ more) = suc (constraints_in more)
constraints_in (AnElement at ∷ more) = constraints_in more

abbrev pub elements_in : List Addition → ℕ
elements_in [] = 0
elements_in (AVariable at ∷ more) = elements_in more
elements_in (AConstraint at ∷ more) = elements_in more
elements_in (AnElement at ∷ more) = suc (elements_in more)

-- so much is added, and no more than is left
pub record Few (n : Counts) (adds : List Addition) : Type 0 where
  pub variables : variables_in adds ≤ VARIABLE_LIMIT - n.variables
  pub constraints : constraints_in adds ≤ CONSTRAINT_LIMIT - n.constraints
  pub elements : elements_in adds ≤ ELEMENT_LIMIT - n.elements
  pub variables_are : (all_counted n adds).variables ≡ n.variables + variables_in adds
  pub constraints_are : (all_counted n adds).constraints ≡ n.constraints + constraints_in adds

-- a test that has no place holds
pub no_place : (b : Bool) (at : ℕ) → cond b [] (at ∷ []) ≡ [] → b ≡ true
no_place true at e = refl
no_place false at e = cc

pub few : (n : Counts) (adds : List Addition) → over n adds ≡ [] → Few n adds
few n [] e = record { variables = omega arith; constraints = omega arith; elements = omega arith; variables_are = omega arith; constraints_are = omega arith }
few n (AVariable at ∷ more) e =
    let p = nil_parts (is_over n (AVariable at)) (over (counted n (AVariable at)) more) e in
    let l = ltb-true n.variables VARIABLE_LIMIT (no_place (nat_lt n.variables VARIABLE_LIMIT) at p.0) in
    let rest = few (counted n (AVariable at)) more p.1 in
    record { variables = omega (arith, l, rest.variables); constraints = rest.constraints; elements = rest.elements; variables_are = omega (arith, rest.variables_are); constraints_are = rest.constraints_are }
few n (AConstraint at ∷ more) e =
    let p = nil_parts (is_over n (AConstraint at)) (over (counted n (AConstraint at)) more) e in
    let l = ltb-true n.constraints CONSTRAINT_LIMIT (no_place (nat_lt n.constraints CONSTRAINT_LIMIT) at p.0) in
    let rest = few (counted n (AConstraint at)) more p.1 in
    record { variables = rest.variables; constraints = omega (arith, l, rest.constraints); elements = rest.elements; variables_are = rest.variables_are; constraints_are = omega (arith, rest.constraints_are) }
few n (AnElement at ∷ more) e =
    let p = nil_parts (is_over n (AnElement at)) (over (counted n (AnElement at)) more) e in
    let l = ltb-true n.elements ELEMENT_LIMIT (no_place (nat_lt n.elements ELEMENT_LIMIT) at p.0) in
    let rest = few (counted n (AnElement at)) more p.1 in
    record { variables = rest.variables; constraints = rest.constraints; elements = omega (arith, l, rest.elements); variables_are = rest.variables_are; constraints_are = rest.constraints_are }

-- ---- of two lists

pub elements_both : (xs ys : List Addition) → elements_in (xs ++ ys) ≡ elements_in xs + elements_in ys
elements_both [] ys = omega arith
elements_both (AVariable at ∷ xs) ys = elements_both xs ys
elements_both (AConstraint at ∷ xs) ys = elements_both xs ys
elements_both (AnElement at ∷ xs) ys = omega (arith, elements_both xs ys)

pub constraints_both : (xs ys : List Addition) → constraints_in (xs ++ ys) ≡ constraints_in xs + constraints_in ys
constraints_both [] ys = omega arith
constraints_both (AVariable at ∷ xs) ys = constraints_both xs ys
constraints_both (AConstraint at ∷ xs) ys = omega (arith, constraints_both xs ys)
constraints_both (AnElement at ∷ xs) ys = constraints_both xs ys

pub variables_both : (xs ys : List Addition) → variables_in (xs ++ ys) ≡ variables_in xs + variables_in ys
variables_both [] ys = omega arith
variables_both (AVariable at ∷ xs) ys = omega (arith, variables_both xs ys)
variables_both (AConstraint at ∷ xs) ys = variables_both xs ys
variables_both (AnElement at ∷ xs) ys = variables_both xs ys

-- ---- of sets and lists

member_additions : (ms : List Number) → elements_in (flat_map (λ m. AnElement (number_at m) ∷ []) ms) ≡ length ms
member_additions [] = refl
member_additions (m ∷ ms) = ap (λ n. suc n) (member_additions ms)

pub members_counted : (set : SetLiteral) → elements_in (members_of set) ≡ member_count set
members_counted (Range low high) = refl
members_counted (Braces at members) = member_additions members

pub among_counted : (b : Basic) → elements_in (members_in b) ≡ members_among b
among_counted (Literal set) = members_counted set
among_counted (Truth value at) = refl
among_counted (Numeral number) = refl
among_counted (Named name) = refl

pub elements_counted : (bs : List Basic) → length bs ≤ elements_in (flat_map element_additions bs)
elements_counted [] = omega arith
elements_counted (b ∷ bs) = omega (arith, elements_counted bs, elements_both (element_additions b) (flat_map element_additions bs))

pub array_counted : (bound : Bool) (bs : List Basic) → length bs ≤ elements_in (flat_map (array_element_additions bound) bs)
array_counted bound [] = omega arith
array_counted true (b ∷ bs) = omega (arith, array_counted true bs, elements_both (array_element_additions true b) (flat_map (array_element_additions true) bs))
array_counted false (b ∷ bs) = omega (arith, array_counted false bs, elements_both (array_element_additions false b) (flat_map (array_element_additions false) bs))

pub bound_counted : (bs : List Basic) → length bs ≤ constraints_in (flat_map (array_element_additions true) bs)
bound_counted [] = omega arith
bound_counted (b ∷ bs) = omega (arith, bound_counted bs, constraints_both (array_element_additions true b) (flat_map (array_element_additions true) bs))

-- the elements of a list, and of a set that is an argument
abbrev pub FewIn : Expression → Type 0
FewIn (Scalar b) = members_among b ≤ ELEMENT_LIMIT
FewIn (Listed list) = length list.elements ≤ ELEMENT_LIMIT

few_in : (e : Expression) → elements_in (expression_additions e) ≤ ELEMENT_LIMIT → FewIn e
few_in (Scalar b) h = omega (arith, h, among_counted b)
few_in (Listed list) h = omega (arith, h, elements_counted list.elements)

pub arguments_few : (es : List Expression) → elements_in (flat_map expression_additions es) ≤ ELEMENT_LIMIT → AllByRecursion FewIn es
arguments_few [] h = tt
arguments_few (e ∷ es) h =
    let b = elements_both (expression_additions e) (flat_map expression_additions es) in
    (few_in e (omega (arith, h, b)), arguments_few es (omega (arith, h, b)))
