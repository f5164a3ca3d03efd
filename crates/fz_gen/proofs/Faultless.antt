-- The program of a knapsack breaks no rule.
use Rattle.std.proofs.Common.{◌≡◌, ℕ, suc, ℤ, ◌+◌, ◌<◌, ◌≤◌, Bool, true, false, cond, ◌==◌, nat_lt, Some, None, option_map, ◌&&◌, Ok, Err, List, [], ◌∷◌, ◌++◌, length, codes, map, refl, ap, ◌∙◌, arith, eq-eqb}
use Rattle.std.specs.Prelude.{flat_map}
use Rattle.std.proofs.lemmas.Bool.Decides.{Decides-ltb}
use Rattle.std.proofs.lemmas.List.{length-map}
use Rattle.fz_spec.specs.declared.term.Term.{Term}
use Rattle.fz_spec.specs.declared.asked.Asked.{Asked}
use Rattle.fz_spec.specs.declared.asked.Asked.TheVariants as asked
use Rattle.fz_spec.specs.declared.asked.Lengths.TheVariants.{Equal}
use Rattle.fz_spec.specs.Constraints.{Argument, fit_lengths}
use Rattle.fz_spec.specs.Constraints as meaning
use Rattle.fz_spec.specs.declared.limits.TheConstants.{VARIABLE_LIMIT, CONSTRAINT_LIMIT, ELEMENT_LIMIT}
use Rattle.fz_language.specs.declared.fault.RuleFault.TheVariants.{Unsupported, UnknownName, WrongType, WrongLengths, DeclaredTwice, OverLimit}
use Rattle.fz_language.specs.Trees.{Basic, basic_at, Expression, Listed, Scalar, Item, Constraint}
use Rattle.fz_language.specs.Numerals.{floats_in}
use Rattle.fz_language.specs.Entries.{Environment, term_in, each_of}
use Rattle.fz_language.specs.Entries as entries
use Rattle.fz_language.specs.Rules.{Counts, Addition, Fault, AnElement, AConstraint, unknown_in, members_in, element_additions, over, all_counted, at_places, wrong_place, wrong_arguments, arguments_in, faults_of}
use Rattle.fz_gen.proofs.Texts.{Entry, Written, Known, name_of, goal_name}
use Rattle.fz_gen.proofs.Trees.{basic, basics, choice_at, goal_at, choice_item, goal_item}
use Rattle.fz_gen.proofs.Kept.{Are, basics_are, no_floats, no_float, AllFit, FitsIn, all_known, known_one, element, resolved, one_term}

-- ---- variables

pub choice_keeps : (names : Environment) (n : Counts) (at i : ℕ) → names (name_of i) ≡ None → nat_lt n.variables VARIABLE_LIMIT ≡ true → faults_of names n (choice_item at i) ≡ []
choice_keeps names n at i new few =
    λ j. at_places DeclaredTwice (elim (new j) [ Some entry ↦ choice_at at ∷ [] | None ↦ [] ]) ++ at_places OverLimit (cond (few j) [] (choice_at at ∷ []) ++ [])

pub goal_keeps : (names : Environment) (n : Counts) (at most : ℕ) → names goal_name ≡ None → nat_lt n.variables VARIABLE_LIMIT ≡ true → faults_of names n (goal_item at most) ≡ []
goal_keeps names n at most new few =
    λ j. at_places DeclaredTwice (elim (new j) [ Some entry ↦ goal_at at most ∷ [] | None ↦ [] ]) ++ at_places OverLimit (cond (few j) [] (goal_at at most ∷ []) ++ [])

-- ---- how much is added

abbrev pub counts : ℕ → ℕ → ℕ → Counts
counts v c e = record { variables = v; constraints = c; elements = e }

low : (a b : ℕ) → a < b → nat_lt a b ≡ true
low a b l = (Decides-ltb a b).1 l

one_addition : (at : ℕ) (e : Entry) → element_additions (basic at e) ≡ AnElement (basic_at (basic at e)) ∷ []
one_addition at (Written value digits) = refl
one_addition at (Known name) = refl

no_member : (at : ℕ) (e : Entry) → members_in (basic at e) ≡ []
no_member at (Written value digits) = refl
no_member at (Known name) = refl

added : (at : ℕ) (e : Entry) (b : Basic) → b ≡ basic at e → element_additions b ≡ AnElement (basic_at (basic at e)) ∷ []
added at e b h = ap element_additions h ∙ one_addition at e

next_element : (e n : ℕ) → (e + 1) + n ≡ e + suc n
next_element e n = omega arith

elements_fit : (v c e : ℕ) (es : List Entry) (bs : List Basic) (more : List Addition) → Are es bs → e + length es ≤ ELEMENT_LIMIT → over (counts v c e) (flat_map element_additions bs ++ more) ≡ over (counts v c (e + length es)) more
elements_fit v c e [] [] more a l = ap (λ (k : ℕ). over (counts v c k) more) (omega arith)
elements_fit v c e (x ∷ es) (b ∷ bs) more a l =
    let place = basic_at (basic a.0.0 x) in
    ap (λ (xs : List Addition). over (counts v c e) ((xs ++ flat_map element_additions bs) ++ more)) (added a.0.0 x b a.0.1)
    ∙ ap (λ (t : Bool). cond t [] (place ∷ []) ++ over (counts v c (e + 1)) (flat_map element_additions bs ++ more)) (low e ELEMENT_LIMIT (omega (arith, l)))
    ∙ elements_fit v c (e + 1) es bs more a.1 (omega (arith, l))
    ∙ ap (λ (k : ℕ). over (counts v c k) more) (next_element e (length es))
elements_fit v c e [] (b ∷ bs) more a l = absurd a
elements_fit v c e (x ∷ es) [] more a l = absurd a

elements_counted : (v c e : ℕ) (es : List Entry) (bs : List Basic) (more : List Addition) → Are es bs → all_counted (counts v c e) (flat_map element_additions bs ++ more) ≡ all_counted (counts v c (e + length es)) more
elements_counted v c e [] [] more a = ap (λ (k : ℕ). all_counted (counts v c k) more) (omega arith)
elements_counted v c e (x ∷ es) (b ∷ bs) more a =
    ap (λ (xs : List Addition). all_counted (counts v c e) ((xs ++ flat_map element_additions bs) ++ more)) (added a.0.0 x b a.0.1)
    ∙ elements_counted v c (e + 1) es bs more a.1
    ∙ ap (λ (k : ℕ). all_counted (counts v c k) more) (next_element e (length es))
elements_counted v c e [] (b ∷ bs) more a = absurd a
elements_counted v c e (x ∷ es) [] more a = absurd a

-- ---- sums

-- what a sum adds
abbrev pub sum_additions : ℕ → List Basic → List Basic → Basic → List Addition
sum_additions place xs ys bound = AConstraint place ∷ (flat_map element_additions xs ++ (flat_map element_additions ys ++ (members_in bound ++ [])))

pub sum_fits : (v c e place : ℕ) (fs ts : List Entry) (xs ys : List Basic) (at : ℕ) (bound : Entry) → Are fs xs → Are ts ys → c < CONSTRAINT_LIMIT → e + length fs + length ts ≤ ELEMENT_LIMIT → over (counts v c e) (sum_additions place xs ys (basic at bound)) ≡ []
sum_fits v c e place fs ts xs ys at bound a b few small =
    ap (λ (t : Bool). cond t [] (place ∷ []) ++ over (counts v (c + 1) e) (flat_map element_additions xs ++ (flat_map element_additions ys ++ (members_in (basic at bound) ++ [])))) (low c CONSTRAINT_LIMIT few)
    ∙ elements_fit v (c + 1) e fs xs (flat_map element_additions ys ++ (members_in (basic at bound) ++ [])) a (omega (arith, small))
    ∙ elements_fit v (c + 1) (e + length fs) ts ys (members_in (basic at bound) ++ []) b (omega (arith, small))
    ∙ ap (λ (ms : List Addition). over (counts v (c + 1) (e + length fs + length ts)) (ms ++ [])) (no_member at bound)

pub sum_counted : (v c e place : ℕ) (fs ts : List Entry) (xs ys : List Basic) (at : ℕ) (bound : Entry) → Are fs xs → Are ts ys → all_counted (counts v c e) (sum_additions place xs ys (basic at bound)) ≡ counts v (c + 1) (e + length fs + length ts)
sum_counted v c e place fs ts xs ys at bound a b =
    elements_counted v (c + 1) e fs xs (flat_map element_additions ys ++ (members_in (basic at bound) ++ [])) a
    ∙ elements_counted v (c + 1) (e + length fs) ts ys (members_in (basic at bound) ++ []) b
    ∙ ap (λ (ms : List Addition). all_counted (counts v (c + 1) (e + length fs + length ts)) (ms ++ [])) (no_member at bound)

-- `NAME([..],[..],N)` with these arguments
abbrev pub call : List ℕ → ℕ → ℕ → ℕ → List Basic → List Basic → Basic → Item
call name place a b xs ys bound = Constraint (record {
  name = record { bytes = name; at = place };
  arguments = Listed (record { at = a; elements = xs }) ∷ Listed (record { at = b; elements = ys }) ∷ Scalar bound ∷ [];
  annotations = [];
})

-- what such a call is asked to have
abbrev signature : List Asked
signature = asked.List (element false) ∷ asked.List (element true) ∷ asked.One (element false) ∷ []

abbrev expressions : ℕ → ℕ → List Basic → List Basic → Basic → List Expression
expressions a b xs ys bound = Listed (record { at = a; elements = xs }) ∷ Listed (record { at = b; elements = ys }) ∷ Scalar bound ∷ []

-- the faults of a call whose arguments are these
abbrev faults : ℕ → List ℕ → List ℕ → List ℕ → List Argument → List ℕ → List Fault
faults place floats unknowns wrong arguments many =
    (at_places Unsupported floats ++ ((at_places UnknownName unknowns ++ at_places WrongType wrong) ++ at_places WrongLengths (cond (fit_lengths Equal arguments) [] (place ∷ [])))) ++ at_places OverLimit many

-- nothing is wrong with the arguments
pub record AreRight (names : Environment) (n : Counts) (place a b : ℕ) (xs ys : List Basic) (bound : Basic) : Type 0 where
  pub factors : List Term
  pub terms : List Term
  pub number : Term
  pub floats : flat_map floats_in xs ++ (flat_map floats_in ys ++ (floats_in bound ++ [])) ≡ []
  pub unknowns : flat_map (unknown_in names) xs ++ (flat_map (unknown_in names) ys ++ (unknown_in names bound ++ [])) ≡ []
  pub factors_are : each_of (term_in names (element false)) xs ≡ Ok factors
  pub terms_are : each_of (term_in names (element true)) ys ≡ Ok terms
  pub number_is : term_in names (element false) bound ≡ Some number
  pub equal : (length terms == length (map entries.number_of factors)) ≡ true
  pub few : over n (sum_additions place xs ys bound) ≡ []

none_wrong : (names : Environment) (n : Counts) (place a b : ℕ) (xs ys : List Basic) (bound : Basic) → AreRight names n place a b xs ys bound → wrong_arguments names signature (expressions a b xs ys bound) ≡ []
none_wrong names n place a b xs ys bound r =
    λ i. wrong_place (entries.with_value (entries.list_argument (element false)) (r.factors_are i))
    ++ (wrong_place (entries.with_value (entries.list_argument (element true)) (r.terms_are i)) ++ (wrong_place (entries.or_place (option_map meaning.One (r.number_is i)) (basic_at bound)) ++ []))

arguments_are : (names : Environment) (n : Counts) (place a b : ℕ) (xs ys : List Basic) (bound : Basic) → (r : AreRight names n place a b xs ys bound)
    → arguments_in names signature (expressions a b xs ys bound) ≡ meaning.Numbers (map entries.number_of r.factors) ∷ meaning.Terms r.terms ∷ meaning.One r.number ∷ []
arguments_are names n place a b xs ys bound r =
    λ i. elim (entries.with_value (entries.list_argument (element false)) (r.factors_are i)) [
      | Ok first ↦ first ∷ elim (entries.with_value (entries.list_argument (element true)) (r.terms_are i)) [
        | Ok second ↦ second ∷ elim (entries.or_place (option_map meaning.One (r.number_is i)) (basic_at bound)) [ Ok third ↦ third ∷ [] | Err at ↦ [] ]
        | Err at ↦ elim (entries.or_place (option_map meaning.One (r.number_is i)) (basic_at bound)) [ Ok third ↦ third ∷ [] | Err at ↦ [] ]
      ]
      | Err at ↦ elim (entries.with_value (entries.list_argument (element true)) (r.terms_are i)) [
        | Ok second ↦ second ∷ elim (entries.or_place (option_map meaning.One (r.number_is i)) (basic_at bound)) [ Ok third ↦ third ∷ [] | Err at ↦ [] ]
        | Err at ↦ elim (entries.or_place (option_map meaning.One (r.number_is i)) (basic_at bound)) [ Ok third ↦ third ∷ [] | Err at ↦ [] ]
      ]
    ]

none_left : (names : Environment) (n : Counts) (place a b : ℕ) (xs ys : List Basic) (bound : Basic) → AreRight names n place a b xs ys bound
    → faults place (flat_map floats_in xs ++ (flat_map floats_in ys ++ (floats_in bound ++ []))) (flat_map (unknown_in names) xs ++ (flat_map (unknown_in names) ys ++ (unknown_in names bound ++ []))) (wrong_arguments names signature (expressions a b xs ys bound)) (arguments_in names signature (expressions a b xs ys bound)) (over n (sum_additions place xs ys bound)) ≡ []
none_left names n place a b xs ys bound r =
    (λ i. faults place (r.floats i) (r.unknowns i) (none_wrong names n place a b xs ys bound r i) (arguments_are names n place a b xs ys bound r i) (r.few i))
    ∙ ap (λ (t : Bool). at_places WrongLengths (cond (t && true) [] (place ∷ [])) ++ []) r.equal

pub at_most_keeps : (names : Environment) (n : Counts) (place a b : ℕ) (xs ys : List Basic) (bound : Basic) → AreRight names n place a b xs ys bound → faults_of names n (call (codes "int_lin_le") place a b xs ys bound) ≡ []
at_most_keeps names n place a b xs ys bound r = none_left names n place a b xs ys bound r

pub equal_keeps : (names : Environment) (n : Counts) (place a b : ℕ) (xs ys : List Basic) (bound : Basic) → AreRight names n place a b xs ys bound → faults_of names n (call (codes "int_lin_eq") place a b xs ys bound) ≡ []
equal_keeps names n place a b xs ys bound r = none_left names n place a b xs ys bound r

no_three : (xs ys zs : List ℕ) → xs ≡ [] → ys ≡ [] → zs ≡ [] → xs ++ (ys ++ (zs ++ [])) ≡ []
no_three xs ys zs a b c = λ i. a i ++ (b i ++ (c i ++ []))

same_length : (f : Term → ℤ) (xs ys : List Term) → length ys ≡ length xs → (length ys == length (map f xs)) ≡ true
same_length f xs ys e = eq-eqb (length ys) (length (map f xs)) (let m : length (map f xs) ≡ length xs = simp length-map in omega (arith, e, m))

-- the arguments are right, where each entry fits
pub right : (names : Environment) (v c e place a b at : ℕ) (fs ts : List Entry) (bound : Entry) → AllFit false names fs → AllFit true names ts → FitsIn false names bound → length ts ≡ length fs → c < CONSTRAINT_LIMIT → e + length fs + length ts ≤ ELEMENT_LIMIT
    → AreRight names (counts v c e) place a b (basics a fs) (basics b ts) (basic at bound)
right names v c e place a b at fs ts bound f t g same few small =
    let x = basics_are a fs in
    let y = basics_are b ts in
    let r = resolved false names fs (basics a fs) x f in
    let s = resolved true names ts (basics b ts) y t in
    let o = one_term false names at bound g in
    record {
      factors = r.terms;
      terms = s.terms;
      number = o.0;
      floats = no_three _ _ _ (no_floats fs (basics a fs) x) (no_floats ts (basics b ts) y) (no_float at bound);
      unknowns = no_three _ _ _ (all_known false names fs (basics a fs) x f) (all_known true names ts (basics b ts) y t) (known_one false names at bound g);
      factors_are = r.are;
      terms_are = s.are;
      number_is = o.1;
      equal = same_length entries.number_of r.terms s.terms (let p = r.count in let q = s.count in omega (arith, p, q, same));
      few = sum_fits v c e place fs ts (basics a fs) (basics b ts) at bound x y few small;
    }
