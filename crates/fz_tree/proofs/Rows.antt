-- Assignments of one row meet the same decisions about what is printed.
use Rattle.std.proofs.Common.{◌≡◌, ℕ, zero, suc, ◌+◌, ◌-◌, List, [], ◌∷◌, refl, ap, ap₂, sym, ◌∙◌, Bool, true, false, cond, ◌||◌, ◌&&◌, subst, map, take, drop, length, take_at, drop_at}
use Rattle.std.specs.Prelude.{ℤ, pos, Option, Some, unwrap_or}
use Rattle.std.specs.List.{AllByRecursion, list_any, flat_map, slice_get, count_by}
use Rattle.std.proofs.lemmas.List.{length-map}
use Rattle.std.proofs.lemmas.Bool.{eqb-true}
use Rattle.fz_spec.specs.declared.term.Term.{Term}
use Rattle.fz_spec.specs.declared.term.Term.TheVariants.{Var, Num}
use Rattle.fz_spec.specs.Constraints.{term_value}
use Rattle.fz_spec.specs.Instance.{Instance, Output, Variable, AreDeclared}
use Rattle.fz_tree.specs.declared.decision.Decision.{Decision}
use Rattle.fz_tree.specs.declared.mode.Mode.{Mode}
use Rattle.fz_tree.specs.declared.mode.Mode.TheVariants.{All, Rows, Best}
use Rattle.fz_tree.specs.Choice.{meets, compares_if_there}
use Rattle.fz_tree.specs.Frontier.{Edge, meets_if_there, is_below, times_below}
use Rattle.fz_tree.specs.Proper.{MeetsTaken}
use Rattle.fz_tree.specs.Rows.{row_of, is_term, IsShown, AreAbout, key}
use Rattle.fz_tree.proofs.Counts.{one_if, count_cons}

-- ---- the values of a row

same_term : (a x : List ℤ) (t : Term) (y : ℕ) → is_term y t ≡ true → term_value a t ≡ term_value x t → term_value a (Var y) ≡ term_value x (Var y)
same_term a x (Var z) y is same = subst (λ (i : ℕ). term_value a (Var i) ≡ term_value x (Var i)) (sym (eqb-true y z is)) same
same_term a x (Num n) y is same = cc

same_terms : (a x : List ℤ) (t : Term) (ts : List Term) (y : ℕ) (b : Bool) → is_term y t ≡ b → (b || list_any (is_term y) ts) ≡ true → term_value a t ≡ term_value x t
    → (list_any (is_term y) ts ≡ true → term_value a (Var y) ≡ term_value x (Var y)) → term_value a (Var y) ≡ term_value x (Var y)
same_terms a x t ts y true is some head rest = same_term a x t y is head
same_terms a x t ts y false is some head rest = rest some

in_terms : (a x : List ℤ) (ts : List Term) (y : ℕ) → map (term_value a) ts ≡ map (term_value x) ts → list_any (is_term y) ts ≡ true → term_value a (Var y) ≡ term_value x (Var y)
in_terms a x [] y same some = cc
in_terms a x (t ∷ ts) y same some =
    same_terms a x t ts y (is_term y t) refl some (ap (λ (l : List ℤ). unwrap_or (slice_get l 0) (pos 0)) same) (in_terms a x ts y (ap (drop 1) same))

in_items : (a x : List ℤ) (o : Output) (os : List Output) (y : ℕ) (b : Bool) → list_any (is_term y) o.terms ≡ b → (b || list_any (λ (p : Output). list_any (is_term y) p.terms) os) ≡ true
    → map (term_value a) o.terms ≡ map (term_value x) o.terms → (list_any (λ (p : Output). list_any (is_term y) p.terms) os ≡ true → term_value a (Var y) ≡ term_value x (Var y)) → term_value a (Var y) ≡ term_value x (Var y)
in_items a x o os y true is some here rest = in_terms a x o.terms y here is
in_items a x o os y false is some here rest = rest some

abbrev values : List ℤ → List Output → List ℤ
values a os = flat_map (λ (o : Output). map (term_value a) o.terms) os

in_outputs : (a x : List ℤ) (os : List Output) (y : ℕ) → values a os ≡ values x os → list_any (λ (o : Output). list_any (is_term y) o.terms) os ≡ true → term_value a (Var y) ≡ term_value x (Var y)
in_outputs a x [] y same some = cc
in_outputs a x (o ∷ os) y same some =
    let mine : List ℤ = map (term_value a) o.terms in
    let other : List ℤ = map (term_value x) o.terms in
    let size : length mine ≡ length other = length-map o.terms (term_value a) ∙ sym (length-map o.terms (term_value x)) in
    let here : mine ≡ other = sym (take_at mine (values a os) (length other) size) ∙ ap (take (length other)) same ∙ take_at other (values x os) (length other) refl in
    let rest : values a os ≡ values x os = sym (drop_at mine (values a os) (length other) size) ∙ ap (drop (length other)) same ∙ drop_at other (values x os) (length other) refl in
    in_items a x o os y (list_any (is_term y) o.terms) refl some here (in_outputs a x os y rest)

-- assignments of the same variables have a variable both or neither
same_value : (vs : List Variable) (a x : List ℤ) (i : ℕ) → AreDeclared vs a → AreDeclared vs x → unwrap_or (slice_get a i) (pos 0) ≡ unwrap_or (slice_get x i) (pos 0) → slice_get a i ≡ slice_get x i
same_value [] [] [] i of_a of_x same = refl
same_value (v ∷ vs) (y ∷ ys) (z ∷ zs) zero of_a of_x same = ap Some same
same_value (v ∷ vs) (y ∷ ys) (z ∷ zs) (suc i) of_a of_x same = same_value vs ys zs i of_a.1 of_x.1 same
same_value [] (y ∷ ys) x i of_a of_x same = absurd of_a
same_value [] [] (z ∷ zs) i of_a of_x same = absurd of_x
same_value (v ∷ vs) [] x i of_a of_x same = absurd of_a
same_value (v ∷ vs) (y ∷ ys) [] i of_a of_x same = absurd of_x

-- ---- decisions, edges and frontiers

module _ (m : Instance) (a x : List ℤ) (of_a : AreDeclared m.variables a) (of_x : AreDeclared m.variables x) (row : row_of m a ≡ row_of m x) where
  pub meets_alike : (d : Decision) → IsShown m d → meets a d ≡ meets x d
  meets_alike d shown =
      ap (λ (o : Option ℤ). compares_if_there o d.comparison d.value) (same_value m.variables a x d.variable of_a of_x (in_outputs a x m.outputs d.variable row shown))

  at_alike : (ds : List Decision) (i : ℕ) → AllByRecursion (IsShown m) ds → meets_if_there a (slice_get ds i) ≡ meets_if_there x (slice_get ds i)
  at_alike [] i shown = refl
  at_alike (d ∷ ds) zero shown = meets_alike d shown.0
  at_alike (d ∷ ds) (suc i) shown = at_alike ds i shown.1

  any_alike : (ds : List Decision) (i n : ℕ) → AllByRecursion (IsShown m) ds → list_any (meets a) (take n (drop i ds)) ≡ list_any (meets x) (take n (drop i ds))
  any_alike ds zero zero shown = refl
  any_alike [] zero (suc n) shown = refl
  any_alike (d ∷ ds) zero (suc n) shown = ap₂ (λ (b c : Bool). b || c) (meets_alike d shown.0) (any_alike ds zero n shown.1)
  any_alike [] (suc i) n shown = none n
    where
      none : (n : ℕ) → list_any (meets a) (take n (drop (suc i) [])) ≡ list_any (meets x) (take n (drop (suc i) []))
      none zero = refl
      none (suc n) = refl
  any_alike (d ∷ ds) (suc i) n shown = any_alike ds i n shown.1

  count_alike : (ds : List Decision) (i n : ℕ) → AllByRecursion (IsShown m) ds → count_by (meets a) (take n (drop i ds)) ≡ count_by (meets x) (take n (drop i ds))
  count_alike ds zero zero shown = refl
  count_alike [] zero (suc n) shown = refl
  count_alike (d ∷ ds) zero (suc n) shown =
      count_cons (meets a) d (take n ds) ∙ ap₂ (λ (b : Bool) (k : ℕ). one_if b + k) (meets_alike d shown.0) (count_alike ds zero n shown.1) ∙ sym (count_cons (meets x) d (take n ds))
  count_alike [] (suc i) n shown = none n
    where
      none : (n : ℕ) → count_by (meets a) (take n (drop (suc i) [])) ≡ count_by (meets x) (take n (drop (suc i) []))
      none zero = refl
      none (suc n) = refl
  count_alike (d ∷ ds) (suc i) n shown = count_alike ds i n shown.1

  abbrev Shown : List Edge → Type 0
  Shown es = AreAbout Rows m es

  pub taken_alike : (es : List Edge) → Shown es → MeetsTaken es x → MeetsTaken es a
  taken_alike [] shown met = tt
  taken_alike (e ∷ es) shown met = (at_alike e.choice e.taken shown.0 ∙ met.0, taken_alike es shown.1 met.1)

  pub below_alike : (es : List Edge) (current : Bool) → Shown es → is_below es current a ≡ is_below es current x
  below_alike [] current shown = refl
  below_alike (e ∷ es) current shown =
      ap₂ (λ (b c : Bool). b || c) (ap₂ (λ (b c : Bool). b && c) (at_alike e.choice e.taken shown.0) (below_alike es current shown.1)) (any_alike e.choice (e.taken + 1) (e.last - e.taken) shown.0)

  pub times_alike : (es : List Edge) (n : ℕ) → Shown es → times_below es a n ≡ times_below es x n
  times_alike [] n shown = refl
  times_alike (e ∷ es) n shown =
      ap₂ (λ (k j : ℕ). k + j) (ap₂ (λ (b : Bool) (k : ℕ). cond b k 0) (at_alike e.choice e.taken shown.0) (times_alike es n shown.1)) (count_alike e.choice (e.taken + 1) (e.last - e.taken) shown.0)

-- ---- by the key

-- what is divided by the key's numbers alone has all assignments of one key together
pub taken_by_key : (mode : Mode) (m : Instance) (es : List Edge) (a x : List ℤ) → AreAbout mode m es → AreDeclared m.variables a → AreDeclared m.variables x → key mode m a ≡ key mode m x → MeetsTaken es x → MeetsTaken es a
taken_by_key All m es a x about of_a of_x same met = subst (MeetsTaken es) (sym same) met
taken_by_key Rows m es a x about of_a of_x same met = taken_alike m a x of_a of_x same es about met
taken_by_key Best m es a x about of_a of_x same met = subst (MeetsTaken es) (sym same) met
