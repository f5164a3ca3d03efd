-- What is told of variables by the terms of output items.
use Rattle.std.proofs.Common.{◌≡◌, ℕ, zero, suc, ◌<◌, Bool, true, false, List, [], ◌∷◌, ◌++◌, length, set, take, drop, not, get_or, ap₂, ℤ, pos, inl, inr, ◌⊎◌, refl, sym, ap, subst, ◌∙◌, arith, eqb-true, eq-eqb, replicate}
use Rattle.std.specs.List.{list_any}
use Rattle.std.specs.Prelude.{nat_eq, IsTrue, ◌↔◌}
use Rattle.std.proofs.lemmas.Bool.{or_cases, or_parts, or_from, not-true, not_from_false, false≢true, cases_Bool}
use Rattle.std.proofs.lemmas.List.{length-set, get_or-set_same, get_or-set_other, get_or-replicate, length-replicate, ext_get_or, take_at}
use Rattle.std.proofs.lemmas.Option.{unwrap_or-slice_get}
use Rattle.fz_spec.specs.declared.term.Term.{Term}
use Rattle.fz_spec.specs.declared.term.Term.TheVariants.{Num, Var}
use Rattle.fz_spec.specs.Constraints.{term_value}
use Rattle.fz_spec.specs.Instance.{Instance, Output, Variable, AreDeclared}
use Rattle.fz_tree.specs.Rows.{is_term}
use Rattle.fz_shown.specs.Guesses.{told, terms_told, outputs_told}
use Rattle.fz_shown.specs.Shown.{ShowsAll}

-- a variable is among the terms of the items
abbrev pub is_among_outputs : List Output → ℕ → Bool
is_among_outputs os v = list_any (λ (o : Output). list_any (is_term v) o.terms) os

-- ---- lengths

told_length : {X : Type 0} (t : Term) (x : X) (xs : List X) → length (told t x xs) ≡ length xs
told_length (Num n) x xs = refl
told_length (Var v) x xs = length-set xs v x

terms_length : {X : Type 0} (f : Term → X) (ts : List Term) (xs : List X) → length (terms_told f ts xs) ≡ length xs
terms_length f [] xs = refl
terms_length f (t ∷ ts) xs = terms_length f ts (told t (f t) xs) ∙ told_length t (f t) xs

pub outputs_length : {X : Type 0} (f : Term → X) (os : List Output) (xs : List X) → length (outputs_told f os xs) ≡ length xs
outputs_length f [] xs = refl
outputs_length f (o ∷ os) xs = outputs_length f os (terms_told f o.terms xs) ∙ terms_length f o.terms xs

-- ---- what holds of the value that a variable has from the terms

-- what holds of each value that a term of the variable has
abbrev pub HoldsOf : {X : Type 0} → (Term → X) → ℕ → (X → Type 0) → Type 0
HoldsOf f v P = (t : Term) → is_term v t ≡ true → P (f t)

there_holds : {X : Type 0} (P : X → Type 0) (f : Term → X) (v w : ℕ) (d : X) (xs : List X) → HoldsOf f v P → v < length xs → nat_eq v w ≡ true → P (get_or (set xs w (f (Var w))) v d)
there_holds P f v w d xs each within is = let same : v ≡ w = eqb-true v w is in
    subst P (sym (ap (λ (k : ℕ). get_or (set xs w (f (Var w))) k d) same ∙ get_or-set_same xs w (f (Var w)) d (subst (λ (k : ℕ). k < length xs) same within))) (each (Var w) is)

term_holds : {X : Type 0} (P : X → Type 0) (f : Term → X) (v : ℕ) (d : X) (t : Term) (xs : List X) → HoldsOf f v P → v < length xs → (is_term v t ≡ true) ⊎ P (get_or xs v d) → P (get_or (told t (f t) xs) v d)
term_holds P f v d (Num n) xs each within (inl is) = absurd (false≢true is)
term_holds P f v d (Num n) xs each within (inr before) = before
term_holds P f v d (Var w) xs each within (inl is) = there_holds P f v w d xs each within is
term_holds P f v d (Var w) xs each within (inr before) = elim (cases_Bool (nat_eq v w)) [
  | inl is ↦ there_holds P f v w d xs each within is
  | inr other ↦ subst P (sym (get_or-set_other xs w v (f (Var w)) d (λ same. false≢true (sym other ∙ eq-eqb v w same)))) before
]

terms_hold : {X : Type 0} (P : X → Type 0) (f : Term → X) (v : ℕ) (d : X) (ts : List Term) (xs : List X) → HoldsOf f v P → v < length xs → (list_any (is_term v) ts ≡ true) ⊎ P (get_or xs v d) → P (get_or (terms_told f ts xs) v d)
terms_hold P f v d [] xs each within (inl none) = absurd (false≢true none)
terms_hold P f v d [] xs each within (inr before) = before
terms_hold P f v d (t ∷ ts) xs each within (inr before) = terms_hold P f v d ts (told t (f t) xs) each (subst (λ (n : ℕ). v < n) (sym (told_length t (f t) xs)) within) (inr (term_holds P f v d t xs each within (inr before)))
terms_hold P f v d (t ∷ ts) xs each within (inl some) = let long : v < length (told t (f t) xs) = subst (λ (n : ℕ). v < n) (sym (told_length t (f t) xs)) within in
    elim (or_cases (is_term v t) (list_any (is_term v) ts) some) [
      | inl here ↦ terms_hold P f v d ts (told t (f t) xs) each long (inr (term_holds P f v d t xs each within (inl here)))
      | inr later ↦ terms_hold P f v d ts (told t (f t) xs) each long (inl later)
    ]

pub outputs_hold : {X : Type 0} (P : X → Type 0) (f : Term → X) (v : ℕ) (d : X) (os : List Output) (xs : List X) → HoldsOf f v P → v < length xs → (is_among_outputs os v ≡ true) ⊎ P (get_or xs v d) → P (get_or (outputs_told f os xs) v d)
outputs_hold P f v d [] xs each within (inl none) = absurd (false≢true none)
outputs_hold P f v d [] xs each within (inr before) = before
outputs_hold P f v d (o ∷ os) xs each within (inr before) = outputs_hold P f v d os (terms_told f o.terms xs) each (subst (λ (n : ℕ). v < n) (sym (terms_length f o.terms xs)) within) (inr (terms_hold P f v d o.terms xs each within (inr before)))
outputs_hold P f v d (o ∷ os) xs each within (inl some) = let long : v < length (terms_told f o.terms xs) = subst (λ (n : ℕ). v < n) (sym (terms_length f o.terms xs)) within in
    elim (or_cases (list_any (is_term v) o.terms) (is_among_outputs os v) some) [
      | inl here ↦ outputs_hold P f v d os (terms_told f o.terms xs) each long (inr (terms_hold P f v d o.terms xs each within (inl here)))
      | inr later ↦ outputs_hold P f v d os (terms_told f o.terms xs) each long (inl later)
    ]

-- ---- nothing is told of other variables

term_other : {X : Type 0} (f : Term → X) (v : ℕ) (d : X) (t : Term) (xs : List X) → is_term v t ≡ false → get_or (told t (f t) xs) v d ≡ get_or xs v d
term_other f v d (Num n) xs other = refl
term_other f v d (Var w) xs other = get_or-set_other xs w v (f (Var w)) d (λ same. false≢true (sym other ∙ eq-eqb v w same))

terms_other : {X : Type 0} (f : Term → X) (v : ℕ) (d : X) (ts : List Term) (xs : List X) → list_any (is_term v) ts ≡ false → get_or (terms_told f ts xs) v d ≡ get_or xs v d
terms_other f v d [] xs none = refl
terms_other f v d (t ∷ ts) xs none = let parts = or_parts (is_term v t) (list_any (is_term v) ts) none in terms_other f v d ts (told t (f t) xs) parts.1 ∙ term_other f v d t xs parts.0

outputs_other : {X : Type 0} (f : Term → X) (v : ℕ) (d : X) (os : List Output) (xs : List X) → is_among_outputs os v ≡ false → get_or (outputs_told f os xs) v d ≡ get_or xs v d
outputs_other f v d [] xs none = refl
outputs_other f v d (o ∷ os) xs none = let parts = or_parts (list_any (is_term v) o.terms) (is_among_outputs os v) none in outputs_other f v d os (terms_told f o.terms xs) parts.1 ∙ terms_other f v d o.terms xs parts.0

-- ---- the whole assignment

declared_length : (vs : List Variable) (a : List ℤ) → AreDeclared vs a → length a ≡ length vs
declared_length [] [] declared = refl
declared_length [] (x ∷ xs) declared = absurd declared
declared_length (v ∷ vs) [] declared = absurd declared
declared_length (v ∷ vs) (x ∷ xs) declared = ap suc (declared_length vs xs declared.1)

value_at : (a : List ℤ) (v : ℕ) → HoldsOf (term_value a) v (λ (x : ℤ). x ≡ get_or a v (pos 0))
value_at a v (Num n) is = absurd (false≢true is)
value_at a v (Var w) is = unwrap_or-slice_get a w (pos 0) ∙ ap (λ (k : ℕ). get_or a k (pos 0)) (sym (eqb-true v w is))

-- where each variable is shown, all of the assignment is told
pub all_told : (m : Instance) (a values : List ℤ) → ShowsAll m → AreDeclared m.variables a → length values ≡ length m.variables → outputs_told (term_value a) m.outputs values ≡ a
all_told m a values shown declared long = let same = outputs_length (term_value a) m.outputs values in let whole = declared_length m.variables a declared in
    ext_get_or (pos 0) (outputs_told (term_value a) m.outputs values) a (same ∙ long ∙ sym whole)
    (λ v within. outputs_hold (λ (x : ℤ). x ≡ get_or a v (pos 0)) (term_value a) v (pos 0) m.outputs values (value_at a v) (omega (arith, within, same)) (inl (shown v (omega (arith, within, same, long)))))

-- ---- a list that was written to

pub written : {X : Type 0} (new old items list : List X) (len : ℕ) → old ≡ items → length new ≡ length old → len ≡ length items → list ≡ take len (new ++ drop (length new) items) → list ≡ new
written new old items list len same long whole is = is ∙ take_at new (drop (length new) items) len (long ∙ ap length same ∙ sym whole)

-- ---- marks

abbrev pub marks_of : List Output → List Bool → List Bool
marks_of os marks = outputs_told (λ t. true) os marks

-- none of the marks is off
abbrev pub AreOn : List Bool → Type 0
AreOn marks = (v : ℕ) → v < length marks → get_or marks v false ≡ true

pub shown_on : (m : Instance) (n : ℕ) → n ≡ length m.variables → ShowsAll m → AreOn (marks_of m.outputs (replicate n false))
shown_on m n count shown v within = let same = outputs_length (λ t. true) m.outputs (replicate n false) in let long = length-replicate n false in
    outputs_hold (λ (x : Bool). x ≡ true) (λ t. true) v false m.outputs (replicate n false) (λ t is. refl) (omega (arith, within, same)) (inl (shown v (omega (arith, within, same, long, count))))

pub on_shown : (m : Instance) (n : ℕ) → n ≡ length m.variables → AreOn (marks_of m.outputs (replicate n false)) → ShowsAll m
on_shown m n count on v within = let same = outputs_length (λ t. true) m.outputs (replicate n false) in let long = length-replicate n false in
    elim (cases_Bool (is_among_outputs m.outputs v)) [
      | inl is ↦ is
      | inr other ↦ absurd (false≢true (sym (outputs_other (λ t. true) v false m.outputs (replicate n false) other ∙ get_or-replicate n v false false (omega (arith, within, count))) ∙ on v (omega (arith, within, same, long, count))))
    ]

all_on : (test : Bool → Bool) → test false ≡ true → (marks : List Bool) → list_any test marks ≡ false → AreOn marks
all_on test off [] none v within = absurd (omega (arith, within))
all_on test off (true ∷ bs) none zero within = refl
all_on test off (false ∷ bs) none zero within = let parts = or_parts (test false) (list_any test bs) none in absurd (false≢true (sym parts.0 ∙ off))
all_on test off (b ∷ bs) none (suc v) within = let parts = or_parts (test b) (list_any test bs) none in all_on test off bs parts.1 v (omega (arith, within))

none_off : (test : Bool → Bool) → test true ≡ false → (marks : List Bool) → AreOn marks → list_any test marks ≡ false
none_off test on [] all = refl
none_off test on (true ∷ bs) all = or_from (test true) (list_any test bs) on (none_off test on bs (λ v within. all (suc v) (omega (arith, within))))
none_off test on (false ∷ bs) all = absurd (false≢true (all zero (omega arith)))

-- whether all is shown, by whether a mark is off
pub is_all_shown : (test : Bool → Bool) → test true ≡ false → test false ≡ true → (m : Instance) (n : ℕ) (os : List Output) (items new marks : List Bool) (some : Bool) → n ≡ length m.variables → os ≡ m.outputs
    → items ≡ replicate n false → new ≡ marks_of os items → marks ≡ new → some ≡ list_any test marks → IsTrue (not some) ↔ ShowsAll m
is_all_shown test on off m n os items new marks some count outputs from is same any =
    let whole : marks ≡ marks_of m.outputs (replicate n false) = same ∙ is ∙ ap₂ marks_of outputs from in (
      (λ shows. on_shown m n count (subst AreOn whole (all_on test off marks (sym any ∙ not-true some shows)))),
      (λ shown. not_from_false some (any ∙ none_off test on marks (subst AreOn (sym whole) (shown_on m n count shown)))),
    )
