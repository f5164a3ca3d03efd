-- The truth of a constraint depends on the values of its terms alone.
use Rattle.std.proofs.Common.{◌≡◌, List, [], ◌∷◌, ◌++◌, refl, sym, subst, ◌∙◌}
use Rattle.std.specs.Prelude.{ℤ}
use Rattle.std.specs.List.{AllByRecursion}
use Rattle.fz_sets.proofs.Lists.{all_left, all_right}
use Rattle.fz_spec.specs.declared.shape.Shape.{Shape}
use Rattle.fz_spec.specs.declared.shape.Shape.TheVariants.{Rel, Dom, Linear, Clause, Or, And, Xor, Arithmetic, Element, Extensional, Distinct, Cumulative, Regular, Counts, Inverse}
use Rattle.fz_spec.specs.declared.term.Term.{Term}
use Rattle.fz_spec.specs.Truth.{Automaton, IsAccepted}
use Rattle.fz_spec.specs.Constraints.{Argument, One, Numbers, Terms, Set, terms_among, term_value, term_values, OrReified, HoldsAs}

-- two assignments give each of these terms the same number
abbrev pub Agree : List ℤ → List ℤ → List Term → Type 0
Agree a b ts = AllByRecursion (λ (t : Term). term_value a t ≡ term_value b t) ts

values_agree : (a b : List ℤ) (ts : List Term) → Agree a b ts → term_values a ts ≡ term_values b ts
values_agree a b [] same = refl
values_agree a b (t ∷ ts) same = rw (same.0, values_agree a b ts same.1) refl

-- of a list of terms before others, and of the others
front : (a b : List ℤ) (ts rest : List Term) → Agree a b (ts ++ rest) → term_values a ts ≡ term_values b ts
front a b ts rest same = values_agree a b ts (all_left (λ (t : Term). term_value a t ≡ term_value b t) ts rest same)

back : (a b : List ℤ) (ts rest : List Term) → Agree a b (ts ++ rest) → Agree a b rest
back a b ts rest same = all_right (λ (t : Term). term_value a t ≡ term_value b t) ts rest same

rest_agrees : (rest : List Argument) (a b : List ℤ) (P : Type 0) → Agree a b (terms_among rest) → OrReified rest a P → OrReified rest b P
rest_agrees [] a b P same h = h
rest_agrees (One r ∷ []) a b P same h = ((λ one. h.0 (same.0 ∙ one)), (λ p. sym same.0 ∙ h.1 p))
rest_agrees rest a b P same h = absurd h

pub truth_agrees : (shape : Shape) (arguments : List Argument) (a b : List ℤ) → Agree a b (terms_among arguments) → HoldsAs shape arguments a → HoldsAs shape arguments b
truth_agrees (Rel relation) (One x ∷ One y ∷ rest) a b same h = rw (← same.0, ← same.1.0) (rest_agrees rest a b _ same.1.1 h)
truth_agrees Dom (One x ∷ Set set ∷ rest) a b same h = rw (← same.0) (rest_agrees rest a b _ same.1 h)
truth_agrees (Linear relation) (Numbers ks ∷ Terms ts ∷ One c ∷ rest) a b same h =
    let behind = back a b ts (terms_among (One c ∷ rest)) same in
    rw (← front a b ts (terms_among (One c ∷ rest)) same, ← behind.0) (rest_agrees rest a b _ behind.1 h)
truth_agrees Clause (Terms ps ∷ Terms ns ∷ rest) a b same h =
    let behind = back a b ps (terms_among (Terms ns ∷ rest)) same in
    rw (← front a b ps (terms_among (Terms ns ∷ rest)) same, ← front a b ns (terms_among rest) behind) (rest_agrees rest a b _ (back a b ns (terms_among rest) behind) h)
truth_agrees Or (Terms ts ∷ rest) a b same h = rw (← front a b ts (terms_among rest) same) (rest_agrees rest a b _ (back a b ts (terms_among rest) same) h)
truth_agrees Or (One x ∷ One y ∷ rest) a b same h = rw (← same.0, ← same.1.0) (rest_agrees rest a b _ same.1.1 h)
truth_agrees And (Terms ts ∷ rest) a b same h = rw (← front a b ts (terms_among rest) same) (rest_agrees rest a b _ (back a b ts (terms_among rest) same) h)
truth_agrees And (One x ∷ One y ∷ rest) a b same h = rw (← same.0, ← same.1.0) (rest_agrees rest a b _ same.1.1 h)
truth_agrees Xor (Terms ts ∷ rest) a b same h = rw (← front a b ts (terms_among rest) same) (rest_agrees rest a b _ (back a b ts (terms_among rest) same) h)
truth_agrees (Arithmetic operation) (One x ∷ One z ∷ []) a b same h = rw (← same.0, ← same.1.0) h
truth_agrees (Arithmetic operation) (One x ∷ One y ∷ One z ∷ rest) a b same h = rw (← same.0, ← same.1.0, ← same.1.1.0) (rest_agrees rest a b _ same.1.1.1 h)
truth_agrees (Arithmetic operation) (One z ∷ Terms xs ∷ rest) a b same h =
    rw (← same.0, ← front a b xs (terms_among rest) same.1) (rest_agrees rest a b _ (back a b xs (terms_among rest) same.1) h)
truth_agrees Element (One k ∷ Numbers xs ∷ One c ∷ rest) a b same h = rw (← same.0, ← same.1.0) (rest_agrees rest a b _ same.1.1 h)
truth_agrees Element (One k ∷ Terms xs ∷ One c ∷ rest) a b same h =
    let behind = back a b xs (terms_among (One c ∷ rest)) same.1 in
    rw (← same.0, ← front a b xs (terms_among (One c ∷ rest)) same.1, ← behind.0) (rest_agrees rest a b _ behind.1 h)
truth_agrees Extensional (Terms xs ∷ Numbers table ∷ rest) a b same h = rw (← front a b xs (terms_among rest) same) (rest_agrees rest a b _ (back a b xs (terms_among rest) same) h)
truth_agrees Distinct (Terms xs ∷ rest) a b same h = rw (← front a b xs (terms_among rest) same) (rest_agrees rest a b _ (back a b xs (terms_among rest) same) h)
truth_agrees Cumulative (Terms ss ∷ Terms ds ∷ Terms us ∷ One c ∷ rest) a b same h =
    let second = back a b ss (terms_among (Terms ds ∷ Terms us ∷ One c ∷ rest)) same in
    let third = back a b ds (terms_among (Terms us ∷ One c ∷ rest)) second in
    let last = back a b us (terms_among (One c ∷ rest)) third in
    rw (← front a b ss (terms_among (Terms ds ∷ Terms us ∷ One c ∷ rest)) same, ← front a b ds (terms_among (Terms us ∷ One c ∷ rest)) second, ← front a b us (terms_among (One c ∷ rest)) third, ← last.0)
    (rest_agrees rest a b _ last.1 h)
truth_agrees Regular (Terms xs ∷ One q ∷ One s ∷ Numbers next ∷ One p ∷ Set set ∷ rest) a b same h =
    let behind = back a b xs (terms_among (One q ∷ One s ∷ One p ∷ rest)) same in
    rw (← front a b xs (terms_among (One q ∷ One s ∷ One p ∷ rest)) same)
    (subst (λ (m : Automaton). OrReified rest b (IsAccepted m (term_values a xs))) (λ i. record { states = behind.0 i; symbols = behind.1.0 i; next = next; start = behind.1.1.0 i; accepting = set }) (rest_agrees rest a b _ behind.1.1.1 h))
truth_agrees Counts (Terms xs ∷ Numbers cover ∷ Terms cs ∷ rest) a b same h =
    let behind = back a b xs (terms_among (Terms cs ∷ rest)) same in
    rw (← front a b xs (terms_among (Terms cs ∷ rest)) same, ← front a b cs (terms_among rest) behind) (rest_agrees rest a b _ (back a b cs (terms_among rest) behind) h)
truth_agrees Inverse (Terms fs ∷ Terms gs ∷ rest) a b same h =
    let behind = back a b fs (terms_among (Terms gs ∷ rest)) same in
    rw (← front a b fs (terms_among (Terms gs ∷ rest)) same, ← front a b gs (terms_among rest) behind) (rest_agrees rest a b _ (back a b gs (terms_among rest) behind) h)
truth_agrees shape arguments a b same h = absurd h
