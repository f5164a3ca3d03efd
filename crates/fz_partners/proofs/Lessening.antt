-- Equations of which a term has the factor 0: 0 may stand in its place.
use Rattle.std.proofs.Common.{◌≡◌, ℕ, zero, suc, ◌*◌, ◌≤◌, ◌<◌, ◌⊎◌, List, [], ◌∷◌, inl, inr, refl, sym, ap, subst, ◌∙◌, arith, length, pos}
use Rattle.std.specs.Prelude.{ℤ, ◌+ℤ◌, ◌*ℤ◌}
use Rattle.std.specs.List.{AllByRecursion}
use Rattle.std.proofs.lemmas.Bool.{cases_eq}
use Rattle.std.proofs.lemmas.Int.{ints}
use Rattle.std.proofs.lemmas.Nat.{mul-le}
use Rattle.fz_sets.specs.Sets.{IsInSet, set_size, single}
use Rattle.fz_sets.proofs.Lists.{some_is}
use Rattle.fz_sets.proofs.Numbers.{same_or_not}
use Rattle.fz_sets.proofs.Sizes.{size_of_one, some_size}
use Rattle.fz_dom.specs.Shape.{least}
use Rattle.fz_dom.proofs.Ranges.{least_member}
use Rattle.fz_spec.specs.declared.term.Term.{Term}
use Rattle.fz_spec.specs.declared.term.Term.TheVariants.{Num, Var}
use Rattle.fz_spec.specs.Constraints.{term_value}
use Rattle.fz_strength.specs.declared.equation.TheConstants.{FEW_PAIRS}
use Rattle.fz_strength.specs.Domains.{dom_at, term_set, AreDomains, IsTermOf}
use Rattle.fz_strength.specs.Equations.{HasPartners, HaveFewPairs, sets_of}
use Rattle.fz_strength.proofs.Terms.{in_single}
use Rattle.fz_prop.specs.declared.answer.Answer.{Answer}
use Rattle.fz_prop.specs.declared.answer.Answer.TheVariants.{Fix, NoFix, Subsumed, Failed}
use Rattle.fz_prop.specs.Answers.{IsAnswerOf}
use Rattle.fz_prop.proofs.Answering.{IsSame}
use Rattle.fz_partners.specs.declared.equation.Equation.{Equation}
use Rattle.fz_partners.specs.Equations.{EquationLine, EquationTruth, IsCounting, IsLessened, factors_of, first_last, nothing, second_last, terms_of}
use Rattle.fz_partners.proofs.Assigning.{with_term}
use Rattle.fz_partners.proofs.Partners.{AllPartnered, line_by}
use Rattle.fz_partners.proofs.Turning.{first_same, second_same}

-- ---- terms

abbrev pub value_of : Term → ℤ
value_of (Num n) = n
value_of (Var v) = pos 0

abbrev pub number_of : Term → ℕ
number_of (Num n) = 0
number_of (Var v) = v

is_variable : (s : Term) (v : ℕ) → (s ≡ Var v) ⊎ (s ≡ Var v → ⊥)
is_variable (Num n) v = inr (λ e. cc (e))
is_variable (Var w) v = elim (cases_eq w v) [ inl e ↦ inl (ap Var e) | inr ne ↦ inr (λ e. ne (ap number_of e)) ]

-- An assignment that differs from another in the number of one term alone, which is left of it; two others are as they were.
pub record Regains (ds : List (List (ℤ × ℤ))) (a : List ℤ) (s t r : Term) : Type 0 where
  pub numbers : List ℤ
  pub left : IsInSet (term_set ds r) (term_value numbers r)
  pub first : term_value numbers s ≡ term_value a s
  pub second : term_value numbers t ≡ term_value a t

as_it_was : (ds : List (List (ℤ × ℤ))) (a : List ℤ) (s t r : Term) → IsInSet (term_set ds r) (term_value a r) → Regains ds a s t r
as_it_was ds a s t r left = record { numbers = a; left = left; first = refl; second = refl }

in_other : (ds : List (List (ℤ × ℤ))) (a : List ℤ) (s r : Term) → s ≡ r → IsInSet (term_set ds s) (term_value a s) → IsInSet (term_set ds r) (term_value a r)
in_other ds a s r e left = subst (λ (o : Term). IsInSet (term_set ds o) (term_value a o)) e left

-- a number that is left for the last term, where the first two have theirs
regain : (ds : List (List (ℤ × ℤ))) (a : List ℤ) (s t r : Term) (m : ℤ) → IsInSet (term_set ds r) m → IsInSet (term_set ds s) (term_value a s) → IsInSet (term_set ds t) (term_value a t) → Regains ds a s t r
regain ds a s t (Num n) m left first second = as_it_was ds a s t (Num n) (in_single n n refl)
regain ds a s t (Var v) m left first second = elim (is_variable s v) [
  | inl e ↦ as_it_was ds a s t (Var v) (in_other ds a s (Var v) e first)
  | inr ns ↦ elim (is_variable t v) [
    | inl e ↦ as_it_was ds a s t (Var v) (in_other ds a t (Var v) e second)
    | inr nt ↦
        let g = with_term ds a (Var v) m left in
        record {
          numbers = g.numbers;
          left = subst (λ (x : ℤ). IsInSet (term_set ds (Var v)) x) (sym g.own) left;
          first = g.others s (term_value a s) (λ e. absurd (ns e)) refl;
          second = g.others t (term_value a t) (λ e. absurd (nt e)) refl;
        }
  ]
]

-- ---- partners

abbrev pub lessened : Equation → Equation
lessened e = record { first = e.first; second = e.second; third = nothing; number = e.number }

abbrev pub Partnered : Equation → List (List (ℤ × ℤ)) → Term → ℤ → Type 0
Partnered e ds t x = HasPartners (sets_of ds (terms_of e)) (factors_of e) (terms_of e) e.number t x

sum_with : (x y z c : ℤ) → (x +ℤ (y +ℤ ((pos 1 *ℤ pos 0) +ℤ pos 0))) ≡ c → (x +ℤ (y +ℤ ((pos 0 *ℤ z) +ℤ pos 0))) ≡ c
sum_with x y z c is = omega (arith, ints, is)

sum_without : (x y z c : ℤ) → (x +ℤ (y +ℤ ((pos 0 *ℤ z) +ℤ pos 0))) ≡ c → (x +ℤ (y +ℤ ((pos 1 *ℤ pos 0) +ℤ pos 0))) ≡ c
sum_without x y z c is = omega (arith, ints, is)

-- by an assignment of the lessened one, where the last term has a number that is left
by_numbers : (e : Equation) (ds : List (List (ℤ × ℤ))) → e.third.factor ≡ pos 0 → (a b : List ℤ) (o : Term) (x : ℤ)
    → IsInSet (term_set ds e.first.term) (term_value a e.first.term) → IsInSet (term_set ds e.second.term) (term_value a e.second.term) → EquationTruth (lessened e) a
    → IsInSet (term_set ds e.third.term) (term_value b e.third.term) → term_value b e.first.term ≡ term_value a e.first.term → term_value b e.second.term ≡ term_value a e.second.term
    → term_value b o ≡ x → Partnered e ds o x
by_numbers e ds zeroed a b o x first second truth third one two own = record {
  numbers = b;
  left = (subst (λ (y : ℤ). IsInSet (term_set ds e.first.term) y) (sym one) first, (subst (λ (y : ℤ). IsInSet (term_set ds e.second.term) y) (sym two) second, (third, tt)));
  own = own;
  sum = rw (zeroed, one, two) (sum_with (e.first.factor *ℤ term_value a e.first.term) (e.second.factor *ℤ term_value a e.second.term) (term_value b e.third.term) e.number truth);
}

-- of one of the first two terms
regained : (e : Equation) (ds : List (List (ℤ × ℤ))) → e.third.factor ≡ pos 0 → (m : ℤ) → IsInSet (term_set ds e.third.term) m → (o : Term) (x : ℤ) → (o ≡ e.first.term) ⊎ (o ≡ e.second.term)
    → Partnered (lessened e) ds o x → Partnered e ds o x
regained e ds zeroed m left o x which p =
    let g = regain ds p.numbers e.first.term e.second.term e.third.term m left p.left.0 p.left.1.0 in
    let own : term_value g.numbers o ≡ x = elim which [
      | inl is ↦ ap (term_value g.numbers) is ∙ g.first ∙ ap (term_value p.numbers) (sym is) ∙ p.own
      | inr is ↦ ap (term_value g.numbers) is ∙ g.second ∙ ap (term_value p.numbers) (sym is) ∙ p.own
    ] in
    by_numbers e ds zeroed p.numbers g.numbers o x p.left.0 p.left.1.0 p.sum g.left g.first g.second own

-- of the last term itself, where it is one of the first two
as_another : (e : Equation) (ds : List (List (ℤ × ℤ))) → e.third.factor ≡ pos 0 → (o : Term) (x : ℤ) → o ≡ e.third.term → IsInSet (term_set ds e.third.term) x → Partnered (lessened e) ds o x → Partnered e ds e.third.term x
as_another e ds zeroed o x is left p =
    let own : term_value p.numbers e.third.term ≡ x = ap (term_value p.numbers) (sym is) ∙ p.own in
    by_numbers e ds zeroed p.numbers p.numbers e.third.term x p.left.0 p.left.1.0 p.sum (subst (λ (y : ℤ). IsInSet (term_set ds e.third.term) y) (sym own) left) refl refl own

-- and where it is another
alone : (e : Equation) (ds : List (List (ℤ × ℤ))) → e.third.factor ≡ pos 0 → (x : ℤ) → (e.first.term ≡ e.third.term → ⊥) → (e.second.term ≡ e.third.term → ⊥) → IsInSet (term_set ds e.third.term) x
    → Partnered (lessened e) ds (Num (pos 0)) (pos 0) → Partnered e ds e.third.term x
alone e ds zeroed x one two left p =
    let g = with_term ds p.numbers e.third.term x left in
    by_numbers e ds zeroed p.numbers g.numbers e.third.term x p.left.0 p.left.1.0 p.sum (subst (λ (y : ℤ). IsInSet (term_set ds e.third.term) y) (sym g.own) left)
    (g.others e.first.term (term_value p.numbers e.first.term) (λ is. absurd (one is)) refl) (g.others e.second.term (term_value p.numbers e.second.term) (λ is. absurd (two is)) refl) g.own

is_term : (s r : Term) → (s ≡ r) ⊎ (s ≡ r → ⊥)
is_term (Num m) (Num n) = elim (same_or_not m n) [ inl e ↦ inl (ap Num e) | inr ne ↦ inr (λ e. ne (ap value_of e)) ]
is_term (Num m) (Var v) = inr (λ e. cc (e))
is_term (Var w) r = elim (is_variable r w) [ inl e ↦ inl (sym e) | inr ne ↦ inr (λ e. ne (sym e)) ]

of_last : (e : Equation) (ds : List (List (ℤ × ℤ))) → e.third.factor ≡ pos 0 → AllPartnered (lessened e) ds → (x : ℤ) → IsInSet (term_set ds e.third.term) x → Partnered e ds e.third.term x
of_last e ds zeroed all x left = elim (is_term e.first.term e.third.term) [
  | inl is ↦ as_another e ds zeroed e.first.term x is left (all 0 (term_set ds e.first.term) e.first.term x refl refl (subst (λ (o : Term). IsInSet (term_set ds o) x) (sym is) left))
  | inr one ↦ elim (is_term e.second.term e.third.term) [
    | inl is ↦ as_another e ds zeroed e.second.term x is left (all 1 (term_set ds e.second.term) e.second.term x refl refl (subst (λ (o : Term). IsInSet (term_set ds o) x) (sym is) left))
    | inr two ↦ alone e ds zeroed x one two left (all 2 (single (pos 0)) (Num (pos 0)) (pos 0) refl refl (in_single (pos 0) (pos 0) refl))
  ]
]

all_regained : (e : Equation) (ds : List (List (ℤ × ℤ))) → e.third.factor ≡ pos 0 → (m : ℤ) → IsInSet (term_set ds e.third.term) m → AllPartnered (lessened e) ds → AllPartnered e ds
all_regained e ds zeroed m left all zero d t x at_d at_t member = regained e ds zeroed m left t x (inl (sym (some_is e.first.term t at_t))) (all 0 d t x at_d at_t member)
all_regained e ds zeroed m left all (suc zero) d t x at_d at_t member = regained e ds zeroed m left t x (inr (sym (some_is e.second.term t at_t))) (all 1 d t x at_d at_t member)
all_regained e ds zeroed m left all (suc (suc zero)) d t x at_d at_t member =
    subst (λ (o : Term). Partnered e ds o x) (some_is e.third.term t at_t) (of_last e ds zeroed all x (subst (λ (f : List (ℤ × ℤ)). IsInSet f x) (sym (some_is (term_set ds e.third.term) d at_d)) member))
all_regained e ds zeroed m left all (suc (suc (suc i))) d t x at_d at_t member = absurd (cc (at_t))

-- ---- lines

few_with_one : (m n : ℕ) → 0 < n → (m * n) ≤ FEW_PAIRS → (m * set_size (single (pos 0))) ≤ FEW_PAIRS
few_with_one m n some h =
    let less : m * 1 ≤ m * n = mul-le m 1 m n (omega arith) (omega (arith, some)) in
    let low : m * 1 ≤ FEW_PAIRS = omega (arith, less, h) in
    subst (λ (k : ℕ). m * k ≤ FEW_PAIRS) (sym (size_of_one (pos 0))) low

few_lessened : (d f g : List (ℤ × ℤ)) → 0 < set_size g → HaveFewPairs (d ∷ f ∷ g ∷ []) → HaveFewPairs (d ∷ f ∷ single (pos 0) ∷ [])
few_lessened d f g some (inl h) = inl h
few_lessened d f g some (inr (inl h)) = inr (inl (few_with_one (set_size d) (set_size g) some h))
few_lessened d f g some (inr (inr h)) = inr (inr (few_with_one (set_size f) (set_size g) some h))

-- a number is left of each term of a store
some_number : (ds : List (List (ℤ × ℤ))) (t : Term) → AreDomains ds → IsTermOf (length ds) t → (m : ℤ) × IsInSet (term_set ds t) m × (0 < set_size (term_set ds t))
some_number ds (Num n) domains inside = (n, in_single n n refl, rw (size_of_one n) (omega arith))
some_number ds (Var v) domains inside =
    let here = domains v inside in
    let d = dom_at ds v in
    (least d, (least_member d here.1 here.0.0).0, some_size d here.1)

-- a line where a number is left of each of three terms
abbrev pub AsLeft : Equation → List (List (ℤ × ℤ)) → Type 0
AsLeft e ds = AreDomains ds → AllByRecursion (IsTermOf (length ds)) (terms_of e) → EquationLine e ds

pub lessened_line : (e f : Equation) (ds : List (List (ℤ × ℤ))) → IsLessened e f → AreDomains ds → IsTermOf (length ds) e.third.term → EquationLine f ds → EquationLine e ds
lessened_line e f ds (inl is) domains inside h = subst (λ (g : Equation). EquationLine g ds) is h
lessened_line e f ds (inr both) domains inside h =
    let some = some_number ds e.third.term domains inside in
    let line : EquationLine (lessened e) ds = subst (λ (g : Equation). EquationLine g ds) both.1 h in
    line_by e ds (λ few. all_regained e ds both.0 some.0 some.1 (line.partners (few_lessened (term_set ds e.first.term) (term_set ds e.second.term) (term_set ds e.third.term) some.2 few)))

pub lessened_truth : (e f : Equation) (a : List ℤ) → IsLessened e f → (EquationTruth f a → EquationTruth e a) × (EquationTruth e a → EquationTruth f a)
lessened_truth e f a (inl is) = subst (λ (g : Equation). (EquationTruth g a → EquationTruth e a) × (EquationTruth e a → EquationTruth g a)) (sym is) (λ h. h, λ h. h)
lessened_truth e f a (inr both) =
    let x = e.first.factor *ℤ term_value a e.first.term in
    let y = e.second.factor *ℤ term_value a e.second.term in
    let z = term_value a e.third.term in
    let there : EquationTruth (lessened e) a → EquationTruth e a = λ h. rw both.0 (sum_with x y z e.number h) in
    let back : EquationTruth e a → EquationTruth (lessened e) a = λ h. sum_without x y z e.number (rw both.0 at h) in
    subst (λ (g : Equation). (EquationTruth g a → EquationTruth e a) × (EquationTruth e a → EquationTruth g a)) (sym both.1) (there, back)

still_inside : (e f : Equation) (n : ℕ) → IsLessened e f → AllByRecursion (IsTermOf n) (terms_of e) → AllByRecursion (IsTermOf n) (terms_of f)
still_inside e f n (inl is) inside = subst (λ (g : Equation). AllByRecursion (IsTermOf n) (terms_of g)) (sym is) inside
still_inside e f n (inr both) inside = subst (λ (g : Equation). AllByRecursion (IsTermOf n) (terms_of g)) (sym both.1) (inside.0, (inside.1.0, (tt, tt)))

-- ---- all three

turned_inside : (e : Equation) (n : ℕ) → AllByRecursion (IsTermOf n) (terms_of e) → AllByRecursion (IsTermOf n) (terms_of (first_last e))
turned_inside e n inside = (inside.1.1.0, (inside.1.0, (inside.0, tt)))

counting_line : (e f : Equation) (ds : List (List (ℤ × ℤ))) → IsCounting e f → AreDomains ds → AllByRecursion (IsTermOf (length ds)) (terms_of e) → EquationLine f ds → EquationLine e ds
counting_line e f ds by domains inside h =
    let less = still_inside e by.less (length ds) by.third inside in
    let fewer = still_inside (first_last by.less) by.fewer (length ds) by.first (turned_inside by.less (length ds) less) in
    let third = lessened_line (second_last by.fewer) f ds by.second domains fewer.1.0 h in
    let second = lessened_line (first_last by.less) by.fewer ds by.first domains less.0 ((second_same by.fewer).line ds third) in
    lessened_line e by.less ds by.third domains inside.1.1.0 ((first_same by.less).line ds second)

pub counting_same : (e f : Equation) → IsCounting e f → IsSame (EquationTruth f) (EquationTruth e) (EquationLine f) (AsLeft e)
counting_same e f by = record {
  truth = λ a.
      let one = lessened_truth e by.less a by.third in
      let two = lessened_truth (first_last by.less) by.fewer a by.first in
      let three = lessened_truth (second_last by.fewer) f a by.second in
      let turn = (first_same by.less).truth a in
      let swap = (second_same by.fewer).truth a in
      (λ h. one.0 (turn.0 (two.0 (swap.0 (three.0 h)))), λ h. three.1 (swap.1 (two.1 (turn.1 (one.1 h)))));
  line = λ ds h domains inside. counting_line e f ds by domains inside h;
}

-- what a run says where a number is left of each term
pub left_answer : (answer : Answer) (e : Equation) (ds es : List (List (ℤ × ℤ))) → AreDomains es → length es ≡ length ds → AllByRecursion (IsTermOf (length ds)) (terms_of e)
    → IsAnswerOf answer (EquationTruth e) (AsLeft e) ds es → IsAnswerOf answer (EquationTruth e) (EquationLine e) ds es
left_answer Fix e ds es domains size inside h = h domains (subst (λ (n : ℕ). AllByRecursion (IsTermOf n) (terms_of e)) (sym size) inside)
left_answer NoFix e ds es domains size inside h = h
left_answer Subsumed e ds es domains size inside h = (h.0, λ fs given narrower. h.1 fs given narrower given (subst (λ (n : ℕ). AllByRecursion (IsTermOf n) (terms_of e)) (sym (narrower.size ∙ size)) inside))
left_answer Failed e ds es domains size inside h = h
