-- Equations whose terms stand in another order, and those of two terms.
use Rattle.std.proofs.Common.{◌≡◌, zero, suc, List, [], ◌∷◌, inl, inr, sym, ap, subst, arith, pos}
use Rattle.std.specs.Prelude.{ℤ, ◌+ℤ◌, ◌*ℤ◌}
use Rattle.std.proofs.lemmas.Int.{ints}
use Rattle.fz_sets.specs.Sets.{single}
use Rattle.fz_spec.specs.declared.term.Term.{Term}
use Rattle.fz_spec.specs.Constraints.{term_value, term_values}
use Rattle.fz_spec.specs.Truth.{weighted_sum}
use Rattle.fz_strength.specs.Domains.{term_set}
use Rattle.fz_strength.specs.Equations.{HasPartners, HaveFewPairs, RestsByNumbers, sets_of}
use Rattle.std.specs.Prelude.{Result}
use Rattle.std.proofs.lemmas.Result.{IfOk-weaker}
use Rattle.fz_prop.proofs.Answering.{IsSame, same_answer}
use Rattle.fz_prop.specs.declared.answer.Answer.{Answer}
use Rattle.fz_prop.specs.Answers.{IsAnswerOf, Narrows}
use Rattle.fz_prop.specs.Stores.{Stored}
use Rattle.fz_partners.specs.declared.equation.Equation.{Equation}
use Rattle.fz_partners.specs.declared.equation.Product.{Product}
use Rattle.fz_partners.specs.Equations.{EquationLine, EquationTruth, IsTurned, factors_of, first_last, second_last, terms_of, with_nothing}
use Rattle.fz_partners.proofs.Partners.{AllPartnered, line_by}

-- ---- sums

turned_sum : (x y z c : ℤ) → (x +ℤ (y +ℤ (z +ℤ pos 0))) ≡ c → (z +ℤ (y +ℤ (x +ℤ pos 0))) ≡ c
turned_sum x y z c is = omega (arith, ints, is)

swapped_sum : (x y z c : ℤ) → (x +ℤ (y +ℤ (z +ℤ pos 0))) ≡ c → (x +ℤ (z +ℤ (y +ℤ pos 0))) ≡ c
swapped_sum x y z c is = omega (arith, ints, is)

few_turned : (d f g : List (ℤ × ℤ)) → HaveFewPairs (d ∷ f ∷ g ∷ []) → HaveFewPairs (g ∷ f ∷ d ∷ [])
few_turned d f g (inl h) = inr (inr (omega (arith, h)))
few_turned d f g (inr (inl h)) = inr (inl (omega (arith, h)))
few_turned d f g (inr (inr h)) = inl (omega (arith, h))

few_swapped : (d f g : List (ℤ × ℤ)) → HaveFewPairs (d ∷ f ∷ g ∷ []) → HaveFewPairs (d ∷ g ∷ f ∷ [])
few_swapped d f g (inl h) = inr (inl h)
few_swapped d f g (inr (inl h)) = inl h
few_swapped d f g (inr (inr h)) = inr (inr (omega (arith, h)))

-- ---- the first term last

first_back : (e : Equation) (ds : List (List (ℤ × ℤ))) (t : Term) (x : ℤ) → HasPartners (sets_of ds (terms_of (first_last e))) (factors_of (first_last e)) (terms_of (first_last e)) e.number t x
    → HasPartners (sets_of ds (terms_of e)) (factors_of e) (terms_of e) e.number t x
first_back e ds t x p = record {
  numbers = p.numbers;
  left = (p.left.1.1.0, (p.left.1.0, (p.left.0, tt)));
  own = p.own;
  sum = turned_sum (e.third.factor *ℤ term_value p.numbers e.third.term) (e.second.factor *ℤ term_value p.numbers e.second.term) (e.first.factor *ℤ term_value p.numbers e.first.term) e.number p.sum;
}

first_partners : (e : Equation) (ds : List (List (ℤ × ℤ))) → AllPartnered (first_last e) ds → AllPartnered e ds
first_partners e ds all zero d t x at_d at_t member = first_back e ds t x (all 2 d t x at_d at_t member)
first_partners e ds all (suc zero) d t x at_d at_t member = first_back e ds t x (all 1 d t x at_d at_t member)
first_partners e ds all (suc (suc zero)) d t x at_d at_t member = first_back e ds t x (all 0 d t x at_d at_t member)
first_partners e ds all (suc (suc (suc i))) d t x at_d at_t member = absurd (cc (at_t))

pub first_same : (e : Equation) → IsSame (EquationTruth (first_last e)) (EquationTruth e) (EquationLine (first_last e)) (EquationLine e)
first_same e = record {
  truth = λ a. (
    turned_sum (e.third.factor *ℤ term_value a e.third.term) (e.second.factor *ℤ term_value a e.second.term) (e.first.factor *ℤ term_value a e.first.term) e.number,
    turned_sum (e.first.factor *ℤ term_value a e.first.term) (e.second.factor *ℤ term_value a e.second.term) (e.third.factor *ℤ term_value a e.third.term) e.number,
  );
  line = λ ds h. line_by e ds (λ few. first_partners e ds (h.partners (few_turned (term_set ds e.first.term) (term_set ds e.second.term) (term_set ds e.third.term) few)));
}

-- ---- the second term last

second_back : (e : Equation) (ds : List (List (ℤ × ℤ))) (t : Term) (x : ℤ) → HasPartners (sets_of ds (terms_of (second_last e))) (factors_of (second_last e)) (terms_of (second_last e)) e.number t x
    → HasPartners (sets_of ds (terms_of e)) (factors_of e) (terms_of e) e.number t x
second_back e ds t x p = record {
  numbers = p.numbers;
  left = (p.left.0, (p.left.1.1.0, (p.left.1.0, tt)));
  own = p.own;
  sum = swapped_sum (e.first.factor *ℤ term_value p.numbers e.first.term) (e.third.factor *ℤ term_value p.numbers e.third.term) (e.second.factor *ℤ term_value p.numbers e.second.term) e.number p.sum;
}

second_partners : (e : Equation) (ds : List (List (ℤ × ℤ))) → AllPartnered (second_last e) ds → AllPartnered e ds
second_partners e ds all zero d t x at_d at_t member = second_back e ds t x (all 0 d t x at_d at_t member)
second_partners e ds all (suc zero) d t x at_d at_t member = second_back e ds t x (all 2 d t x at_d at_t member)
second_partners e ds all (suc (suc zero)) d t x at_d at_t member = second_back e ds t x (all 1 d t x at_d at_t member)
second_partners e ds all (suc (suc (suc i))) d t x at_d at_t member = absurd (cc (at_t))

pub second_same : (e : Equation) → IsSame (EquationTruth (second_last e)) (EquationTruth e) (EquationLine (second_last e)) (EquationLine e)
second_same e = record {
  truth = λ a. (
    swapped_sum (e.first.factor *ℤ term_value a e.first.term) (e.third.factor *ℤ term_value a e.third.term) (e.second.factor *ℤ term_value a e.second.term) e.number,
    swapped_sum (e.first.factor *ℤ term_value a e.first.term) (e.second.factor *ℤ term_value a e.second.term) (e.third.factor *ℤ term_value a e.third.term) e.number,
  );
  line = λ ds h. line_by e ds (λ few. second_partners e ds (h.partners (few_swapped (term_set ds e.first.term) (term_set ds e.second.term) (term_set ds e.third.term) few)));
}

pub turned_same : (e f : Equation) → IsTurned e f → IsSame (EquationTruth f) (EquationTruth e) (EquationLine f) (EquationLine e)
turned_same e f (inl is) = subst (λ (g : Equation). IsSame (EquationTruth g) (EquationTruth e) (EquationLine g) (EquationLine e)) (sym is) (record { truth = λ a. (λ h. h, λ h. h); line = λ ds h. h })
turned_same e f (inr (inl is)) = subst (λ (g : Equation). IsSame (EquationTruth g) (EquationTruth e) (EquationLine g) (EquationLine e)) (sym is) (first_same e)
turned_same e f (inr (inr is)) = subst (λ (g : Equation). IsSame (EquationTruth g) (EquationTruth e) (EquationLine g) (EquationLine e)) (sym is) (second_same e)

-- ---- two terms

abbrev pub TwoLine : Product → Product → ℤ → List (List (ℤ × ℤ)) → Type 0
TwoLine p q c ds = RestsByNumbers (sets_of ds (p.term ∷ q.term ∷ [])) (p.factor ∷ q.factor ∷ []) (p.term ∷ q.term ∷ []) c

abbrev pub TwoTruth : Product → Product → ℤ → List ℤ → Type 0
TwoTruth p q c a = weighted_sum (p.factor ∷ q.factor ∷ []) (term_values a (p.term ∷ q.term ∷ [])) ≡ c

less_nothing : (x c : ℤ) → ((pos 1 *ℤ pos 0) +ℤ x) ≡ c → x ≡ c
less_nothing x c is = omega (arith, ints, is)

and_nothing : (x c : ℤ) → x ≡ c → ((pos 1 *ℤ pos 0) +ℤ x) ≡ c
and_nothing x c is = omega (arith, ints, is)

few_of_two : (d f : List (ℤ × ℤ)) → HaveFewPairs (d ∷ f ∷ []) → HaveFewPairs (single (pos 0) ∷ d ∷ f ∷ [])
few_of_two d f (inl h) = inl (omega (arith, h))
few_of_two d f (inr h) = inr (inl (omega (arith, h)))

pub two_same : (p q : Product) (c : ℤ) → IsSame (EquationTruth (with_nothing p q c)) (TwoTruth p q c) (EquationLine (with_nothing p q c)) (TwoLine p q c)
two_same p q c = record {
  truth = λ a. (less_nothing (weighted_sum (p.factor ∷ q.factor ∷ []) (term_values a (p.term ∷ q.term ∷ []))) c, and_nothing (weighted_sum (p.factor ∷ q.factor ∷ []) (term_values a (p.term ∷ q.term ∷ []))) c);
  line = λ ds h. record {
    partners = λ few i d t x at_d at_t member.
        let o = h.partners (few_of_two (term_set ds p.term) (term_set ds q.term) few) (suc i) d t x at_d at_t member in
        record { numbers = o.numbers; left = o.left.1; own = o.own; sum = less_nothing (weighted_sum (p.factor ∷ q.factor ∷ []) (term_values o.numbers (p.term ∷ q.term ∷ []))) c o.sum };
    fixed = λ a is. less_nothing (weighted_sum (p.factor ∷ q.factor ∷ []) (term_values a (p.term ∷ q.term ∷ []))) c (h.fixed a (ap (λ (l : List (List (ℤ × ℤ))). single (pos 0) ∷ l) is));
  };
}

-- ---- runs

pub narrows_same : {E : Type 0} (T U : List ℤ → Type 0) (R Q : List (List (ℤ × ℤ)) → Type 0) (result : Result Answer E) (s t : Stored) → IsSame T U R Q → Narrows T R result s t → Narrows U Q result s t
narrows_same T U R Q result s t same h = record {
  shrinks = h.shrinks;
  correct = λ a holds within. h.correct a ((same.truth a).1 holds) within;
  answer = IfOk-weaker result (λ (r : Answer). IsAnswerOf r T R s.doms t.doms) (λ (r : Answer). IsAnswerOf r U Q s.doms t.doms) (λ r g. same_answer r T U R Q s.doms t.doms same g) h.answer;
}
