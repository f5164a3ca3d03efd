-- What an operation makes of a variable that stands twice.
use Rattle.std.proofs.Common.{◌≡◌, ◌≢◌, ◌↔◌, inl, inr, ℕ, zero, suc, ◌<◌, ◌≤◌, ℤ, pos, negsuc, ◌*ℤ◌, int_div, int_rem, unsigned_abs, List, [], ◌∷◌, ◌∙◌, sym, ap, refl, arith, length, get_or, false}
use Rattle.std.proofs.lemmas.Int.{ints, quot-rem, rem_below}
use Rattle.std.proofs.Math.Nat.{div_self}
use Rattle.std.specs.Prelude.{Option, Some, None}
use Rattle.fz_sets.specs.Sets.{AreOneSet, IsInSet}
use Rattle.fz_spec.specs.declared.term.Term.{Term}
use Rattle.fz_spec.specs.declared.term.Term.TheVariants.{Num, Var}
use Rattle.fz_spec.specs.Constraints.{term_value, term_values}
use Rattle.fz_spec.specs.Instance.{Variable}
use Rattle.fz_spec.specs.Truth.{weighted_sum, IsGreatestOf, IsLeastOf, SomeByRecursion, remainder}
use Rattle.fz_spec.specs.declared.shape.Operation.TheVariants.{Plus, Times, Quotient, Remainder, Min, Max}
use Rattle.fz_spec.specs.declared.shape.Relation.TheVariants.{Equal, AtMost}
use Rattle.fz_strength.specs.Operations.{equation}
use Rattle.fz_strength.specs.Sayings.{Saying, Compare, Equals, Member, Sum, truth_of}
use Rattle.fz_strength.specs.Sums.{left_factors, left_terms, right_number}
use Rattle.fz_says.specs.Fits.{FitsSum, IsFit, IsKnown}
use Rattle.fz_plain.specs.declared.plain.Plain.{Plain}
use Rattle.fz_plain.specs.Plain.{AreLarge, HasPlainer, IsDivision, IsPlainForm, IsNeverSame, IsPlainest, IsTwice, plain_said, told_by}
use Rattle.fz_plain.proofs.Plainness.{never_plain, never_twice, number_known}

-- two sayings that say the same
pub same_form : (r s t : Saying) → ((a : List ℤ) → truth_of r a ↔ truth_of s a) → ((vs : List Variable) → IsFit vs r → IsFit vs s) → (IsDivision s → ⊥) → HasPlainer r → IsPlainForm s t → IsPlainForm r t
same_form r s t same fits whole has is = record {
  form = record {
    follows = λ a h. is.form.follows a ((same a).0 h);
    same = λ other a h. (same a).1 (is.form.same whole a h);
    fits = λ vs fit. is.form.fits vs (fits vs fit);
  };
  plainer = has;
  plain = is.plain;
}

-- ---- a sum of two

plus_same : (x y z : Term) (a : List ℤ) → truth_of (Equals (equation Plus (x ∷ y ∷ []) z)) a ↔ (weighted_sum (left_factors (pos 1 ∷ pos 1 ∷ []) z) (term_values a (left_terms (x ∷ y ∷ []) z)) ≡ right_number z)
plus_same x y (Num n) a = ((λ h. omega (arith, ints, h)), (λ h. omega (arith, ints, h)))
plus_same x y (Var v) a = ((λ h. omega (arith, ints, h)), (λ h. omega (arith, ints, h)))

pub plus_fits : (x y z : Term) → FitsSum (Sum Equal (left_factors (pos 1 ∷ pos 1 ∷ []) z) (left_terms (x ∷ y ∷ []) z) (right_number z))
plus_fits x y (Num n) = ((λ same. absurd (cc same)), refl, omega arith)
plus_fits x y (Var v) = ((λ same. absurd (cc same)), refl, omega arith)

plus_known : (x y z : Term) (vs : List Variable) → IsFit vs (Equals (equation Plus (x ∷ y ∷ []) z)) → IsFit vs (Sum Equal (left_factors (pos 1 ∷ pos 1 ∷ []) z) (left_terms (x ∷ y ∷ []) z) (right_number z))
plus_known x y (Num n) vs fit = record { terms = fit.terms.1; truths = tt; sum = plus_fits x y (Num n) }
plus_known x y (Var v) vs fit = record { terms = fit.terms; truths = tt; sum = plus_fits x y (Var v) }

plus_small : (z : Term) → AreLarge (left_factors (pos 1 ∷ pos 1 ∷ []) z) → ⊥
plus_small (Num n) large = omega (arith, large)
plus_small (Var v) large = omega (arith, large)

pub plus_plainest : (x y z : Term) (o : Option Plain) → IsPlainest (Sum Equal (left_factors (pos 1 ∷ pos 1 ∷ []) z) (left_terms (x ∷ y ∷ []) z) (right_number z)) o → IsPlainest (Equals (equation Plus (x ∷ y ∷ []) z)) o
plus_plainest x y z None is = λ has. absurd (plus_small z (is has))
plus_plainest x y z (Some p) is =
    same_form (Equals (equation Plus (x ∷ y ∷ []) z)) (Sum Equal (left_factors (pos 1 ∷ pos 1 ∷ []) z) (left_terms (x ∷ y ∷ []) z) (right_number z)) (plain_said p) (plus_same x y z) (plus_known x y z) (λ h. h) is.plainer is

-- ---- a number that is its own square

square_up : (n : ℕ) → (pos (suc (suc n)) *ℤ pos (suc (suc n))) ≡ pos (suc (suc n)) → ⊥
square_up n same = grind (arith, ints, same)

small_square : (x : ℤ) → (x *ℤ x) ≡ x → IsInSet ((pos 0, pos 1) ∷ []) x
small_square (pos zero) same = inl (omega (arith, ints), omega (arith, ints))
small_square (pos (suc zero)) same = inl (omega (arith, ints), omega (arith, ints))
small_square (pos (suc (suc n))) same = absurd (square_up n same)
small_square (negsuc n) same = absurd (grind (arith, ints, same))

square_small : (x : ℤ) → IsInSet ((pos 0, pos 1) ∷ []) x → (x *ℤ x) ≡ x
square_small (pos zero) h = refl
square_small (pos (suc zero)) h = refl
square_small (pos (suc (suc n))) (inl h) = let high = h.1 in absurd (omega (arith, ints, high))
square_small (pos (suc (suc n))) (inr none) = absurd none
square_small (negsuc n) (inl h) = let low = h.0 in absurd (omega (arith, ints, low))
square_small (negsuc n) (inr none) = absurd none

same_value : (a : List ℤ) (x y : Term) → IsTwice x y → term_value a y ≡ term_value a x
same_value a x y two = ap (term_value a) (two.2 ∙ sym two.1)

pub times_plain : (x y z : Term) (set : List (ℤ × ℤ)) → IsTwice x y → IsTwice x z → AreOneSet set ((pos 0, pos 1) ∷ []) → IsPlainForm (Equals (equation Times (x ∷ y ∷ []) z)) (Member x set)
times_plain x y z set first second one = record {
  form = record {
    follows = λ a h. (one (term_value a x)).1 (small_square (term_value a x) (rw (same_value a x y first, same_value a x z second) at h));
    same = λ other a h. rw (same_value a x y first, same_value a x z second) (square_small (term_value a x) ((one (term_value a x)).0 h));
    fits = λ vs fit. record { terms = (fit.terms.1.0, tt); truths = tt; sum = tt };
  };
  plainer = (first, second);
  plain = λ h. h;
}

-- ---- a number divided by itself

self_quotient : (x : ℤ) → x ≢ pos 0 → int_div x x ≡ pos 1
self_quotient (pos zero) some = absurd (some refl)
self_quotient (pos (suc n)) some = ap pos (div_self (omega arith))
self_quotient (negsuc n) some = ap pos (div_self (omega arith))

pub quotient_plain : (x y z : Term) → IsTwice x y → IsPlainForm (Equals (equation Quotient (x ∷ y ∷ []) z)) (Compare Equal z (Num (pos 1)))
quotient_plain x y z two = record {
  form = record {
    follows = λ a h.
        let same = same_value a x y two in
        let some : term_value a x ≢ pos 0 = rw same at h.0 in
        let is : int_div (term_value a x) (term_value a x) ≡ term_value a z = rw same at h.1 in
        sym is ∙ self_quotient (term_value a x) some;
    same = λ other a h. absurd (other (inl refl));
    fits = λ vs fit. record { terms = (fit.terms.0, (number_known vs, tt)); truths = tt; sum = tt };
  };
  plainer = two;
  plain = λ has. never_twice z (pos 1) has.0;
}

some_size : (y : ℤ) → y ≢ pos 0 → 0 < unsigned_abs y
some_size (pos zero) some = absurd (some refl)
some_size (pos (suc n)) some = omega arith
some_size (negsuc n) some = omega arith

rest_is : (x y : ℤ) → remainder x y ≡ int_rem x y
rest_is x y = let whole = quot-rem x y in omega (arith, ints, whole)

never_rest : (x y : ℤ) → y ≢ pos 0 → remainder x y ≡ y → ⊥
never_rest x y some is =
    let below = rem_below x y (some_size y some) in
    let same : int_rem x y ≡ y = sym (rest_is x y) ∙ is in
    let both : unsigned_abs y < unsigned_abs y = rw same at below in
    omega (arith, both)

zero_known : (vs : List Variable) → IsKnown vs (Num (pos 0))
zero_known vs = ((omega (arith, ints), omega (arith, ints)), tt)

pub remainder_never : (x y z : Term) → IsTwice y z → IsPlainForm (Equals (equation Remainder (x ∷ y ∷ []) z)) (told_by false (Num (pos 1)))
remainder_never x y z two = never_plain (Equals (equation Remainder (x ∷ y ∷ []) z)) (inl two) (λ a h.
    let is : remainder (term_value a x) (term_value a y) ≡ term_value a y = h.1 ∙ same_value a y z two in
    never_rest (term_value a x) (term_value a y) h.0 is)

self_rest : (x : ℤ) → x ≢ pos 0 → remainder x x ≡ pos 0
self_rest x some = let one = self_quotient x some in rw one (omega (arith, ints))

pub remainder_plain : (x y z : Term) → IsTwice x y → IsPlainForm (Equals (equation Remainder (x ∷ y ∷ []) z)) (Compare Equal z (Num (pos 0)))
remainder_plain x y z two = record {
  form = record {
    follows = λ a h.
        let same = same_value a x y two in
        let some : term_value a x ≢ pos 0 = rw same at h.0 in
        let is : remainder (term_value a x) (term_value a x) ≡ term_value a z = rw same at h.1 in
        sym is ∙ self_rest (term_value a x) some;
    same = λ other a h. absurd (other (inr refl));
    fits = λ vs fit. record { terms = (fit.terms.0, (zero_known vs, tt)); truths = tt; sum = tt };
  };
  plainer = inr two;
  plain = λ has. never_twice z (pos 0) has.0;
}

-- ---- the greatest and the least of two

some_same : (x z : ℤ) → SomeByRecursion (λ (u : ℤ). u ≡ z) (x ∷ x ∷ []) → x ≡ z
some_same x z (inl e) = e
some_same x z (inr (inl e)) = e
some_same x z (inr (inr none)) = absurd none

greatest_same : (x z : ℤ) → IsGreatestOf z (x ∷ x ∷ []) ↔ (x ≡ z)
greatest_same x z = ((λ h. some_same x z h.0), (λ e. (inl e, (omega (arith, ints, e), (omega (arith, ints, e), tt)))))

least_same : (x z : ℤ) → IsLeastOf z (x ∷ x ∷ []) ↔ (x ≡ z)
least_same x z = ((λ h. some_same x z h.0), (λ e. (inl e, (omega (arith, ints, e), (omega (arith, ints, e), tt)))))

never_equal : IsNeverSame Equal → ⊥
never_equal never = never (pos 0) refl

never_at_most : IsNeverSame AtMost → ⊥
never_at_most never = never (pos 0) (omega (arith, ints))

pub greatest_twice : (x y z : Term) → IsTwice x y → IsPlainForm (Equals (equation Max (x ∷ y ∷ []) z)) (Compare Equal x z)
greatest_twice x y z two = record {
  form = record {
    follows = λ a h. (greatest_same (term_value a x) (term_value a z)).0 (rw (same_value a x y two) at h);
    same = λ other a h. rw (same_value a x y two) ((greatest_same (term_value a x) (term_value a z)).1 h);
    fits = λ vs fit. record { terms = (fit.terms.1.0, (fit.terms.0, tt)); truths = tt; sum = tt };
  };
  plainer = inl two;
  plain = λ has. never_equal has.1;
}

pub least_twice : (x y z : Term) → IsTwice x y → IsPlainForm (Equals (equation Min (x ∷ y ∷ []) z)) (Compare Equal x z)
least_twice x y z two = record {
  form = record {
    follows = λ a h. (least_same (term_value a x) (term_value a z)).0 (rw (same_value a x y two) at h);
    same = λ other a h. rw (same_value a x y two) ((least_same (term_value a x) (term_value a z)).1 h);
    fits = λ vs fit. record { terms = (fit.terms.1.0, (fit.terms.0, tt)); truths = tt; sum = tt };
  };
  plainer = inl two;
  plain = λ has. never_equal has.1;
}

pub greatest_first : (x y z : Term) → IsTwice x z → IsPlainForm (Equals (equation Max (x ∷ y ∷ []) z)) (Compare AtMost y x)
greatest_first x y z two = record {
  form = record {
    follows = λ a h. (rw (same_value a x z two) at h).1.1.0;
    same = λ other a h. rw (same_value a x z two) (inl refl, (omega (arith, ints), (h, tt)));
    fits = λ vs fit. record { terms = (fit.terms.1.1.0, (fit.terms.1.0, tt)); truths = tt; sum = tt };
  };
  plainer = inr (inl two);
  plain = λ has. never_at_most has.1;
}

pub greatest_second : (x y z : Term) → IsTwice y z → IsPlainForm (Equals (equation Max (x ∷ y ∷ []) z)) (Compare AtMost x y)
greatest_second x y z two = record {
  form = record {
    follows = λ a h. (rw (same_value a y z two) at h).1.0;
    same = λ other a h. rw (same_value a y z two) (inr (inl refl), (h, (omega (arith, ints), tt)));
    fits = λ vs fit. record { terms = (fit.terms.1.0, (fit.terms.1.1.0, tt)); truths = tt; sum = tt };
  };
  plainer = inr (inr two);
  plain = λ has. never_at_most has.1;
}

pub least_first : (x y z : Term) → IsTwice x z → IsPlainForm (Equals (equation Min (x ∷ y ∷ []) z)) (Compare AtMost x y)
least_first x y z two = record {
  form = record {
    follows = λ a h. (rw (same_value a x z two) at h).1.1.0;
    same = λ other a h. rw (same_value a x z two) (inl refl, (omega (arith, ints), (h, tt)));
    fits = λ vs fit. record { terms = (fit.terms.1.0, (fit.terms.1.1.0, tt)); truths = tt; sum = tt };
  };
  plainer = inr (inl two);
  plain = λ has. never_at_most has.1;
}

pub least_second : (x y z : Term) → IsTwice y z → IsPlainForm (Equals (equation Min (x ∷ y ∷ []) z)) (Compare AtMost y x)
least_second x y z two = record {
  form = record {
    follows = λ a h. (rw (same_value a y z two) at h).1.0;
    same = λ other a h. rw (same_value a y z two) (inr (inl refl), (h, (omega (arith, ints), tt)));
    fits = λ vs fit. record { terms = (fit.terms.1.1.0, (fit.terms.1.0, tt)); truths = tt; sum = tt };
  };
  plainer = inr (inr two);
  plain = λ has. never_at_most has.1;
}

-- a list of two
pub pair_of : (ts : List Term) → 2 ≤ length ts → length ts < 3 → ts ≡ get_or ts 0 (Num (pos 0)) ∷ get_or ts 1 (Num (pos 0)) ∷ []
pair_of [] least most = absurd (omega (arith, least))
pair_of (x ∷ []) least most = absurd (omega (arith, least))
pair_of (x ∷ y ∷ []) least most = refl
pair_of (x ∷ y ∷ z ∷ ts) least most = absurd (omega (arith, most))
