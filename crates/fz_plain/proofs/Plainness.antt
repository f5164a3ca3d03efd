-- Plainer forms say the same.
use Rattle.std.proofs.Common.{◌≡◌, ◌↔◌, ◌⊎◌, inl, inr, ℤ, pos, List, [], ◌∙◌, sym, subst, refl, arith, true, false, Bool}
use Rattle.std.proofs.lemmas.Int.{ints}
use Rattle.fz_spec.specs.declared.term.Term.{Term}
use Rattle.fz_spec.specs.declared.term.Term.TheVariants.{Num}
use Rattle.fz_spec.specs.Constraints.{term_value, term_values}
use Rattle.fz_spec.specs.Instance.{Variable}
use Rattle.fz_spec.specs.Truth.{IsReified, weighted_sum, Relates}
use Rattle.fz_spec.specs.declared.shape.Relation.{Relation}
use Rattle.fz_spec.specs.declared.shape.Relation.TheVariants.{Equal, NotEqual, AtMost, Below}
use Rattle.fz_strength.specs.Sayings.{Saying, Compare, CompareIf, Sum, SumIf, truth_of}
use Rattle.fz_says.specs.Fits.{IsFit, IsKnown}
use Rattle.fz_plain.specs.Plain.{AreLarge, HasPlainer, HasTwice, IsDecided, IsGathered, IsNeverSame, IsPlainForm, IsToldByDivisor, IsTwice, SumRelates, plain_said, told_by}
use Rattle.fz_plain.specs.declared.plain.Plain.{Plain}
use Rattle.fz_plain.proofs.Told.{told_decided}

-- ---- what is decided

-- a Boolean that says whether something is true that is decided
told_same : (b : Bool) (T : Type 0) (r : Term) (a : List ℤ) → (b ≡ true → T) → (b ≡ false → T → ⊥) → IsReified T (term_value a r) ↔ truth_of (told_by b r) a
told_same true T r a shows denies = ((λ h. h.1 (shows refl)), (λ one. ((λ is. shows refl), (λ t. one))))
told_same false T r a shows denies = ((λ h one. denies refl (h.0 one)), (λ differ. ((λ one. absurd (differ one)), (λ t. absurd (denies refl t)))))

pub number_known : (vs : List Variable) → IsKnown vs (Num (pos 1))
number_known vs = ((omega (arith, ints), omega (arith, ints)), tt)

told_fits : (vs : List Variable) (b : Bool) (r : Term) → IsKnown vs r → IsFit vs (told_by b r)
told_fits vs true r known = record { terms = (known, (number_known vs, tt)); truths = tt; sum = tt }
told_fits vs false r known = record { terms = (known, (number_known vs, tt)); truths = tt; sum = tt }

decided_yes : (b : Bool) (T : List ℤ → Type 0) (a : List ℤ) → IsDecided b T → b ≡ true → T a
decided_yes true T a h is = h a
decided_yes false T a h is = absurd (cc is)

decided_no : (b : Bool) (T : List ℤ → Type 0) (a : List ℤ) → IsDecided b T → b ≡ false → T a → ⊥
decided_no true T a h is = absurd (cc is)
decided_no false T a h is = h a

-- a number is no variable
pub never_twice : (x : Term) (n : ℤ) → IsTwice x (Num n) → ⊥
never_twice x n two = absurd (cc two.2)

told_plain : (b : Bool) (r : Term) → HasPlainer (told_by b r) → ⊥
told_plain true r has = never_twice r (pos 1) has.0
told_plain false r has = never_twice r (pos 1) has.0

-- what is never true
pub never_plain : (s : Saying) → HasPlainer s → ((a : List ℤ) → truth_of s a → ⊥) → IsPlainForm s (told_by false (Num (pos 1)))
never_plain s has fails = record {
  form = record { follows = λ a t. absurd (fails a t); same = λ other a differ. absurd (differ refl); fits = λ vs fit. told_fits vs false (Num (pos 1)) (number_known vs) };
  plainer = has;
  plain = told_plain false (Num (pos 1));
}

reified_plain : (b : Bool) (T : List ℤ → Type 0) (s : Saying) (r : Term) → ((a : List ℤ) → truth_of s a ↔ IsReified (T a) (term_value a r)) → IsDecided b T → HasPlainer s → ((vs : List Variable) → IsFit vs s → IsKnown vs r) → IsPlainForm s (told_by b r)
reified_plain b T s r reads h has known = record {
  form = record {
    follows = λ a t. (told_same b (T a) r a (decided_yes b T a h) (decided_no b T a h)).0 ((reads a).0 t);
    same = λ other a t. (reads a).1 ((told_same b (T a) r a (decided_yes b T a h) (decided_no b T a h)).1 t);
    fits = λ vs fit. told_fits vs b r (known vs fit);
  };
  plainer = has;
  plain = told_plain b r;
}

-- ---- a relation of a variable to itself

-- A relation holds of all numbers and themselves, or of none.
never_itself : (relation : Relation) → (((m : ℤ) → Relates relation m m) → ⊥) → IsNeverSame relation
never_itself Equal fails = λ n holds. fails (λ m. refl)
never_itself NotEqual fails = λ n holds. holds refl
never_itself AtMost fails = λ n holds. fails (λ m. omega (arith, ints))
never_itself Below fails = λ n holds. omega (arith, ints, holds)

twice_same : (x y : Term) → IsTwice x y → x ≡ y
twice_same x y two = two.1 ∙ sym two.2

related_itself : (relation : Relation) (x y : Term) (a : List ℤ) → IsTwice x y → Relates relation (term_value a x) (term_value a y) → Relates relation (term_value a x) (term_value a x)
related_itself relation x y a two holds = subst (λ (t : Term). Relates relation (term_value a x) (term_value a t)) (sym (twice_same x y two)) holds

itself_decided : (b : Bool) (relation : Relation) (x y : Term) → IsTwice x y → IsDecided b (λ (a : List ℤ). (n : ℤ) → Relates relation n n) → IsDecided b (λ (a : List ℤ). Relates relation (term_value a x) (term_value a y))
itself_decided true relation x y two h = λ a. subst (λ (t : Term). Relates relation (term_value a x) (term_value a t)) (twice_same x y two) (h a (term_value a x))
itself_decided false relation x y two h = λ a holds. never_itself relation (h a) (term_value a x) (related_itself relation x y a two holds)

pub itself_told : (b : Bool) (relation : Relation) (x y r : Term) → IsTwice x y → IsDecided b (λ (a : List ℤ). (n : ℤ) → Relates relation n n) → IsPlainForm (CompareIf relation x y r) (told_by b r)
itself_told b relation x y r two h =
    reified_plain b (λ (a : List ℤ). Relates relation (term_value a x) (term_value a y)) (CompareIf relation x y r) r (λ a. ((λ t. t), (λ t. t))) (itself_decided b relation x y two h) two (λ vs fit. fit.terms.1.1.0)

pub itself_never : (relation : Relation) (x y : Term) → IsTwice x y → IsDecided false (λ (a : List ℤ). (n : ℤ) → Relates relation n n) → IsPlainForm (Compare relation x y) (told_by false (Num (pos 1)))
itself_never relation x y two h =
    let never = never_itself relation (h []) in
    never_plain (Compare relation x y) (two, never) (λ a holds. never (term_value a x) (related_itself relation x y a two holds))

pub itself_always : (relation : Relation) → IsDecided true (λ (a : List ℤ). (n : ℤ) → Relates relation n n) → IsNeverSame relation → ⊥
itself_always relation h never = never (pos 0) (h [] (pos 0))

-- ---- sums

related_sum : (relation : Relation) (ks ls : List ℤ) (ts us : List Term) (c : ℤ) (a : List ℤ) → weighted_sum ls (term_values a us) ≡ weighted_sum ks (term_values a ts)
    → SumRelates relation ks ts c a ↔ SumRelates relation ls us c a
related_sum relation ks ls ts us c a same = ((λ h. subst (λ (s : ℤ). Relates relation s c) (sym same) h), (λ h. subst (λ (s : ℤ). Relates relation s c) same h))

pub sum_never : (relation : Relation) (ks : List ℤ) (ts : List Term) (c : ℤ) → IsToldByDivisor false relation ks c → IsPlainForm (Sum relation ks ts c) (told_by false (Num (pos 1)))
sum_never relation ks ts c told = never_plain (Sum relation ks ts c) (inr told) (told_decided false relation ks ts c told)

pub gathered_never : (relation : Relation) (ks ls : List ℤ) (ts us : List Term) (c : ℤ) → IsGathered ks ts ls us → IsToldByDivisor false relation ls c → IsPlainForm (Sum relation ks ts c) (told_by false (Num (pos 1)))
gathered_never relation ks ls ts us c is told =
    never_plain (Sum relation ks ts c) (inl is.twice) (λ a holds. told_decided false relation ls us c told a ((related_sum relation ks ls ts us c a (is.sum.same a)).0 holds))

untold_sum : (relation : Relation) (ls : List ℤ) (us : List Term) (c : ℤ) → (HasTwice us → ⊥) → (IsToldByDivisor false relation ls c → ⊥) → HasPlainer (Sum relation ls us c) → ⊥
untold_sum relation ls us c once untold (inl two) = once two
untold_sum relation ls us c once untold (inr told) = untold told

pub gathered_plain : (relation : Relation) (ks ls : List ℤ) (ts us : List Term) (c : ℤ) → IsGathered ks ts ls us → (IsToldByDivisor false relation ls c → ⊥) → IsPlainForm (Sum relation ks ts c) (Sum relation ls us c)
gathered_plain relation ks ls ts us c is untold = record {
  form = record {
    follows = λ a h. (related_sum relation ks ls ts us c a (is.sum.same a)).0 h;
    same = λ other a h. (related_sum relation ks ls ts us c a (is.sum.same a)).1 h;
    fits = λ vs fit. record { terms = is.sum.known vs fit.terms; truths = tt; sum = (fit.sum.0, is.sum.size, let f = is.sum.few in let g = fit.sum.2 in omega (arith, f, g)) };
  };
  plainer = inl is.twice;
  plain = untold_sum relation ls us c is.once untold;
}

pub sum_told : (b : Bool) (relation : Relation) (ks : List ℤ) (ts : List Term) (c : ℤ) (r : Term) → IsToldByDivisor b relation ks c → IsPlainForm (SumIf relation ks ts c r) (told_by b r)
sum_told b relation ks ts c r told =
    reified_plain b (SumRelates relation ks ts c) (SumIf relation ks ts c r) r (λ a. ((λ t. t), (λ t. t))) (told_decided b relation ks ts c told) (inr (b, told)) (λ vs fit. fit.terms.0)

related_decided : (b : Bool) (relation : Relation) (ks ls : List ℤ) (ts us : List Term) (c : ℤ) → IsGathered ks ts ls us → IsDecided b (SumRelates relation ls us c) → IsDecided b (SumRelates relation ks ts c)
related_decided true relation ks ls ts us c is h = λ a. (related_sum relation ks ls ts us c a (is.sum.same a)).1 (h a)
related_decided false relation ks ls ts us c is h = λ a holds. h a ((related_sum relation ks ls ts us c a (is.sum.same a)).0 holds)

pub gathered_told : (b : Bool) (relation : Relation) (ks ls : List ℤ) (ts us : List Term) (c : ℤ) (r : Term) → IsGathered ks ts ls us → IsToldByDivisor b relation ls c → IsPlainForm (SumIf relation ks ts c r) (told_by b r)
gathered_told b relation ks ls ts us c r is told =
    reified_plain b (SumRelates relation ks ts c) (SumIf relation ks ts c r) r (λ a. ((λ t. t), (λ t. t))) (related_decided b relation ks ls ts us c is (told_decided b relation ls us c told)) (inl is.twice) (λ vs fit. fit.terms.0)

reified_sum : (relation : Relation) (ks ls : List ℤ) (ts us : List Term) (c v : ℤ) (a : List ℤ) → weighted_sum ls (term_values a us) ≡ weighted_sum ks (term_values a ts)
    → IsReified (SumRelates relation ks ts c a) v ↔ IsReified (SumRelates relation ls us c a) v
reified_sum relation ks ls ts us c v a same =
    ((λ h. subst (λ (s : ℤ). IsReified (Relates relation s c) v) (sym same) h), (λ h. subst (λ (s : ℤ). IsReified (Relates relation s c) v) same h))

untold_if : (relation : Relation) (ls : List ℤ) (us : List Term) (c : ℤ) (r : Term) → (HasTwice us → ⊥) → ((b : Bool) → IsToldByDivisor b relation ls c → ⊥) → HasPlainer (SumIf relation ls us c r) → ⊥
untold_if relation ls us c r once untold (inl two) = once two
untold_if relation ls us c r once untold (inr told) = untold told.0 told.1

pub gathered_if : (relation : Relation) (ks ls : List ℤ) (ts us : List Term) (c : ℤ) (r : Term) → IsGathered ks ts ls us → ((b : Bool) → IsToldByDivisor b relation ls c → ⊥) → IsPlainForm (SumIf relation ks ts c r) (SumIf relation ls us c r)
gathered_if relation ks ls ts us c r is untold = record {
  form = record {
    follows = λ a h. (reified_sum relation ks ls ts us c (term_value a r) a (is.sum.same a)).0 h;
    same = λ other a h. (reified_sum relation ks ls ts us c (term_value a r) a (is.sum.same a)).1 h;
    fits = λ vs fit. record { terms = (fit.terms.0, is.sum.known vs fit.terms.1); truths = fit.truths; sum = (fit.sum.0, is.sum.size, let f = is.sum.few in let g = fit.sum.2 in omega (arith, f, g)) };
  };
  plainer = inl is.twice;
  plain = untold_if relation ls us c r is.once untold;
}

pub gathered_either : (relation : Relation) (ks ls : List ℤ) (ts us : List Term) (c : ℤ) (p : Plain) → IsGathered ks ts ls us
    → ((plain_said p ≡ Sum relation ls us c) × (IsToldByDivisor false relation ls c → ⊥)) ⊎ ((plain_said p ≡ told_by false (Num (pos 1))) × IsToldByDivisor false relation ls c) → IsPlainForm (Sum relation ks ts c) (plain_said p)
gathered_either relation ks ls ts us c p is (inl h) = rw h.0 (gathered_plain relation ks ls ts us c is h.1)
gathered_either relation ks ls ts us c p is (inr h) = rw h.0 (gathered_never relation ks ls ts us c is h.1)

pub only_large_if : (relation : Relation) (ks : List ℤ) (ts : List Term) (c : ℤ) → ((b : Bool) → IsToldByDivisor b relation ks c → ⊥) → (HasTwice ts → AreLarge ks) → HasTwice ts ⊎ ((b : Bool) × IsToldByDivisor b relation ks c) → AreLarge ks
only_large_if relation ks ts c none large (inl two) = large two
only_large_if relation ks ts c none large (inr told) = absurd (none told.0 told.1)
