-- What divisors tell of a sum.
use Rattle.std.proofs.Common.{◌≡◌, ◌⊎◌, inl, inr, ℕ, ◌<◌, ℤ, pos, negsuc, ◌*ℤ◌, List, [], ◌∷◌, ◌∙◌, refl, sym, subst, arith, true, false, Bool, not, IsTrue, ◌↔◌}
use Rattle.std.proofs.lemmas.Int.{ints}
use Rattle.std.proofs.Math.IntN.{*ℤ-zero}
use Rattle.std.specs.List.{AllByRecursion}
use Rattle.fz_spec.specs.declared.term.Term.{Term}
use Rattle.fz_spec.specs.declared.shape.Relation.{Relation}
use Rattle.fz_spec.specs.declared.shape.Relation.TheVariants.{Equal, NotEqual}
use Rattle.fz_plain.specs.Plain.{IsDecided, IsMultipleOf, IsOff, IsToldByDivisor, IsToldOff, SumRelates}
use Rattle.fz_plain.proofs.Deciding.{zero_decided, never_equal}
use Rattle.fz_plain.proofs.Divisors.{multiple_of_multiple, none_multiple, product_of_multiple, zero_multiple}

zeros_multiples : (ks : List ℤ) → AllByRecursion (λ (k : ℤ). k ≡ pos 0) ks → AllByRecursion (IsMultipleOf (pos 0)) ks
zeros_multiples [] all = tt
zeros_multiples (k ∷ ks) all = (subst (IsMultipleOf (pos 0)) (sym all.0) (zero_multiple (pos 0)), zeros_multiples ks all.1)

pub multiples_zeros : (ks : List ℤ) → AllByRecursion (IsMultipleOf (pos 0)) ks → AllByRecursion (λ (k : ℤ). k ≡ pos 0) ks
multiples_zeros [] all = tt
multiples_zeros (k ∷ ks) all = (all.0.1 ∙ *ℤ-zero all.0.0, multiples_zeros ks all.1)

off_decided : (b : Bool) (relation : Relation) (ks : List ℤ) (ts : List Term) (c : ℤ) → IsToldOff b relation → IsOff ks c → IsDecided b (SumRelates relation ks ts c)
off_decided true relation ks ts c is off = rw is (λ (a : List ℤ) same. never_equal ks ts c off.0 off.1 off.2 a same)
off_decided false relation ks ts c is off = rw is (never_equal ks ts c off.0 off.1 off.2)

pub told_decided : (b : Bool) (relation : Relation) (ks : List ℤ) (ts : List Term) (c : ℤ) → IsToldByDivisor b relation ks c → IsDecided b (SumRelates relation ks ts c)
told_decided b relation ks ts c (inl zero) = zero_decided b relation ks ts c (pos 0) refl (zeros_multiples ks zero.0) zero.1
told_decided b relation ks ts c (inr told) = off_decided b relation ks ts c told.0 told.1

off_untold : (b : Bool) (relation : Relation) (ks : List ℤ) (c : ℤ) (g : ℕ) → ((d : ℤ) → AllByRecursion (IsMultipleOf d) ks → IsMultipleOf d (pos g)) → (relation ≡ Equal → IsMultipleOf (pos g) c) → (relation ≡ NotEqual → IsMultipleOf (pos g) c)
    → IsToldOff b relation → IsOff ks c → ⊥
off_untold true relation ks c g greatest equal apart is off = off.2 (multiple_of_multiple off.0 (pos g) c (greatest off.0 off.1) (apart is))
off_untold false relation ks c g greatest equal apart is off = off.2 (multiple_of_multiple off.0 (pos g) c (greatest off.0 off.1) (equal is))

-- where the greatest divisor tells nothing, none does
pub untold : (b : Bool) (relation : Relation) (ks : List ℤ) (c : ℤ) (g : ℕ) → 0 < g → ((d : ℤ) → AllByRecursion (IsMultipleOf d) ks → IsMultipleOf d (pos g)) → (relation ≡ Equal → IsMultipleOf (pos g) c) → (relation ≡ NotEqual → IsMultipleOf (pos g) c)
    → IsToldByDivisor b relation ks c → ⊥
untold b relation ks c g some greatest equal apart (inl zero) = let none = none_multiple (pos g) (greatest (pos 0) (zeros_multiples ks zero.0)) in omega (arith, some, none)
untold b relation ks c g some greatest equal apart (inr told) = off_untold b relation ks c g greatest equal apart told.0 told.1

minus_twice : (c : ℤ) → ((negsuc 0 *ℤ c) *ℤ negsuc 0) ≡ c
minus_twice c = omega (arith, ints)

-- a sum with the factor -1 or 1
pub unit_untold : (b : Bool) (relation : Relation) (k : ℤ) (ks : List ℤ) (c : ℤ) → (k ≡ negsuc 0) ⊎ (k ≡ pos 1) → IsToldByDivisor b relation (k ∷ ks) c → ⊥
unit_untold b relation k ks c (inl is) (inl zero) = let z = zero.0.0 in omega (arith, ints, is, z)
unit_untold b relation k ks c (inr is) (inl zero) = let z = zero.0.0 in omega (arith, ints, is, z)
unit_untold b relation k ks c (inl is) (inr told) = told.1.2 (subst (IsMultipleOf told.1.0) (minus_twice c) (product_of_multiple told.1.0 (negsuc 0 *ℤ c) (negsuc 0) (subst (IsMultipleOf told.1.0) is told.1.1.0)))
unit_untold b relation k ks c (inr is) (inr told) = told.1.2 (subst (IsMultipleOf told.1.0) (omega (arith, ints)) (product_of_multiple told.1.0 c (pos 1) (subst (IsMultipleOf told.1.0) is told.1.1.0)))

-- what is told so isn't told the other way
pub told_never : (b : Bool) (relation : Relation) (ks : List ℤ) (c : ℤ) → IsToldByDivisor b relation ks c → IsTrue (not b) ↔ IsToldByDivisor false relation ks c
told_never true relation ks c told = ((λ h. absurd (cc h)), (λ h. absurd (told_decided false relation ks [] c h [] (told_decided true relation ks [] c told []))))
told_never false relation ks c told = ((λ h. told), (λ h. refl))
