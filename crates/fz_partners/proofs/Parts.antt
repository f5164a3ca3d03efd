-- The parts of a sum, by the places of its lists.
use Rattle.std.proofs.Common.{◌≡◌, List, [], ◌∷◌, refl, sym, ap, arith, length, negsuc}
use Rattle.std.specs.Prelude.{ℤ, slice_get, Some}
use Rattle.fz_sets.proofs.Lists.{some_is}
use Rattle.fz_spec.specs.declared.term.Term.{Term}
use Rattle.fz_strength.specs.Sayings.{SumByNumbers}
use Rattle.fz_partners.specs.declared.equation.Product.{Product}
use Rattle.fz_partners.specs.Equations.{parts_saying}
use Rattle.fz_partners.specs.declared.partnered_sum.Parts.TheVariants.{Two, Three}

one_long : {X : Type 0} (xs : List X) (x : X) → length xs ≡ 1 → slice_get xs 0 ≡ Some x → x ∷ [] ≡ xs
one_long [] x size at = absurd (cc (size))
one_long (y ∷ []) x size at = ap (λ z. z ∷ []) (sym (some_is y x at))
one_long (y ∷ z ∷ xs) x size at = absurd (omega (arith, size))

two_long : {X : Type 0} (xs : List X) (x y : X) → length xs ≡ 2 → slice_get xs 0 ≡ Some x → slice_get xs 1 ≡ Some y → x ∷ y ∷ [] ≡ xs
two_long [] x y size at_x at_y = absurd (cc (size))
two_long (v ∷ []) x y size at_x at_y = absurd (omega (arith, size))
two_long (v ∷ w ∷ []) x y size at_x at_y = rw (some_is v x at_x, some_is w y at_y) refl
two_long (v ∷ w ∷ z ∷ xs) x y size at_x at_y = absurd (omega (arith, size))

three_long : {X : Type 0} (xs : List X) (x y z : X) → length xs ≡ 3 → slice_get xs 0 ≡ Some x → slice_get xs 1 ≡ Some y → slice_get xs 2 ≡ Some z → x ∷ y ∷ z ∷ [] ≡ xs
three_long [] x y z size at_x at_y at_z = absurd (cc (size))
three_long (t ∷ []) x y z size at_x at_y at_z = absurd (omega (arith, size))
three_long (t ∷ v ∷ []) x y z size at_x at_y at_z = absurd (omega (arith, size))
three_long (t ∷ v ∷ w ∷ []) x y z size at_x at_y at_z = rw (some_is t x at_x, some_is v y at_y, some_is w z at_z) refl
three_long (t ∷ v ∷ w ∷ u ∷ xs) x y z size at_x at_y at_z = absurd (omega (arith, size))

pub two_said : (ks : List ℤ) (ts : List Term) (p q : Product) → length ks ≡ 2 → length ts ≡ 2 → slice_get ks 0 ≡ Some p.factor → slice_get ts 0 ≡ Some p.term → slice_get ks 1 ≡ Some q.factor → slice_get ts 1 ≡ Some q.term
    → (c : ℤ) → parts_saying (Two p q) c ≡ SumByNumbers ks ts c
two_said ks ts p q size sizes pk pt qk qt c = rw (two_long ks p.factor q.factor size pk qk, two_long ts p.term q.term sizes pt qt) refl

pub three_said : (ks : List ℤ) (ts : List Term) (p q r : Product) → length ks ≡ 3 → length ts ≡ 3 → slice_get ks 0 ≡ Some p.factor → slice_get ts 0 ≡ Some p.term → slice_get ks 1 ≡ Some q.factor → slice_get ts 1 ≡ Some q.term
    → slice_get ks 2 ≡ Some r.factor → slice_get ts 2 ≡ Some r.term → (c : ℤ) → parts_saying (Three p q r) c ≡ SumByNumbers ks ts c
three_said ks ts p q r size sizes pk pt qk qt rk rt c = rw (three_long ks p.factor q.factor r.factor size pk qk rk, three_long ts p.term q.term r.term sizes pt qt rt) refl

pub one_behind : (t : Term) (ks : List ℤ) (ts : List Term) (p : Product) → length ks ≡ 1 → length ts ≡ 1 → slice_get ks 0 ≡ Some p.factor → slice_get ts 0 ≡ Some p.term
    → (c : ℤ) → SumByNumbers (negsuc 0 ∷ p.factor ∷ []) (t ∷ p.term ∷ []) c ≡ SumByNumbers (negsuc 0 ∷ ks) (t ∷ ts) c
one_behind t ks ts p size sizes pk pt c = rw (one_long ks p.factor size pk, one_long ts p.term sizes pt) refl

pub two_behind : (t : Term) (ks : List ℤ) (ts : List Term) (p q : Product) → length ks ≡ 2 → length ts ≡ 2 → slice_get ks 0 ≡ Some p.factor → slice_get ts 0 ≡ Some p.term → slice_get ks 1 ≡ Some q.factor → slice_get ts 1 ≡ Some q.term
    → (c : ℤ) → SumByNumbers (negsuc 0 ∷ p.factor ∷ q.factor ∷ []) (t ∷ p.term ∷ q.term ∷ []) c ≡ SumByNumbers (negsuc 0 ∷ ks) (t ∷ ts) c
two_behind t ks ts p q size sizes pk pt qk qt c = rw (two_long ks p.factor q.factor size pk qk, two_long ts p.term q.term sizes pt qt) refl
