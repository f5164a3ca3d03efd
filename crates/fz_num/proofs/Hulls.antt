-- Hulls from their ends.
use Rattle.std.proofs.Common.{◌≡◌, ℤ, pos, ◌+ℤ◌, ◌-ℤ◌, ◌*ℤ◌, ◌≤ℤ◌, ◌<ℤ◌, ◌≢◌, ◌⊎◌, inl, inr, refl, sym, subst, arith, lit<, ◌^◌}
use mir.Val.{SFits}
use mir.Syntax.{w32, w128}
use Rattle.std.specs.Prelude.{int_div}
use Rattle.std.specs.Int.{int_max, int_min}
use Rattle.std.proofs.lemmas.Int.{ints, clamps, by_lt_z}
use Rattle.fz_num.specs.declared.span.Span.{Span}
use Rattle.fz_num.specs.Spans.{IsHull, IsSmall, IsSum, IsDifference, IsMultiple, IsProduct, IsQuotient, IsInSpan, IsAround, IsOneOf, IsNegative, IsPositive, IsBetween}
use Rattle.fz_num.proofs.Products.{rising_by, falling_by, factor_between, divided_between, divisor_between, between_comm, small_product, small_quotient}

min_is : (a b : ℤ) → (int_min a b ≡ a) ⊎ (int_min a b ≡ b)
min_is a b = by_lt_z b a (λ lt. inr (omega (arith, ints, clamps))) (λ le. inl (omega (arith, ints, clamps)))

max_is : (a b : ℤ) → (int_max a b ≡ a) ⊎ (int_max a b ≡ b)
max_is a b = by_lt_z b a (λ lt. inl (omega (arith, ints, clamps))) (λ le. inr (omega (arith, ints, clamps)))

reached_low : (a b c d : ℤ) → IsOneOf a b c d (int_min (int_min a b) (int_min c d))
reached_low a b c d = elim (min_is (int_min a b) (int_min c d)) [
  | inl e ↦ (rw e (elim (min_is a b) [ inl f ↦ inl f | inr f ↦ inr (inl f) ]))
  | inr e ↦ (rw e (elim (min_is c d) [ inl f ↦ inr (inr (inl f)) | inr f ↦ inr (inr (inr f)) ]))
]

reached_high : (a b c d : ℤ) → IsOneOf a b c d (int_max (int_max a b) (int_max c d))
reached_high a b c d = elim (max_is (int_max a b) (int_max c d)) [
  | inl e ↦ (rw e (elim (max_is a b) [ inl f ↦ inl f | inr f ↦ inr (inl f) ]))
  | inr e ↦ (rw e (elim (max_is c d) [ inl f ↦ inr (inr (inl f)) | inr f ↦ inr (inr (inr f)) ]))
]

min_low : (a b : ℤ) → (int_min a b ≤ℤ a) × (int_min a b ≤ℤ b)
min_low a b = (omega (arith, ints, clamps), omega (arith, ints, clamps))

max_high : (a b : ℤ) → (a ≤ℤ int_max a b) × (b ≤ℤ int_max a b)
max_high a b = (omega (arith, ints, clamps), omega (arith, ints, clamps))

least_of : (a b c d z : ℤ) → IsOneOf a b c d z → int_min (int_min a b) (int_min c d) ≤ℤ z
least_of a b c d z w =
    let p = min_low (int_min a b) (int_min c d) in let q = min_low a b in let r = min_low c d in
    elim w [ inl e ↦ omega (arith, ints) | inr v ↦ elim v [ inl e ↦ omega (arith, ints) | inr u ↦ elim u [ inl e ↦ omega (arith, ints) | inr e ↦ omega (arith, ints) ] ] ]

greatest_of : (a b c d z : ℤ) → IsOneOf a b c d z → z ≤ℤ int_max (int_max a b) (int_max c d)
greatest_of a b c d z w =
    let p = max_high (int_max a b) (int_max c d) in let q = max_high a b in let r = max_high c d in
    elim w [ inl e ↦ omega (arith, ints) | inr v ↦ elim v [ inl e ↦ omega (arith, ints) | inr u ↦ elim u [ inl e ↦ omega (arith, ints) | inr e ↦ omega (arith, ints) ] ] ]

pub hull_at : (P : ℤ → Type 0) (s : Span) (lo hi : ℤ) → s.lo ≡ lo → s.hi ≡ hi → ((x : ℤ) → P x → (lo ≤ℤ x) × (x ≤ℤ hi)) → P lo → P hi → IsHull P s
hull_at P s lo hi d e f p q = record {
  holds = λ x i. let g = f x i in let a = g.0 in let b = g.1 in (omega (arith, ints), omega (arith, ints));
  low = subst P (sym d) p;
  high = subst P (sym e) q;
}

pub at_low : (s : Span) → IsInSpan s s.lo
at_low s = let r = s.rising in (omega (arith, ints), omega (arith, ints))

pub at_high : (s : Span) → IsInSpan s s.hi
at_high s = let r = s.rising in (omega (arith, ints), omega (arith, ints))

pub sum_hull : (a b s : Span) → s.lo ≡ (a.lo +ℤ b.lo) → s.hi ≡ (a.hi +ℤ b.hi) → IsHull (IsSum a b) s
sum_hull a b s d e = hull_at (IsSum a b) s (a.lo +ℤ b.lo) (a.hi +ℤ b.hi) d e
    (λ z w. let i = w.2 in let j = w.3 in let q = w.4 in (omega (arith, ints), omega (arith, ints)))
    (a.lo, b.lo, at_low a, at_low b, refl) (a.hi, b.hi, at_high a, at_high b, refl)

pub difference_hull : (a b s : Span) → s.lo ≡ (a.lo -ℤ b.hi) → s.hi ≡ (a.hi -ℤ b.lo) → IsHull (IsDifference a b) s
difference_hull a b s d e = hull_at (IsDifference a b) s (a.lo -ℤ b.hi) (a.hi -ℤ b.lo) d e
    (λ z w. let i = w.2 in let j = w.3 in let q = w.4 in (omega (arith, ints), omega (arith, ints)))
    (a.lo, b.hi, at_low a, at_high b, refl) (a.hi, b.lo, at_high a, at_low b, refl)

pub multiple_up : (k : ℤ) (a s : Span) → pos 0 ≤ℤ k → s.lo ≡ (k *ℤ a.lo) → s.hi ≡ (k *ℤ a.hi) → IsHull (IsMultiple k a) s
multiple_up k a s le d e = hull_at (IsMultiple k a) s (k *ℤ a.lo) (k *ℤ a.hi) d e
    (λ z w. let q = w.2 in let f = rising_by k a.lo w.0 le w.1.0 in let g = rising_by k w.0 a.hi le w.1.1 in (omega (arith, ints), omega (arith, ints)))
    (a.lo, at_low a, refl) (a.hi, at_high a, refl)

pub multiple_down : (k : ℤ) (a s : Span) → k <ℤ pos 0 → s.lo ≡ (k *ℤ a.hi) → s.hi ≡ (k *ℤ a.lo) → IsHull (IsMultiple k a) s
multiple_down k a s lt d e = hull_at (IsMultiple k a) s (k *ℤ a.hi) (k *ℤ a.lo) d e
    (λ z w. let q = w.2 in let f = falling_by k a.lo w.0 lt w.1.0 in let g = falling_by k w.0 a.hi lt w.1.1 in (omega (arith, ints), omega (arith, ints)))
    (a.hi, at_high a, refl) (a.lo, at_low a, refl)

pub rising_up : (k : ℤ) (a : Span) (l h : ℤ) → pos 0 ≤ℤ k → l ≡ (k *ℤ a.lo) → h ≡ (k *ℤ a.hi) → l ≤ℤ h
rising_up k a l h le d e = let f = rising_by k a.lo a.hi le a.rising in omega (arith, ints)

pub rising_down : (k : ℤ) (a : Span) (l h : ℤ) → k <ℤ pos 0 → l ≡ (k *ℤ a.hi) → h ≡ (k *ℤ a.lo) → l ≤ℤ h
rising_down k a l h lt d e = let f = falling_by k a.lo a.hi lt a.rising in omega (arith, ints)

-- ---- round numbers

pub around_hull : (a b c d : ℤ) (s : Span) → s.lo ≡ int_min (int_min a b) (int_min c d) → s.hi ≡ int_max (int_max a b) (int_max c d) → IsAround a b c d s
around_hull a b c d s e f = hull_at (IsOneOf a b c d) s (int_min (int_min a b) (int_min c d)) (int_max (int_max a b) (int_max c d)) e f
    (λ z w. (least_of a b c d z w, greatest_of a b c d z w))
    (reached_low a b c d) (reached_high a b c d)

pub join_hull : (a b s : Span) → s.lo ≡ int_min a.lo b.lo → s.hi ≡ int_max a.hi b.hi → IsHull (λ x. IsInSpan a x ⊎ IsInSpan b x) s
join_hull a b s e f =
    let p = min_low a.lo b.lo in let q = max_high a.hi b.hi in
    hull_at (λ x. IsInSpan a x ⊎ IsInSpan b x) s (int_min a.lo b.lo) (int_max a.hi b.hi) e f
    (λ x w. elim w [ inl i ↦ (let j = i in (omega (arith, ints, i.0, p.0), omega (arith, ints, i.1, q.0))) | inr i ↦ (let j = i in (omega (arith, ints, i.0, p.1), omega (arith, ints, i.1, q.1))) ])
    (elim (min_is a.lo b.lo) [ inl g ↦ (rw g (inl (at_low a))) | inr g ↦ (rw g (inr (at_low b))) ])
    (elim (max_is a.hi b.hi) [ inl g ↦ (rw g (inl (at_high a))) | inr g ↦ (rw g (inr (at_high b))) ])

-- ---- by the corners

between_in : (lo hi a b z : ℤ) → IsBetween a b z → lo ≤ℤ a → a ≤ℤ hi → lo ≤ℤ b → b ≤ℤ hi → (lo ≤ℤ z) × (z ≤ℤ hi)
between_in lo hi a b z (inl p) q r s t = (omega (arith, ints, p.0), omega (arith, ints, p.1))
between_in lo hi a b z (inr p) q r s t = (omega (arith, ints, p.0), omega (arith, ints, p.1))

-- what lies between its ends in each of two arguments lies between the least and the greatest of the four corners
pub corner_bound : (f : ℤ → ℤ → ℤ) (a b s : Span) (x y : ℤ) → IsAround (f a.lo b.lo) (f a.lo b.hi) (f a.hi b.lo) (f a.hi b.hi) s
    → IsBetween (f a.lo y) (f a.hi y) (f x y) → IsBetween (f a.lo b.lo) (f a.lo b.hi) (f a.lo y) → IsBetween (f a.hi b.lo) (f a.hi b.hi) (f a.hi y)
    → IsInSpan s (f x y)
corner_bound f a b s x y w u v t =
    let p = w.holds (f a.lo b.lo) (inl refl) in
    let q = w.holds (f a.lo b.hi) (inr (inl refl)) in
    let r = w.holds (f a.hi b.lo) (inr (inr (inl refl))) in
    let o = w.holds (f a.hi b.hi) (inr (inr (inr refl))) in
    let i = between_in s.lo s.hi (f a.lo b.lo) (f a.lo b.hi) (f a.lo y) v p.0 p.1 q.0 q.1 in
    let j = between_in s.lo s.hi (f a.hi b.lo) (f a.hi b.hi) (f a.hi y) t r.0 r.1 o.0 o.1 in
    between_in s.lo s.hi (f a.lo y) (f a.hi y) (f x y) u i.0 i.1 j.0 j.1

pub fits_product : (a b : Span) → IsSmall 62 a → IsSmall 62 b → (x y : ℤ) → IsInSpan a x → IsInSpan b y → SFits w128 (x *ℤ y)
fits_product a b p q x y i j =
    small_product x y (2 ^ 62) (2 ^ 62) (omega (arith, ints, p.0, i.0)) (omega (arith, ints, p.1, i.1)) (omega (arith, ints, q.0, j.0)) (omega (arith, ints, q.1, j.1)) (lit< tt)

pub fits_multiple : (k : ℤ) (a : Span) → SFits w32 k → IsSmall 90 a → (x : ℤ) → IsInSpan a x → SFits w128 (k *ℤ x)
fits_multiple k a f p x i =
    small_product k x (2 ^ 31) (2 ^ 90) (omega (arith, ints)) (omega (arith, ints)) (omega (arith, ints, p.0, i.0)) (omega (arith, ints, p.1, i.1)) (lit< tt)

pub fits_quotient : (a : Span) → IsSmall 100 a → (x y : ℤ) → IsInSpan a x → SFits w128 (int_div x y)
fits_quotient a p x y i = small_quotient x y (omega (arith, ints, p.0, i.0)) (omega (arith, ints, p.1, i.1))

around_as : {a b c d e f g h : ℤ} {s : Span} → a ≡ e → b ≡ f → c ≡ g → d ≡ h → IsAround a b c d s → IsAround e f g h s
around_as {a} {b} {c} {d} {e} {f} {g} {h} {s} p q r o w =
    subst (λ (z : ℤ). IsAround e f g z s) o (subst (λ (z : ℤ). IsAround e f z d s) r (subst (λ (z : ℤ). IsAround e z c d s) q (subst (λ (z : ℤ). IsAround z b c d s) p w)))

corner_at : (P : ℤ → Type 0) (a b c d z : ℤ) → P a → P b → P c → P d → IsOneOf a b c d z → P z
corner_at P a b c d z p q r o w = elim w [
  | inl e ↦ subst P (sym e) p
  | inr v ↦ elim v [ inl e ↦ subst P (sym e) q | inr u ↦ elim u [ inl e ↦ subst P (sym e) r | inr e ↦ subst P (sym e) o ] ]
]

product_hull_at : (a b s : Span) → IsAround (a.lo *ℤ b.lo) (a.lo *ℤ b.hi) (a.hi *ℤ b.lo) (a.hi *ℤ b.hi) s → IsHull (IsProduct a b) s
product_hull_at a b s w =
    let P = λ (z : ℤ). IsProduct a b z in
    let p : P (a.lo *ℤ b.lo) = (a.lo, b.lo, at_low a, at_low b, refl) in
    let q : P (a.lo *ℤ b.hi) = (a.lo, b.hi, at_low a, at_high b, refl) in
    let r : P (a.hi *ℤ b.lo) = (a.hi, b.lo, at_high a, at_low b, refl) in
    let o : P (a.hi *ℤ b.hi) = (a.hi, b.hi, at_high a, at_high b, refl) in
    let at = corner_at P (a.lo *ℤ b.lo) (a.lo *ℤ b.hi) (a.hi *ℤ b.lo) (a.hi *ℤ b.hi) in
    record {
      holds = λ z v. subst (λ (z : ℤ). IsInSpan s z) (sym v.4)
          (corner_bound (λ x y. x *ℤ y) a b s v.0 v.1 w
          (between_comm v.1 a.lo a.hi v.0 (factor_between v.1 a.lo a.hi v.0 v.2.0 v.2.1))
          (factor_between a.lo b.lo b.hi v.1 v.3.0 v.3.1) (factor_between a.hi b.lo b.hi v.1 v.3.0 v.3.1));
      low = at s.lo p q r o w.low;
      high = at s.hi p q r o w.high;
    }

pub product_hull : (a b s : Span) (c d e f : ℤ) → c ≡ (a.lo *ℤ b.lo) → d ≡ (a.lo *ℤ b.hi) → e ≡ (a.hi *ℤ b.lo) → f ≡ (a.hi *ℤ b.hi)
    → IsAround c d e f s → IsHull (IsProduct a b) s
product_hull a b s c d e f g h i j w = product_hull_at a b s (around_as g h i j w)

zero_free : (b : Span) (y : ℤ) → (pos 0 <ℤ b.lo) ⊎ (b.hi <ℤ pos 0) → IsInSpan b y → y ≢ pos 0
zero_free b y (inl lt) i = λ e. let p = i.0 in omega (arith, ints)
zero_free b y (inr lt) i = λ e. let p = i.1 in omega (arith, ints)

quotient_hull_at : (a b s : Span) → (pos 0 <ℤ b.lo) ⊎ (b.hi <ℤ pos 0)
    → IsAround (int_div a.lo b.lo) (int_div a.lo b.hi) (int_div a.hi b.lo) (int_div a.hi b.hi) s → IsHull (IsQuotient a b) s
quotient_hull_at a b s sign w =
    let P = λ (z : ℤ). IsQuotient a b z in
    let l = zero_free b b.lo sign (at_low b) in
    let h = zero_free b b.hi sign (at_high b) in
    let p : P (int_div a.lo b.lo) = (a.lo, b.lo, at_low a, at_low b, l, refl) in
    let q : P (int_div a.lo b.hi) = (a.lo, b.hi, at_low a, at_high b, h, refl) in
    let r : P (int_div a.hi b.lo) = (a.hi, b.lo, at_high a, at_low b, l, refl) in
    let o : P (int_div a.hi b.hi) = (a.hi, b.hi, at_high a, at_high b, h, refl) in
    let at = corner_at P (int_div a.lo b.lo) (int_div a.lo b.hi) (int_div a.hi b.lo) (int_div a.hi b.hi) in
    record {
      holds = λ z v. subst (λ (z : ℤ). IsInSpan s z) (sym v.5)
          (corner_bound int_div a b s v.0 v.1 w
          (divided_between v.1 a.lo a.hi v.0 v.2.0 v.2.1)
          (divisor_between a.lo b.lo b.hi v.1 sign v.3.0 v.3.1) (divisor_between a.hi b.lo b.hi v.1 sign v.3.0 v.3.1));
      low = at s.lo p q r o w.low;
      high = at s.hi p q r o w.high;
    }

pub quotient_hull : (a b s : Span) (c d e f : ℤ) → (pos 0 <ℤ b.lo) ⊎ (b.hi <ℤ pos 0)
    → c ≡ int_div a.lo b.lo → d ≡ int_div a.lo b.hi → e ≡ int_div a.hi b.lo → f ≡ int_div a.hi b.hi → IsAround c d e f s → IsHull (IsQuotient a b) s
quotient_hull a b s c d e f sign g h i j w = quotient_hull_at a b s sign (around_as g h i j w)

-- ---- a divisor without zero, in its two parts

part_in : (P : ℤ → Type 0) (b t : Span) (y : ℤ) → IsHull P t → ((x : ℤ) → P x → IsInSpan b x) → IsInSpan t y → IsInSpan b y
part_in P b t y h f i = let p = f t.lo h.low in let q = f t.hi h.high in let a = p.0 in let c = q.1 in (omega (arith, ints, i.0), omega (arith, ints, i.1))

widen : (P : ℤ → Type 0) (a b t : Span) (z : ℤ) → IsHull P t → ((x : ℤ) → P x → IsInSpan b x) → IsQuotient a t z → IsQuotient a b z
widen P a b t z h f v = (v.0, v.1, v.2, part_in P b t v.1 h f v.3, v.4, v.5)

-- all of the divisor but zero lies in the part
pub one_part : (P : ℤ → Type 0) (a b t s : Span) → IsHull P t → ((x : ℤ) → P x → IsInSpan b x) → ((x : ℤ) → IsInSpan b x → x ≢ pos 0 → P x)
    → IsHull (IsQuotient a t) s → IsHull (IsQuotient a b) s
one_part P a b t s h f g w = record {
  holds = λ z v. w.holds z (v.0, v.1, v.2, h.holds v.1 (g v.1 v.3 v.4), v.4, v.5);
  low = widen P a b t s.lo h f w.low;
  high = widen P a b t s.hi h f w.high;
}

pub above_part : (a b t s : Span) → pos 0 ≤ℤ b.lo → IsHull (IsPositive b) t → IsHull (IsQuotient a t) s → IsHull (IsQuotient a b) s
above_part a b t s le h w = one_part (IsPositive b) a b t s h (λ x i. i.0) (λ x i n. (i, let l = i.0 in omega (arith, ints, n))) w

pub below_part : (a b t s : Span) → b.hi ≤ℤ pos 0 → IsHull (IsNegative b) t → IsHull (IsQuotient a t) s → IsHull (IsQuotient a b) s
below_part a b t s le h w = one_part (IsNegative b) a b t s h (λ x i. i.0) (λ x i n. (i, let l = i.1 in omega (arith, ints, n))) w

above_zero : (x : ℤ) → pos 0 ≤ℤ x → x ≢ pos 0 → pos 0 <ℤ x
above_zero x le n = omega (arith, ints, n)

same_z : (a b : ℤ) → a ≤ℤ b → b ≤ℤ a → a ≡ b
same_z a b p q = omega (arith, ints)

pub both_parts : (a b t u p q s : Span) → IsHull (IsNegative b) t → IsHull (IsPositive b) u → IsHull (IsQuotient a t) p → IsHull (IsQuotient a u) q
    → IsHull (λ x. IsInSpan p x ⊎ IsInSpan q x) s → IsHull (IsQuotient a b) s
both_parts a b t u p q s h k v w j = record {
  holds = λ z o. by_lt_z o.1 (pos 0)
      (λ lt. j.holds z (inl (v.holds z (o.0, o.1, o.2, h.holds o.1 (o.3, lt), o.4, o.5))))
      (λ le. j.holds z (inr (w.holds z (o.0, o.1, o.2, k.holds o.1 (o.3, above_zero o.1 le o.4), o.4, o.5))));
  low = elim j.low [
    | inl i ↦ (let e : s.lo ≡ p.lo = same_z s.lo p.lo (j.holds p.lo (inl (at_low p))).0 i.0 in
        subst (λ (z : ℤ). IsQuotient a b z) (sym e) (widen (IsNegative b) a b t p.lo h (λ x n. n.0) v.low))
    | inr i ↦ (let e : s.lo ≡ q.lo = same_z s.lo q.lo (j.holds q.lo (inr (at_low q))).0 i.0 in
        subst (λ (z : ℤ). IsQuotient a b z) (sym e) (widen (IsPositive b) a b u q.lo k (λ x n. n.0) w.low))
  ];
  high = elim j.high [
    | inl i ↦ (let e : s.hi ≡ p.hi = same_z s.hi p.hi i.1 (j.holds p.hi (inl (at_high p))).1 in
        subst (λ (z : ℤ). IsQuotient a b z) (sym e) (widen (IsNegative b) a b t p.hi h (λ x n. n.0) v.high))
    | inr i ↦ (let e : s.hi ≡ q.hi = same_z s.hi q.hi i.1 (j.holds q.hi (inr (at_high q))).1 in
        subst (λ (z : ℤ). IsQuotient a b z) (sym e) (widen (IsPositive b) a b u q.hi k (λ x n. n.0) w.high))
  ];
}
