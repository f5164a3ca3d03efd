-- Entries of a sum in order are added up.
use Rattle.std.proofs.Common.{◌≡◌, ℕ, zero, suc, ◌+◌, ◌<◌, ◌≤◌, ℤ, pos, ◌+ℤ◌, ◌*ℤ◌, nat_abs, List, [], ◌∷◌, ◌++◌, refl, sym, ap, arith, length, drop}
use Rattle.std.proofs.lemmas.Int.{ints, by_lt_z}
use Rattle.std.proofs.lemmas.List.{length_push}
use Rattle.std.proofs.lemmas.List.Sums.{sum_by-cons}
use Rattle.std.specs.Prelude.{sum_by}
use Rattle.std.specs.List.{AllByRecursion}
use Rattle.fz_spec.specs.declared.term.Term.{Term}
use Rattle.fz_spec.specs.declared.term.Term.TheVariants.{Num, Var}
use Rattle.fz_spec.specs.Constraints.{term_value, term_values}
use Rattle.fz_spec.specs.Instance.{Variable}
use Rattle.fz_spec.specs.Truth.{weighted_sum}
use Rattle.fz_strength.specs.Events.{variables_of}
use Rattle.fz_says.specs.Fits.{IsKnown}
use Rattle.fz_plain.specs.Entries.{AreAddedUp, AreInOrder, AreRising, IsAdding, size_of}
use Rattle.fz_plain.proofs.Spread.{spread}

pub sum_more : (a : List ℤ) (ks : List ℤ) (ts : List Term) (k : ℤ) (t : Term) → length ks ≡ length ts
    → weighted_sum (ks ++ k ∷ []) (term_values a (ts ++ t ∷ [])) ≡ (weighted_sum ks (term_values a ts) +ℤ (k *ℤ term_value a t))
sum_more a [] [] k t size = omega (arith, ints)
sum_more a [] (u ∷ ts) k t size = absurd (omega (arith, size))
sum_more a (j ∷ ks) [] k t size = absurd (omega (arith, size))
sum_more a (j ∷ ks) (u ∷ ts) k t size = let rest = sum_more a ks ts k t (omega (arith, size)) in omega (arith, ints, rest)

pub variable_more : (ts : List Term) (v : ℕ) → variables_of (ts ++ Var v ∷ []) ≡ variables_of ts ++ v ∷ []
variable_more [] v = refl
variable_more (Num n ∷ ts) v = variable_more ts v
variable_more (Var w ∷ ts) v = ap (λ (xs : List ℕ). w ∷ xs) (variable_more ts v)

pub number_more : (ts : List Term) (n : ℤ) → variables_of (ts ++ Num n ∷ []) ≡ variables_of ts
number_more [] n = refl
number_more (Num m ∷ ts) n = number_more ts n
number_more (Var w ∷ ts) n = ap (λ (xs : List ℕ). w ∷ xs) (number_more ts n)

rising_more : (xs : List ℕ) (x y : ℕ) → AreRising (xs ++ x ∷ []) → x < y → AreRising ((xs ++ x ∷ []) ++ y ∷ [])
rising_more [] x y h below = (below, tt)
rising_more (z ∷ []) x y h below = (h.0, (below, tt))
rising_more (z ∷ w ∷ xs) x y h below = (h.0, rising_more (w ∷ xs) x y h.1 below)

pub all_known_more : (vs : List Variable) (ts : List Term) (t : Term) → AllByRecursion (IsKnown vs) ts → IsKnown vs t → AllByRecursion (IsKnown vs) (ts ++ t ∷ [])
all_known_more vs [] t h k = (k, tt)
all_known_more vs (u ∷ ts) t h k = (h.0, all_known_more vs ts t h.1 k)

size_of_sum : (m n : ℤ) → nat_abs (m +ℤ n) ≤ nat_abs m + nat_abs n
size_of_sum m n = omega (arith, ints)

sizes_more : (e : ℕ × ℤ) (es : List (ℕ × ℤ)) → sum_by size_of (e ∷ es) ≡ nat_abs e.1 + sum_by size_of es
sizes_more e es = sum_by-cons size_of e es

order_joined : (last next : ℕ × ℤ) (k : ℤ) (rest : List (ℕ × ℤ)) → AreInOrder (last ∷ next ∷ rest) → AreInOrder ((last.0, k) ∷ rest)
order_joined last next k [] h = tt
order_joined last next k (f ∷ rest) h = let a = h.0 in let b = h.1.0 in (omega (arith, a, b), h.1.1)

by_above : (x y : ℕ) → x ≤ y → (x ≡ y → ⊥) → x < y
by_above x y at_most apart = by_lt_z (pos x) (pos y) (λ lt. omega (arith, ints, lt)) (λ le. absurd (apart (omega (arith, ints, at_most, le))))

pub adding_joins : (ks : List ℤ) (ts : List Term) (last next : ℕ × ℤ) (rest es : List (ℕ × ℤ)) → next.0 ≡ last.0 → IsAdding ks ts last (next ∷ rest) es → IsAdding ks ts (last.0, last.1 +ℤ next.1) rest es
adding_joins ks ts last next rest es one is = record {
  size = is.size;
  few = let f = is.few in omega (arith, f);
  same = λ a.
      let s = is.same a in
      let x = term_value a (Var last.0) in
      let y : term_value a (Var next.0) ≡ x = ap (λ (v : ℕ). term_value a (Var v)) one in
      let p = spread last.1 next.1 x in
      let q = rw y at s in
      omega (arith, ints, p, q);
  order = order_joined last next (last.1 +ℤ next.1) rest is.order;
  rising = is.rising;
  known = λ vs all. let k = is.known vs all in (k.0, (k.1.0, k.1.1.1));
  sizes = let s = is.sizes in let t = size_of_sum last.1 next.1 in
      let a = sizes_more last (next ∷ rest) in let b = sizes_more next rest in let d = sizes_more (last.0, last.1 +ℤ next.1) rest in omega (arith, s, t, a, b, d);
}

pub adding_pushes : (ks : List ℤ) (ts : List Term) (last next : ℕ × ℤ) (rest es : List (ℕ × ℤ)) → (next.0 ≡ last.0 → ⊥) → IsAdding ks ts last (next ∷ rest) es
    → IsAdding (ks ++ last.1 ∷ []) (ts ++ Var last.0 ∷ []) next rest es
adding_pushes ks ts last next rest es apart is = record {
  size = let s = is.size in let a = length_push ks last.1 in let b = length_push ts (Var last.0) in omega (arith, s, a, b);
  few = let f = is.few in let b = length_push ts (Var last.0) in omega (arith, f, b);
  same = λ a. let s = is.same a in let m = sum_more a ks ts last.1 (Var last.0) is.size in omega (arith, ints, s, m);
  order = is.order.1;
  rising = rw (variable_more ts last.0) (rising_more (variables_of ts) last.0 next.0 is.rising (let o = is.order.0 in by_above last.0 next.0 o (λ same. apart (sym same))));
  known = λ vs all. let k = is.known vs all in (all_known_more vs ts (Var last.0) k.0 k.1.0, k.1.1);
  sizes = let s = is.sizes in let a = sizes_more last (next ∷ rest) in omega (arith, s, a);
}

pub adding_ends : (ks : List ℤ) (ts : List Term) (last : ℕ × ℤ) (es : List (ℕ × ℤ)) → IsAdding ks ts last [] es → AreAddedUp (ks ++ last.1 ∷ []) (ts ++ Var last.0 ∷ []) es
adding_ends ks ts last es is = record {
  size = let s = is.size in let a = length_push ks last.1 in let b = length_push ts (Var last.0) in omega (arith, s, a, b);
  few = let f = is.few in let b = length_push ts (Var last.0) in omega (arith, f, b);
  same = λ a. let s = is.same a in let m = sum_more a ks ts last.1 (Var last.0) is.size in omega (arith, ints, s, m);
  rising = rw (variable_more ts last.0) is.rising;
  known = λ vs all. let k = is.known vs all in all_known_more vs ts (Var last.0) k.0 k.1.0;
}

pub none_added : AreAddedUp [] [] []
none_added = record { size = refl; few = omega arith; same = λ a. refl; rising = tt; known = λ vs all. tt }

pub drop_past : {X : Type 0} (i : ℕ) (xs : List X) → length xs ≤ i → drop i xs ≡ []
drop_past zero [] past = refl
drop_past zero (x ∷ xs) past = absurd (omega (arith, past))
drop_past (suc i) [] past = refl
drop_past (suc i) (x ∷ xs) past = drop_past i xs (omega (arith, past))
