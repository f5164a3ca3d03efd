-- Numbers of a window, one after the other, and values of a cover that each stand once.
use Rattle.std.proofs.Common.{◌≡◌, ◌⊎◌, inl, inr, ℕ, zero, suc, ◌+◌, ◌<◌, ◌≤◌, Bool, true, false, List, [], ◌∷◌, refl, sym, ap, subst, arith, length, get_or, take}
use Rattle.std.specs.Prelude.{◌↔◌, ℤ, pos, ◌+ℤ◌, ◌≤ℤ◌, count_by, slice_get, Some}
use Rattle.std.specs.Ordering.{int_eq}
use Rattle.std.proofs.lemmas.Bool.Decides.{Decides-int_eq}
use Rattle.std.proofs.lemmas.List.Sums.{count_by_more_yes, count_by_more_no}
use Rattle.fz_sets.proofs.Lists.{some_is}
use Rattle.fz_strength.proofs.Spreads.{bit, count_more}
use Rattle.fz_bits.specs.declared.window.Window.{Window}
use Rattle.fz_bits.specs.Windows.{IsBit}
use Rattle.fz_bits.specs.Words.{HasBit, AreOnes}
use Rattle.fz_counts.specs.Covers.{IsOf, IsWindowOf, IsCoverOf}
use Rattle.fz_counts.specs.declared.cover.Cover.{Cover}
use Rattle.fz_counts.proofs.Words.{bit_kept}

-- what isn't one of the others is one of the window
pub rest_in : (base : ℤ) (bits all rest : ℕ) → ((x : ℤ) → IsBit base all x ↔ ((base ≤ℤ x) × (x ≤ℤ (base +ℤ pos 63)))) → AreOnes rest (λ k. HasBit all k × (HasBit bits k → ⊥)) → (x : ℤ) → base ≤ℤ x
    → x ≤ℤ (base +ℤ pos 63) → (IsBit base rest x → ⊥) → IsBit base bits x
rest_in base bits all rest alls rests x from to none =
    let m = (alls x).1 (from, to) in
    elim (bit_kept bits m.0) [
      | inl not ↦ absurd (none (m.0, m.1, m.2, (rests m.0 m.1).1 (m.3, not)))
      | inr has ↦ (m.0, m.1, m.2, has)
    ]

-- ---- values that stand once

pub window_none : (w : Window) (base : ℤ) → w.base ≡ base → ((x : ℤ) → IsBit base w.bits x → ⊥) → IsWindowOf w []
window_none w base same none = record {
  once = λ x. (let zero_is : count_by (int_eq x) [] ≡ 0 = refl in omega (arith, zero_is));
  numbers = λ x. (
    (λ is. absurd (none x (subst (λ (b : ℤ). IsBit b w.bits x) same is))),
    (λ one. (let zero_is : count_by (int_eq x) [] ≡ 0 = refl in absurd (omega (arith, zero_is, one)))),
  );
}

window_at : (b : Bool) (w v : Window) (values : List ℤ) (k : ℕ) (d x : ℤ) → k < length values → int_eq x (get_or values k d) ≡ b → v.base ≡ w.base
    → IsBit w.base v.bits x ↔ (IsBit w.base w.bits x ⊎ (x ≡ get_or values k d)) → (IsOf w (get_or values k d) → ⊥) → IsWindowOf w (take k values)
    → (count_by (int_eq x) (take (k + 1) values) ≤ 1) × (IsOf v x ↔ (count_by (int_eq x) (take (k + 1) values) ≡ 1))
window_at true w v values k d x within test same numbers none h =
    let is : x ≡ get_or values k d = (Decides-int_eq x (get_or values k d)).0 test in
    let more = count_by_more_yes (int_eq x) values k d within test in
    let few = h.once x in
    let not : count_by (int_eq x) (take k values) ≡ 1 → ⊥ = λ one. none (subst (IsOf w) is ((h.numbers x).1 one)) in
    let one : count_by (int_eq x) (take (k + 1) values) ≡ 1 = omega (arith, more, few, not) in
    (omega (arith, one), ((λ of. one), (λ e. subst (λ (b : ℤ). IsBit b v.bits x) (sym same) (numbers.1 (inr is)))))
window_at false w v values k d x within test same numbers none h =
    let other : x ≡ get_or values k d → ⊥ = λ is. (let e = (Decides-int_eq x (get_or values k d)).1 is in absurd (cc (e, test))) in
    let more = count_by_more_no (int_eq x) values k d within test in
    let few = h.once x in (
      omega (arith, more, few),
      (
        (λ of. elim (numbers.0 (subst (λ (b : ℤ). IsBit b v.bits x) same of)) [
          | inl was ↦ (let one = (h.numbers x).0 was in omega (arith, more, one))
          | inr is ↦ absurd (other is)
        ]),
        (λ one. subst (λ (b : ℤ). IsBit b v.bits x) (sym same) (numbers.1 (inl ((h.numbers x).1 (omega (arith, more, one)))))),
      ),
    )

pub window_more : (w v : Window) (values : List ℤ) (k : ℕ) (d : ℤ) → k < length values → v.base ≡ w.base
    → ((x : ℤ) → IsBit w.base v.bits x ↔ (IsBit w.base w.bits x ⊎ (x ≡ get_or values k d))) → (IsOf w (get_or values k d) → ⊥) → IsWindowOf w (take k values) → IsWindowOf v (take (k + 1) values)
window_more w v values k d within same numbers none h = record {
  once = λ x. (window_at (int_eq x (get_or values k d)) w v values k d x within refl same (numbers x) none h).0;
  numbers = λ x. (window_at (int_eq x (get_or values k d)) w v values k d x within refl same (numbers x) none h).1;
}

one_at : (values : List ℤ) (k : ℕ) (v : ℤ) → slice_get values k ≡ Some v → 1 ≤ count_by (int_eq v) values
one_at [] k v at = absurd (cc (at))
one_at (x ∷ values) zero v at =
    let more = count_more (int_eq v) x values in
    let same : int_eq v x ≡ true = (Decides-int_eq v x).1 (sym (some_is x v at)) in
    let one = ap bit same in
    omega (arith, more, one)
one_at (x ∷ values) (suc k) v at =
    let more = count_more (int_eq v) x values in
    let rest = one_at values k v at in
    omega (arith, more, rest)

pub value_of : (c : Cover) (values : List ℤ) (k : ℕ) (v : ℤ) → IsCoverOf c values → slice_get values k ≡ Some v → IsOf c.window v
value_of c values k v h at = let few = h.holds.once v in let some = one_at values k v at in (h.holds.numbers v).1 (omega (arith, few, some))
