-- A product whose ends fit those of its factors.
use Rattle.std.proofs.Common.{◌≡◌, ◌≢◌, List, [], ◌∷◌, refl, subst, arith, true, false, inl, inr}
use Rattle.std.specs.Prelude.{ℤ, pos, ◌*ℤ◌, ◌≤ℤ◌, ◌<ℤ◌, int_div, int_lt, if◌then◌else◌}
use Rattle.std.specs.Int.{int_min, int_max}
use Rattle.std.specs.List.{fold}
use Rattle.std.proofs.lemmas.Int.{ints}
use Rattle.std.proofs.Math.IntN.{*ℤ_comm}
use Rattle.fz_dom.specs.Changes.{IsFromTo}
use Rattle.fz_spec.specs.declared.term.Term.{Term}
use Rattle.fz_spec.specs.declared.shape.Operation.TheVariants.{Times}
use Rattle.fz_strength.specs.Operations.{equation, low_of, high_of, own_bounds, corner_bounds, quotient_bounds, IsBounded, IsEquationLine}
use Rattle.fz_arith.specs.Products.{IsEnd, IsKept}
use Rattle.fz_arith.proofs.Quotients.{quotient_is, lowest, highest, lowest_is, highest_is}

-- A number lies between the least and the greatest of the quotients where one of its products with the divisors is an end.
at_end : (x low high first last : ℤ) → low ≢ pos 0 → high ≢ pos 0 → IsEnd (x *ℤ low, x *ℤ high) (first, last)
    → IsFromTo (lowest (int_div first low) (int_div first high) (int_div last low) (int_div last high)) (highest (int_div first low) (int_div first high) (int_div last low) (int_div last high)) x
at_end x low high first last not_low not_high is_end =
    let a = int_div first low in
    let b = int_div first high in
    let c = int_div last low in
    let d = int_div last high in
    let lows = lowest_is a b c d in
    let highs = highest_is a b c d in
    let Between : ℤ → Type 0 = λ (q : ℤ). IsFromTo (lowest a b c d) (highest a b c d) q in
    elim is_end as (λ _. IsFromTo (lowest a b c d) (highest a b c d) x) [
      | inl of_low ↦ elim of_low as (λ _. IsFromTo (lowest a b c d) (highest a b c d) x) [
        | inl e ↦ subst Between (quotient_is x low first e not_low) (lows.0, highs.0)
        | inr e ↦ subst Between (quotient_is x low last e not_low) (lows.2, highs.2)
      ]
      | inr of_high ↦ elim of_high as (λ _. IsFromTo (lowest a b c d) (highest a b c d) x) [
        | inl e ↦ subst Between (quotient_is x high first e not_high) (lows.1, highs.1)
        | inr e ↦ subst Between (quotient_is x high last e not_high) (lows.3, highs.3)
      ]
    ]

above_zero : (x : ℤ) → int_lt (pos 0) x ≡ true → pos 0 <ℤ x
above_zero x e = omega (arith, ints, e)

below_zero : (x : ℤ) → int_lt x (pos 0) ≡ true → x <ℤ pos 0
below_zero x e = omega (arith, ints, e)

above : (x : ℤ) → pos 0 <ℤ x → x ≢ pos 0
above x from = λ is. omega (arith, ints, from, is)

below : (x : ℤ) → x <ℤ pos 0 → x ≢ pos 0
below x to = λ is. omega (arith, ints, to, is)

-- Where the other factor has one sign, the quotients keep the ends.
corners : (x y z : Term) (ds : List (List (ℤ × ℤ))) → low_of ds y ≢ pos 0 → high_of ds y ≢ pos 0
    → IsEnd (low_of ds x *ℤ low_of ds y, low_of ds x *ℤ high_of ds y) (low_of ds z, high_of ds z)
    → IsEnd (high_of ds x *ℤ low_of ds y, high_of ds x *ℤ high_of ds y) (low_of ds z, high_of ds z)
    → IsBounded ds (corner_bounds int_div z y x ds)
corners x y z ds not_low not_high at_low at_high = (
  (at_end (low_of ds x) (low_of ds y) (high_of ds y) (low_of ds z) (high_of ds z) not_low not_high at_low).0,
  (at_end (high_of ds x) (low_of ds y) (high_of ds y) (low_of ds z) (high_of ds z) not_low not_high at_high).1,
)

-- of a factor
factor_bounded : (x y z : Term) (ds : List (List (ℤ × ℤ))) → low_of ds y ≤ℤ high_of ds y
    → IsKept (low_of ds y) (high_of ds y) (low_of ds x *ℤ low_of ds y, low_of ds x *ℤ high_of ds y) (high_of ds x *ℤ low_of ds y, high_of ds x *ℤ high_of ds y) (low_of ds z, high_of ds z)
    → IsBounded ds (quotient_bounds x y z ds)
factor_bounded x y z ds order kept =
    elim (int_lt (pos 0) (low_of ds y)) as (λ b. int_lt (pos 0) (low_of ds y) ≡ b
    → IsBounded ds (if b then corner_bounds int_div z y x ds else (if int_lt (high_of ds y) (pos 0) then corner_bounds int_div z y x ds else own_bounds x ds))) [
      | true ↦ λ e.
          let low = above_zero (low_of ds y) e in
          let high : pos 0 <ℤ high_of ds y = omega (arith, ints, low, order) in
          elim kept as (λ _. IsBounded ds (corner_bounds int_div z y x ds)) [
            | inl spans ↦ let from = spans.0 in absurd (omega (arith, ints, low, from))
            | inr is_end ↦ corners x y z ds (above (low_of ds y) low) (above (high_of ds y) high) is_end.0 is_end.1
          ]
      | false ↦ λ e. elim (int_lt (high_of ds y) (pos 0)) as (λ b. int_lt (high_of ds y) (pos 0) ≡ b → IsBounded ds (if b then corner_bounds int_div z y x ds else own_bounds x ds)) [
        | true ↦ λ f.
            let high = below_zero (high_of ds y) f in
            let low : low_of ds y <ℤ pos 0 = omega (arith, ints, high, order) in
            elim kept as (λ _. IsBounded ds (corner_bounds int_div z y x ds)) [
              | inl spans ↦ let to = spans.1 in absurd (omega (arith, ints, high, to))
              | inr is_end ↦ corners x y z ds (below (low_of ds y) low) (below (high_of ds y) high) is_end.0 is_end.1
            ]
        | false ↦ λ f. (omega (arith, ints), omega (arith, ints))
      ] refl
    ] refl

-- what a look at the ends shows
pub record Fits (x y z : Term) (ds : List (List (ℤ × ℤ))) : Type 0 where
  pub order : low_of ds x ≤ℤ high_of ds x
  pub other_order : low_of ds y ≤ℤ high_of ds y
  pub low : fold int_min (low_of ds x *ℤ low_of ds y) ((low_of ds x *ℤ high_of ds y) ∷ (high_of ds x *ℤ low_of ds y) ∷ (high_of ds x *ℤ high_of ds y) ∷ []) ≤ℤ low_of ds z
  pub high : high_of ds z ≤ℤ fold int_max (low_of ds x *ℤ low_of ds y) ((low_of ds x *ℤ high_of ds y) ∷ (high_of ds x *ℤ low_of ds y) ∷ (high_of ds x *ℤ high_of ds y) ∷ [])
  pub kept : IsKept (low_of ds y) (high_of ds y) (low_of ds x *ℤ low_of ds y, low_of ds x *ℤ high_of ds y) (high_of ds x *ℤ low_of ds y, high_of ds x *ℤ high_of ds y) (low_of ds z, high_of ds z)
  pub other_kept : IsKept (low_of ds x) (high_of ds x) (low_of ds x *ℤ low_of ds y, high_of ds x *ℤ low_of ds y) (low_of ds x *ℤ high_of ds y, high_of ds x *ℤ high_of ds y) (low_of ds z, high_of ds z)

pub product_line : (x y z : Term) (ds : List (List (ℤ × ℤ))) → Fits x y z ds → IsEquationLine (equation Times (x ∷ y ∷ []) z) ds
product_line x y z ds fits =
    let turned : IsKept (low_of ds x) (high_of ds x) (low_of ds y *ℤ low_of ds x, low_of ds y *ℤ high_of ds x) (high_of ds y *ℤ low_of ds x, high_of ds y *ℤ high_of ds x) (low_of ds z, high_of ds z) =
    rw (*ℤ_comm (low_of ds y) (low_of ds x), *ℤ_comm (low_of ds y) (high_of ds x), *ℤ_comm (high_of ds y) (low_of ds x), *ℤ_comm (high_of ds y) (high_of ds x)) fits.other_kept in
    record {
      bounded = ((fits.low, fits.high), (factor_bounded x y z ds fits.other_order fits.kept, (factor_bounded y x z ds fits.order turned, tt)));
      divides = tt;
    }
