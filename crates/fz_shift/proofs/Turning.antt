-- A plane said the other way round, of the first variable less the second.
use Rattle.std.proofs.Common.{◌≡◌, ◌*◌, ℕ, List, ap, arith, refl, subst, zero, suc}
use Rattle.std.specs.Prelude.{ℤ, pos, negsuc, neg_ℤ, ◌*ℤ◌, ◌≤ℤ◌}
use Rattle.std.proofs.lemmas.Int.{ints}
use Rattle.fz_sets.specs.Sets.{IsInSet}
use Rattle.fz_strength.specs.Domains.{dom_at, number_at}
use Rattle.fz_shift.specs.declared.plane.Plane.{Plane}
use Rattle.fz_prop.specs.Truths.{IsSame}
use Rattle.fz_shift.specs.Planes.{AreInside, HasPartners, IsSmall, PlaneTruth, number_on}

neg_neg : (n : ℕ) → pos n ≡ neg_ℤ (neg_ℤ (pos n))
neg_neg zero = refl
neg_neg (suc n) = refl

zero_neg : (n : ℕ) → n ≡ 0 → pos n ≡ neg_ℤ (pos n)
zero_neg zero none = refl
zero_neg (suc n) none = absurd (omega (arith, none))

pub neg_times : (k u : ℤ) → (neg_ℤ k *ℤ u) ≡ neg_ℤ (k *ℤ u)
neg_times (pos zero) (pos b) = zero_neg (0 * b) (omega arith)
neg_times (pos zero) (negsuc b) = ap neg_ℤ (zero_neg (0 * suc b) (omega arith))
neg_times (pos (suc n)) (pos b) = refl
neg_times (pos (suc n)) (negsuc b) = neg_neg (suc n * suc b)
neg_times (negsuc n) (pos b) = neg_neg (suc n * b)
neg_times (negsuc n) (negsuc b) = refl

abbrev pub turned_plane : Plane → Plane
turned_plane p = record { across = p.across; first = p.second; second = p.first; factor = neg_ℤ p.factor; number = neg_ℤ p.number }

-- the number of one variable by that of the other, and back
pub turned_number : (p : Plane) (u w v : ℤ) → v ≡ number_on p u w → w ≡ number_on (turned_plane p) u v
turned_number p u w v on = let e = neg_times p.factor u in omega (arith, ints, on, e)

pub turned_back : (p : Plane) (u w v : ℤ) → w ≡ number_on (turned_plane p) u v → v ≡ number_on p u w
turned_back p u w v on = let e = neg_times p.factor u in omega (arith, ints, on, e)

pub turned_truth : (p : Plane) (a : List ℤ) → PlaneTruth p a → PlaneTruth (turned_plane p) a
turned_truth p a on = turned_number p (number_at a p.across) (number_at a p.first) (number_at a p.second) on

pub turned_small : (p : Plane) → IsSmall p → p.number ≤ℤ pos 2147483647 → IsSmall (turned_plane p)
turned_small p small most =
    let low = small.least in
    let high = small.most in
    record { least = omega (arith, ints, high); most = omega (arith, ints, low); number = omega (arith, ints, most) }

pub turned_inside : (p : Plane) (size : ℕ) → AreInside size p → AreInside size (turned_plane p)
turned_inside p size inside = record { across = inside.across; first = inside.second; second = inside.first }

pub turned_partners : (p : Plane) (ds : List (List (ℤ × ℤ))) → HasPartners p ds → HasPartners (turned_plane p) ds
turned_partners p ds h = record {
  across = λ u is.
      let q = h.across u is in
      (number_on p u q.0, q.2, subst (IsInSet (dom_at ds p.first)) (turned_number p u q.0 (number_on p u q.0) refl) q.1);
  first = λ v is. let q = h.second v is in (q.0, q.2, subst (IsInSet (dom_at ds p.first)) (turned_number p q.0 q.1 v q.4) q.3);
  second = λ w is. let q = h.first w is in (q.0, number_on p q.0 w, q.1, q.2, turned_number p q.0 w (number_on p q.0 w) refl);
}

back_partners : (p : Plane) (ds : List (List (ℤ × ℤ))) → HasPartners (turned_plane p) ds → HasPartners p ds
back_partners p ds h = record {
  across = λ u is.
      let q = h.across u is in
      let w = number_on (turned_plane p) u q.0 in
      (w, q.2, subst (IsInSet (dom_at ds p.second)) (turned_back p u w q.0 refl) q.1);
  first = λ w is. let q = h.second w is in (q.0, q.2, subst (IsInSet (dom_at ds p.second)) (turned_back p q.0 w q.1 q.4) q.3);
  second = λ v is. let q = h.first v is in let w = number_on (turned_plane p) q.0 v in (q.0, w, q.1, q.2, turned_back p q.0 w v refl);
}

pub turned_same : (p : Plane) → IsSame (PlaneTruth (turned_plane p)) (PlaneTruth p) (HasPartners (turned_plane p)) (HasPartners p)
turned_same p = record {
  truth = λ a. ((λ on. turned_back p (number_at a p.across) (number_at a p.first) (number_at a p.second) on), (λ on. turned_truth p a on));
  line = λ ds h. back_partners p ds h;
}
