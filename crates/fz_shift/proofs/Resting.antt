-- A sum rests where all numbers have partners: the one at each end of a term has some that are at least and at most at the ends of theirs.
use Rattle.std.proofs.Common.{◌≡◌, ◌<◌, List, [], ◌∷◌, arith, length, refl}
use Rattle.std.specs.Prelude.{ℤ, pos, negsuc, neg_ℤ, ◌*ℤ◌}
use Rattle.std.proofs.lemmas.Int.{ints}
use Rattle.fz_sets.specs.Sets.{AreRanges, IsInSet}
use Rattle.fz_dom.specs.Shape.{least, greatest}
use Rattle.fz_dom.proofs.Ranges.{least_member, greatest_member}
use Rattle.fz_spec.specs.declared.term.Term.{Term}
use Rattle.fz_spec.specs.declared.term.Term.TheVariants.{Var}
use Rattle.fz_spec.specs.declared.shape.Relation.TheVariants.{Equal}
use Rattle.fz_strength.specs.Domains.{dom_at, AreDomains}
use Rattle.fz_strength.specs.Sums.{least_product, greatest_product, RestsAtMost, RestsSum}
use Rattle.fz_shift.specs.declared.plane.Plane.{Plane}
use Rattle.fz_shift.specs.Planes.{AreInside, HasPartners}
use Rattle.fz_shift.proofs.Spans.{product_above, spanned}
use Rattle.fz_shift.proofs.Turning.{turned_inside, turned_partners, turned_plane}

least_reached : (k : ℤ) (d : List (ℤ × ℤ)) → 0 < length d → AreRanges d → (x : ℤ) × IsInSet d x × ((k *ℤ x) ≡ least_product k d)
least_reached (pos n) d some ranges = (least d, (least_member d some ranges).0, refl)
least_reached (negsuc n) d some ranges = (greatest d, (greatest_member d some ranges).0, refl)

greatest_reached : (k : ℤ) (d : List (ℤ × ℤ)) → 0 < length d → AreRanges d → (x : ℤ) × IsInSet d x × ((k *ℤ x) ≡ greatest_product k d)
greatest_reached (pos n) d some ranges = (greatest d, (greatest_member d some ranges).0, refl)
greatest_reached (negsuc n) d some ranges = (least d, (least_member d some ranges).0, refl)

at_most : (p : Plane) (ds : List (List (ℤ × ℤ))) → AreDomains ds → AreInside (length ds) p → HasPartners p ds
    → RestsAtMost ds (p.factor ∷ pos 1 ∷ negsuc 0 ∷ []) (Var p.across ∷ Var p.first ∷ Var p.second ∷ []) p.number
at_most p ds domains inside h =
    let k = p.factor in
    let du = domains p.across inside.across in
    let dw = domains p.first inside.first in
    let dv = domains p.second inside.second in
    let low_u = least_reached k (dom_at ds p.across) du.1 du.0.0 in
    let high_u = greatest_reached k (dom_at ds p.across) du.1 du.0.0 in
    let low_w = least_member (dom_at ds p.first) dw.1 dw.0.0 in
    let high_w = greatest_member (dom_at ds p.first) dw.1 dw.0.0 in
    let low_v = least_member (dom_at ds p.second) dv.1 dv.0.0 in
    let high_v = greatest_member (dom_at ds p.second) dv.1 dv.0.0 in
    let a = h.across low_u.0 low_u.1 in
    let b = h.across high_u.0 high_u.1 in
    let d = h.first (greatest (dom_at ds p.first)) high_w.0 in
    let e = h.second (least (dom_at ds p.second)) low_v.0 in
    let a_w = low_w.1 a.0 a.1 in
    let a_v = high_v.1 _ a.2 in
    let b_w = low_w.1 b.0 b.1 in
    let b_v = high_v.1 _ b.2 in
    let ends = spanned ds (Var p.across) domains inside.across in
    let d_u = product_above k (dom_at ds p.across) d.0 ends d.1 in
    let d_v = high_v.1 _ d.2 in
    let e_u = product_above k (dom_at ds p.across) e.0 ends e.2 in
    let e_w = low_w.1 e.1 e.3 in
    let e_v = e.4 in
    let low_is = low_u.2 in
    let high_is = high_u.2 in
    record {
      reached = omega (arith, ints, low_is, a_w, a_v);
      near = (omega (arith, ints, high_is, b_w, b_v), (omega (arith, ints, d_u, d_v), (omega (arith, ints, e_u, e_w, e_v), tt)));
    }

-- ---- the three in another order

seconds_at_most : (ds : List (List (ℤ × ℤ))) (f g h : ℤ) (x y z : Term) (n : ℤ) → RestsAtMost ds (f ∷ g ∷ h ∷ []) (x ∷ y ∷ z ∷ []) n → RestsAtMost ds (f ∷ h ∷ g ∷ []) (x ∷ z ∷ y ∷ []) n
seconds_at_most ds f g h x y z n rests =
    let reached = rests.reached in
    let one = rests.near.0 in
    let two = rests.near.1.0 in
    let three = rests.near.1.1.0 in
    record {
      reached = omega (arith, ints, reached);
      near = (omega (arith, ints, one), (omega (arith, ints, three), (omega (arith, ints, two), tt)));
    }

firsts_at_most : (ds : List (List (ℤ × ℤ))) (f g h : ℤ) (x y z : Term) (n : ℤ) → RestsAtMost ds (f ∷ g ∷ h ∷ []) (x ∷ y ∷ z ∷ []) n → RestsAtMost ds (g ∷ f ∷ h ∷ []) (y ∷ x ∷ z ∷ []) n
firsts_at_most ds f g h x y z n rests =
    let reached = rests.reached in
    let one = rests.near.0 in
    let two = rests.near.1.0 in
    let three = rests.near.1.1.0 in
    record {
      reached = omega (arith, ints, reached);
      near = (omega (arith, ints, two), (omega (arith, ints, one), (omega (arith, ints, three), tt)));
    }

pub seconds_rest : (ds : List (List (ℤ × ℤ))) (f g h : ℤ) (x y z : Term) (n : ℤ) → RestsSum Equal ds (f ∷ g ∷ h ∷ []) (x ∷ y ∷ z ∷ []) n → RestsSum Equal ds (f ∷ h ∷ g ∷ []) (x ∷ z ∷ y ∷ []) n
seconds_rest ds f g h x y z n rests = (seconds_at_most ds f g h x y z n rests.0, seconds_at_most ds (neg_ℤ f) (neg_ℤ g) (neg_ℤ h) x y z (neg_ℤ n) rests.1)

pub firsts_rest : (ds : List (List (ℤ × ℤ))) (f g h : ℤ) (x y z : Term) (n : ℤ) → RestsSum Equal ds (f ∷ g ∷ h ∷ []) (x ∷ y ∷ z ∷ []) n → RestsSum Equal ds (g ∷ f ∷ h ∷ []) (y ∷ x ∷ z ∷ []) n
firsts_rest ds f g h x y z n rests = (firsts_at_most ds f g h x y z n rests.0, firsts_at_most ds (neg_ℤ f) (neg_ℤ g) (neg_ℤ h) x y z (neg_ℤ n) rests.1)

-- ---- both orders

pub partners_rest : (p : Plane) (ds : List (List (ℤ × ℤ))) → AreDomains ds → AreInside (length ds) p → HasPartners p ds
    → RestsSum Equal ds (p.factor ∷ pos 1 ∷ negsuc 0 ∷ []) (Var p.across ∷ Var p.first ∷ Var p.second ∷ []) p.number
partners_rest p ds domains inside h = (
  at_most p ds domains inside h,
  seconds_at_most ds (neg_ℤ p.factor) (pos 1) (negsuc 0) (Var p.across) (Var p.second) (Var p.first) (neg_ℤ p.number)
      (at_most (turned_plane p) ds domains (turned_inside p (length ds) inside) (turned_partners p ds h)),
)
