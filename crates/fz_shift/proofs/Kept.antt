-- What is kept of three variables: the numbers that lie on a plane with what is left of the others.
use Rattle.std.proofs.Common.{◌≡◌, ◌∙◌, ◌⊎◌, ℕ, List, arith, inl, inr, length, refl, subst, sym}
use Rattle.std.specs.Prelude.{◌↔◌, ℤ}
use Rattle.fz_sets.specs.Sets.{IsInSet}
use Rattle.fz_dom.proofs.Ranges.{least_member}
use Rattle.fz_dom.specs.Shape.{least}
use Rattle.fz_dom.specs.declared.change.Change.{Change}
use Rattle.fz_dom.specs.declared.change.Change.TheVariants.{Same, Changed, Wiped}
use Rattle.fz_strength.specs.Domains.{AreDomains, IsNarrower, Within, dom_at, number_at}
use Rattle.fz_strength.specs.Events.{IsOnly}
use Rattle.fz_prop.specs.Matching.{AreMatching, IsPairOf}
use Rattle.fz_prop.specs.Stores.{IsChangeAt, Stored}
use Rattle.fz_prop.proofs.TermChanges.{only_in}
use Rattle.fz_shift.specs.declared.plane.Plane.{Plane}
use Rattle.fz_shift.specs.Planes.{AreApart, AreInside, HasPartners, IsOnPlane, PlaneTruth, number_on}
use Rattle.fz_shift.specs.Points.{AreOfPoints, IsMade, IsPoint, KeepsAt, KeepsTwo}

-- ---- changes of one variable and of two

keeps_same : (v : ℕ) (P : ℤ → Type 0) (s t : Stored) → IsChangeAt Same v P s t → KeepsAt v P s.doms t.doms
keeps_same v P s t h = rw h.0 (record {
  kept = λ x. ((λ is. (is, h.1 x is)), (λ is. is.0));
  others = λ u other. refl;
})

wiped_same : Wiped ≡ Same → ⊥
wiped_same e = cc

wiped_changed : Wiped ≡ Changed → ⊥
wiped_changed e = cc

pub keeps_either : (change : Change) (v : ℕ) (P : ℤ → Type 0) (s t : Stored) → (change ≡ Same) ⊎ (change ≡ Changed) → IsChangeAt change v P s t → KeepsAt v P s.doms t.doms
keeps_either Same v P s t is h = keeps_same v P s t h
keeps_either Changed v P s t is h = record { kept = h.kept; others = h.others }
keeps_either Wiped v P s t (inl e) h = absurd (wiped_same e)
keeps_either Wiped v P s t (inr e) h = absurd (wiped_changed e)

pub two_kept : (p : Plane) (P Q : ℤ → Type 0) (ds es fs : List (List (ℤ × ℤ))) → AreApart p → KeepsAt p.first Q ds es → KeepsAt p.across P es fs → KeepsTwo p P Q ds fs
two_kept p P Q ds es fs apart one two = record {
  across = subst (λ (d : List (ℤ × ℤ)). (x : ℤ) → IsInSet (dom_at fs p.across) x ↔ (IsInSet d x × P x)) (one.others p.across apart.first) two.kept;
  first = subst (λ (d : List (ℤ × ℤ)). (x : ℤ) → IsInSet d x ↔ (IsInSet (dom_at ds p.first) x × Q x)) (sym (two.others p.first (λ e. apart.first (sym e)))) one.kept;
  second = two.others p.second (λ e. apart.second (sym e)) ∙ one.others p.second (λ e. apart.others (sym e));
}

-- ---- points

-- what is known of the pairs of numbers of two of the three that were left, and which of them are kept
pub record ArePairs (p : Plane) (ds : List (List (ℤ × ℤ))) (D E P Q T : ℤ → Type 0) : Type 0 where
  pub across : (u : ℤ) → D u ↔ IsInSet (dom_at ds p.across) u
  pub first : (w : ℤ) → E w ↔ IsInSet (dom_at ds p.first) w
  pub matching : AreMatching (IsOnPlane p (dom_at ds p.second)) D E P Q
  pub thirds : (v : ℤ) → IsInSet (dom_at ds p.second) v → T v ↔ IsMade p P Q v

point_of_pair : (p : Plane) (ds : List (List (ℤ × ℤ))) (D E P Q T : ℤ → Type 0) (u w : ℤ) → ArePairs p ds D E P Q T → IsPairOf (IsOnPlane p (dom_at ds p.second)) D E u w
    → IsPoint p ds u w (number_on p u w)
point_of_pair p ds D E P Q T u w are pair = record { across = (are.across u).0 pair.first; first = (are.first w).0 pair.second; second = pair.partners; on = refl }

pair_of_point : (p : Plane) (ds : List (List (ℤ × ℤ))) (D E P Q T : ℤ → Type 0) (u w v : ℤ) → ArePairs p ds D E P Q T → IsPoint p ds u w v
    → IsPairOf (IsOnPlane p (dom_at ds p.second)) D E u w
pair_of_point p ds D E P Q T u w v are point = record {
  partners = subst (IsInSet (dom_at ds p.second)) point.on point.second;
  first = (are.across u).1 point.across;
  second = (are.first w).1 point.first;
}

pub of_points : (p : Plane) (ds es fs : List (List (ℤ × ℤ))) (D E P Q T : ℤ → Type 0) → AreApart p → ArePairs p ds D E P Q T → KeepsAt p.second T ds es → KeepsTwo p P Q es fs → AreOfPoints p ds fs
of_points p ds es fs D E P Q T apart are one two =
    let same_across : dom_at es p.across ≡ dom_at ds p.across = one.others p.across apart.second in
    let same_first : dom_at es p.first ≡ dom_at ds p.first = one.others p.first apart.others in
    record {
      across = λ u. (
        (λ is. let h = (are.matching.firsts u).0 ((two.across u).0 is).1 in (h.0, number_on p u h.0, point_of_pair p ds D E P Q T u h.0 are h.1)),
        (λ h. (two.across u).1 (
          subst (λ (d : List (ℤ × ℤ)). IsInSet d u) (sym same_across) h.2.across,
          (are.matching.firsts u).1 (h.0, pair_of_point p ds D E P Q T u h.0 h.1 are h.2),
        )),
      );
      first = λ w. (
        (λ is. let h = (are.matching.seconds w).0 ((two.first w).0 is).1 in (h.0, number_on p h.0 w, point_of_pair p ds D E P Q T h.0 w are h.1)),
        (λ h. (two.first w).1 (
          subst (λ (d : List (ℤ × ℤ)). IsInSet d w) (sym same_first) h.2.first,
          (are.matching.seconds w).1 (h.0, pair_of_point p ds D E P Q T h.0 w h.1 are h.2),
        )),
      );
      second = λ v. (
        (λ is.
            let was = (one.kept v).0 (subst (λ (d : List (ℤ × ℤ)). IsInSet d v) two.second is) in
            let h = (are.thirds v was.0).0 was.1 in (
              h.0,
              h.1,
              record {
                across = (are.across h.0).0 ((are.matching.firsts h.0).0 h.2).1.first;
                first = (are.first h.1).0 ((are.matching.seconds h.1).0 h.3).1.second;
                second = was.0;
                on = h.4;
              },
            )),
        (λ h.
            let pair = pair_of_point p ds D E P Q T h.0 h.1 v are h.2 in
            subst (λ (d : List (ℤ × ℤ)). IsInSet d v) (sym two.second) ((one.kept v).1 (
              h.2.second,
              (are.thirds v h.2.second).1 (h.0, h.1, (are.matching.firsts h.0).1 (h.1, pair), (are.matching.seconds h.1).1 (h.0, pair), h.2.on),
            ))),
      );
    }

-- the numbers of an assignment are such a point, and kept
pub point_within : (p : Plane) (ds : List (List (ℤ × ℤ))) (a : List ℤ) → AreInside (length ds) p → PlaneTruth p a → Within ds a
    → IsPoint p ds (number_at a p.across) (number_at a p.first) (number_at a p.second)
point_within p ds a inside truth within = record {
  across = within.members p.across inside.across;
  first = within.members p.first inside.first;
  second = within.members p.second inside.second;
  on = truth;
}

pub all_kept : (p : Plane) (ds : List (List (ℤ × ℤ))) (D E P Q T : ℤ → Type 0) (a : List ℤ) → AreInside (length ds) p → ArePairs p ds D E P Q T → PlaneTruth p a → Within ds a
    → P (number_at a p.across) × Q (number_at a p.first) × T (number_at a p.second)
all_kept p ds D E P Q T a inside are truth within =
    let u = number_at a p.across in
    let w = number_at a p.first in
    let v = number_at a p.second in
    let point = point_within p ds a inside truth within in
    let pair = pair_of_point p ds D E P Q T u w v are point in
    let first = (are.matching.firsts u).1 (w, pair) in
    let second = (are.matching.seconds w).1 (u, pair) in
    (first, second, (are.thirds v point.second).1 (u, w, first, second, truth))

-- what is kept has partners
pub partners_left : (p : Plane) (ds es : List (List (ℤ × ℤ))) → AreOfPoints p ds es → HasPartners p es
partners_left p ds es are = record {
  across = λ u is.
      let h = (are.across u).0 is in
      (h.0, (are.first h.0).1 (u, h.1, h.2), subst (IsInSet (dom_at es p.second)) h.2.on ((are.second h.1).1 (u, h.0, h.2)));
  first = λ w is.
      let h = (are.first w).0 is in
      (h.0, (are.across h.0).1 (w, h.1, h.2), subst (IsInSet (dom_at es p.second)) h.2.on ((are.second h.1).1 (h.0, w, h.2)));
  second = λ v is.
      let h = (are.second v).0 is in
      (h.0, h.1, (are.across h.0).1 (h.1, v, h.2), (are.first h.1).1 (h.0, v, h.2), h.2.on);
}

-- ---- where two of the three are fixed

all_on : (p : Plane) (es : List (List (ℤ × ℤ))) (u0 w0 u w v : ℤ) → HasPartners p es → IsOnly (dom_at es p.across) u0 → IsOnly (dom_at es p.first) w0
    → IsInSet (dom_at es p.across) u → IsInSet (dom_at es p.first) w → IsInSet (dom_at es p.second) v → v ≡ number_on p u w
all_on p es u0 w0 u w v h only_u only_w in_u in_w in_v =
    let q = h.second v in_v in
    let one : q.0 ≡ u = only_in (dom_at es p.across) u0 q.0 only_u q.2 ∙ sym (only_in (dom_at es p.across) u0 u only_u in_u) in
    let two : q.1 ≡ w = only_in (dom_at es p.first) w0 q.1 only_w q.3 ∙ sym (only_in (dom_at es p.first) w0 w only_w in_w) in
    subst (λ (x : ℤ). v ≡ number_on p u x) two (subst (λ (x : ℤ). v ≡ number_on p x q.1) one q.4)

pub fixed_truth : (p : Plane) (es : List (List (ℤ × ℤ))) (u w : ℤ) (a : List ℤ) → AreInside (length es) p → HasPartners p es → IsOnly (dom_at es p.across) u → IsOnly (dom_at es p.first) w
    → Within es a → PlaneTruth p a
fixed_truth p es u w a inside h only_u only_w within =
    all_on p es u w (number_at a p.across) (number_at a p.first) (number_at a p.second) h only_u only_w
    (within.members p.across inside.across) (within.members p.first inside.first) (within.members p.second inside.second)

pub fixed_partners : (p : Plane) (es fs : List (List (ℤ × ℤ))) (u0 w0 : ℤ) → AreInside (length es) p → HasPartners p es → IsOnly (dom_at es p.across) u0 → IsOnly (dom_at es p.first) w0
    → AreDomains fs → IsNarrower es fs → HasPartners p fs
fixed_partners p es fs u0 w0 inside h only_u only_w domains narrower =
    let size = narrower.size in
    let du = domains p.across (omega (arith, inside.across, size)) in
    let dw = domains p.first (omega (arith, inside.first, size)) in
    let dv = domains p.second (omega (arith, inside.second, size)) in
    let some_u = (least_member (dom_at fs p.across) du.1 du.0.0).0 in
    let some_w = (least_member (dom_at fs p.first) dw.1 dw.0.0).0 in
    let some_v = (least_member (dom_at fs p.second) dv.1 dv.0.0).0 in
    let on : (u w v : ℤ) → IsInSet (dom_at fs p.across) u → IsInSet (dom_at fs p.first) w → IsInSet (dom_at fs p.second) v → v ≡ number_on p u w = λ u w v is_u is_w is_v.
    all_on p es u0 w0 u w v h only_u only_w (narrower.members p.across u is_u) (narrower.members p.first w is_w) (narrower.members p.second v is_v) in
    record {
      across = λ u is. (least (dom_at fs p.first), some_w, subst (IsInSet (dom_at fs p.second)) (on u (least (dom_at fs p.first)) (least (dom_at fs p.second)) is some_w some_v) some_v);
      first = λ w is. (least (dom_at fs p.across), some_u, subst (IsInSet (dom_at fs p.second)) (on (least (dom_at fs p.across)) w (least (dom_at fs p.second)) some_u is some_v) some_v);
      second = λ v is. (least (dom_at fs p.across), least (dom_at fs p.first), some_u, some_w, on (least (dom_at fs p.across)) (least (dom_at fs p.first)) v some_u some_w is);
    }
