-- What a change of a domain leaves is the part that it keeps.
use Rattle.std.proofs.Common.{◌≡◌, ℤ, ◌≤ℤ◌, ◌<ℤ◌, inl, inr, ◌⊎◌, ◌↔◌, List, [], refl, sym, subst}
use Rattle.fz_sets.specs.Sets.{AreRanges, IsInSet, AreOneSet}
use Rattle.fz_dom.specs.Changes.{IsChange}
use Rattle.fz_dom.specs.declared.change.Change.{Change}
use Rattle.fz_dom.specs.declared.change.Change.TheVariants.{Same, Changed, Wiped}
use Rattle.fz_dom.proofs.Ranges.{same_ranges}
use Rattle.fz_refutes.specs.Boxes.{up_to, above}
use Rattle.fz_refutes.proofs.Halves.{of_up_to, up_to_of, of_above, above_of, up_to_ranges, above_ranges}

-- e is the part of d with a property
pub record IsPart (P : ℤ → Type 0) (d e : List (ℤ × ℤ)) : Type 0 where
  pub ranges : AreRanges e
  pub members : (x : ℤ) → IsInSet e x ↔ (IsInSet d x × P x)

pub low_is : (n : ℤ) (d : List (ℤ × ℤ)) → AreRanges d → IsPart (λ x. x ≤ℤ n) d (up_to n d)
low_is n d are = record { ranges = up_to_ranges n d are; members = λ x. (λ i. of_up_to n d x i, λ i. up_to_of n d x i.0 i.1) }

pub high_is : (n : ℤ) (d : List (ℤ × ℤ)) → AreRanges d → IsPart (λ x. n <ℤ x) d (above n d)
high_is n d are = record { ranges = above_ranges n d are; members = λ x. (λ i. of_above n d x i, λ i. above_of n d x i.0 i.1) }

pub same_part : (P : ℤ → Type 0) (d e f : List (ℤ × ℤ)) → IsPart P d e → IsPart P d f → e ≡ f
same_part P d e f p q = same_ranges e f p.ranges q.ranges (λ x. (λ i. (q.members x).1 ((p.members x).0 i), λ i. (p.members x).1 ((q.members x).0 i)))

pub kept_part : (change : Change) (P : ℤ → Type 0) (d e : List (ℤ × ℤ)) → IsChange change P d e → AreRanges e → (change ≡ Wiped → ⊥) → IsPart P d e
kept_part Same P d e is are ne = record { ranges = are; members = λ x. (λ i. let j : IsInSet d x = subst (λ (s : List (ℤ × ℤ)). IsInSet s x) is.0 i in (j, is.1 x j), λ i. subst (λ (s : List (ℤ × ℤ)). IsInSet s x) (sym is.0) i.0) }
kept_part Changed P d e is are ne = record { ranges = are; members = is.0 }
kept_part Wiped P d e is are ne = absurd (ne refl)

pub wiped_part : (P : ℤ → Type 0) (d e empty : List (ℤ × ℤ)) → IsChange Wiped P d e → AreOneSet empty [] → AreRanges empty → IsPart P d empty
wiped_part P d e empty is none are = record { ranges = are; members = λ x. (λ i. absurd ((none x).0 i), λ i. absurd (is.1 x i.0 i.1)) }

-- a change with another property that says the same of the members
pub other_change : (change : Change) (P Q : ℤ → Type 0) (d e : List (ℤ × ℤ)) → ((x : ℤ) → IsInSet d x → P x ↔ Q x) → IsChange change P d e → IsChange change Q d e
other_change Same P Q d e same is = (is.0, (λ x i. (same x i).0 (is.1 x i)), is.2)
other_change Changed P Q d e same is = ((λ x. (λ i. let j = (is.0 x).0 i in (j.0, (same x j.0).0 j.1), λ i. (is.0 x).1 (i.0, (same x i.0).1 i.1))), is.1, is.2)
other_change Wiped P Q d e same is = (is.0, (λ x i q. is.1 x i ((same x i).1 q)))

not_wiped : (change : Change) → (change ≡ Same) ⊎ (change ≡ Changed) → change ≡ Wiped → ⊥
not_wiped _ (inl e) w = absurd (cc (e, w))
not_wiped _ (inr e) w = absurd (cc (e, w))

pub low_kept : (change : Change) (n k : ℤ) (d set e : List (ℤ × ℤ)) → k ≡ n → d ≡ set → AreRanges set → AreRanges e → IsChange change (λ x. x ≤ℤ k) d e → (change ≡ Same) ⊎ (change ≡ Changed) → e ≡ up_to n set
low_kept change n k d set e same is are now by kept =
    same_part (λ x. x ≤ℤ n) set e (up_to n set)
    (kept_part change (λ x. x ≤ℤ n) set e (subst (λ (z : ℤ). IsChange change (λ x. x ≤ℤ z) set e) same (subst (λ (s : List (ℤ × ℤ)). IsChange change (λ x. x ≤ℤ k) s e) is by)) now (not_wiped change kept))
    (low_is n set are)

pub low_wiped : (change : Change) (n k : ℤ) (d set e empty : List (ℤ × ℤ)) → k ≡ n → d ≡ set → AreRanges set → AreRanges empty → AreOneSet empty [] → IsChange change (λ x. x ≤ℤ k) d e → change ≡ Wiped → empty ≡ up_to n set
low_wiped change n k d set e empty same is are now none by wiped =
    same_part (λ x. x ≤ℤ n) set empty (up_to n set)
    (wiped_part (λ x. x ≤ℤ n) set e empty (subst (λ (r : Change). IsChange r (λ x. x ≤ℤ n) set e) wiped (subst (λ (z : ℤ). IsChange change (λ x. x ≤ℤ z) set e) same (subst (λ (s : List (ℤ × ℤ)). IsChange change (λ x. x ≤ℤ k) s e) is by))) none now)
    (low_is n set are)

pub high_kept : (change : Change) (n k : ℤ) (d set e : List (ℤ × ℤ)) → k ≡ n → d ≡ set → AreRanges set → AreRanges e → IsChange change (λ x. k <ℤ x) d e → (change ≡ Same) ⊎ (change ≡ Changed) → e ≡ above n set
high_kept change n k d set e same is are now by kept =
    same_part (λ x. n <ℤ x) set e (above n set)
    (kept_part change (λ x. n <ℤ x) set e (subst (λ (z : ℤ). IsChange change (λ x. z <ℤ x) set e) same (subst (λ (s : List (ℤ × ℤ)). IsChange change (λ x. k <ℤ x) s e) is by)) now (not_wiped change kept))
    (high_is n set are)

pub high_wiped : (change : Change) (n k : ℤ) (d set e empty : List (ℤ × ℤ)) → k ≡ n → d ≡ set → AreRanges set → AreRanges empty → AreOneSet empty [] → IsChange change (λ x. k <ℤ x) d e → change ≡ Wiped → empty ≡ above n set
high_wiped change n k d set e empty same is are now none by wiped =
    same_part (λ x. n <ℤ x) set empty (above n set)
    (wiped_part (λ x. n <ℤ x) set e empty (subst (λ (r : Change). IsChange r (λ x. n <ℤ x) set e) wiped (subst (λ (z : ℤ). IsChange change (λ x. z <ℤ x) set e) same (subst (λ (s : List (ℤ × ℤ)). IsChange change (λ x. k <ℤ x) s e) is by))) none now)
    (high_is n set are)
