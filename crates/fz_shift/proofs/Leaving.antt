-- Numbers that leave one variable, a run of bits after the other and a word after the other.
use Rattle.std.proofs.Common.{◌≡◌, ◌∙◌, ℕ, ◌<◌, ◌≤◌, ◌<ℤ◌, ◌+ℤ◌, List, arith, inl, inr, length, pos, refl, subst, sym}
use Rattle.std.specs.Prelude.{◌↔◌, ℤ}
use Rattle.std.specs.Int.{bit_at}
use Rattle.std.proofs.lemmas.Bool.{cases_eq}
use Rattle.std.proofs.lemmas.Int.{ints, by_lt_z}
use Rattle.fz_sets.specs.Sets.{IsInSet}
use Rattle.fz_bits.specs.Windows.{IsBit}
use Rattle.fz_bits.specs.Words.{AreOnes, HasBit}
use Rattle.fz_bits.proofs.Windows.{none_in}
use Rattle.fz_dom.specs.Changes.{IsFromTo}
use Rattle.fz_dom.proofs.Runs.{offset_in}
use Rattle.fz_strength.specs.Domains.{Within, dom_at, number_at}
use Rattle.fz_prop.specs.Matching.{AreMatching, IsPairOf}
use Rattle.fz_prop.specs.Stores.{Shrinks, Stored}
use Rattle.fz_prop.proofs.Partnering.{matching_as}
use Rattle.fz_prop.proofs.Steps.{same_shrinks}
use Rattle.fz_prop.proofs.Twice.{shrinks_twice}
use Rattle.fz_shift.specs.declared.plane.Plane.{Plane}
use Rattle.fz_shift.specs.Planes.{IsOnPlane, number_on}
use Rattle.fz_shift.specs.Points.{IsMade, IsSpared, KeepsAt}
use Rattle.fz_shift.proofs.Kept.{ArePairs}
use Rattle.fz_shift.proofs.Thirds.{made_of}
use Rattle.fz_shift.proofs.Turning.{turned_plane}

-- ---- one variable keeps some numbers, twice

pub keeps_all : (v : ℕ) (P : ℤ → Type 0) (ds : List (List (ℤ × ℤ))) → ((x : ℤ) → IsInSet (dom_at ds v) x → P x) → KeepsAt v P ds ds
keeps_all v P ds all = record { kept = λ x. ((λ is. (is, all x is)), (λ is. is.0)); others = λ u other. refl }

pub keeps_twice : (v : ℕ) (P Q S : ℤ → Type 0) (ds es fs : List (List (ℤ × ℤ))) → ((x : ℤ) → IsInSet (dom_at ds v) x → S x ↔ (P x × Q x)) → KeepsAt v P ds es → KeepsAt v Q es fs
    → KeepsAt v S ds fs
keeps_twice v P Q S ds es fs both one two = record {
  kept = λ x. (
    (λ is. let later = (two.kept x).0 is in let before = (one.kept x).0 later.0 in (before.0, (both x before.0).1 (before.1, later.1))),
    (λ is. let h = (both x is.0).0 is.1 in (two.kept x).1 ((one.kept x).1 (is.0, h.0), h.1)),
  );
  others = λ u other. two.others u other ∙ one.others u other;
}

pub keeps_as : (v : ℕ) (P S : ℤ → Type 0) (ds es : List (List (ℤ × ℤ))) → ((x : ℤ) → IsInSet (dom_at ds v) x → P x ↔ S x) → KeepsAt v P ds es → KeepsAt v S ds es
keeps_as v P S ds es same one = record {
  kept = λ x. (
    (λ is. let h = (one.kept x).0 is in (h.0, (same x h.0).0 h.1)),
    (λ is. (one.kept x).1 (is.0, (same x is.0).1 is.1)),
  );
  others = one.others;
}

-- an assignment whose number has the property is within what is kept
pub within_keeps : (v : ℕ) (P : ℤ → Type 0) (ds es : List (List (ℤ × ℤ))) (a : List ℤ) → length es ≡ length ds → KeepsAt v P ds es → Within ds a → P (number_at a v) → Within es a
within_keeps v P ds es a size one within holds = record {
  size = within.size ∙ sym size;
  members = λ u inside. elim (cases_eq u v) [
    | inl e ↦ subst (λ (w : ℕ). IsInSet (dom_at es w) (number_at a w)) (sym e)
        ((one.kept (number_at a v)).1 (within.members v (subst (λ (w : ℕ). w < length ds) e (omega (arith, inside, size))), holds))
    | inr ne ↦ rw (one.others u ne) (within.members u (omega (arith, inside, size)))
  ];
}

-- what a loop has done to a store
pub record HasKept (v : ℕ) (P : ℤ → Type 0) (s t : Stored) : Type 0 where
  pub shrinks : Shrinks s t
  pub keeps : KeepsAt v P s.doms t.doms

pub kept_none : (v : ℕ) (P : ℤ → Type 0) (s : Stored) → ((x : ℤ) → IsInSet (dom_at s.doms v) x → P x) → HasKept v P s s
kept_none v P s all = record { shrinks = same_shrinks s; keeps = keeps_all v P s.doms all }

pub kept_more : (v : ℕ) (P Q S : ℤ → Type 0) (s t u : Stored) → ((x : ℤ) → IsInSet (dom_at s.doms v) x → S x ↔ (P x × Q x)) → HasKept v P s t → Shrinks t u → KeepsAt v Q t.doms u.doms
    → HasKept v S s u
kept_more v P Q S s t u both one shrinks two = record {
  shrinks = shrinks_twice s t u one.shrinks shrinks;
  keeps = keeps_twice v P Q S s.doms t.doms u.doms both one.keeps two;
}

pub still_within : (v : ℕ) (P : ℤ → Type 0) (s t : Stored) (a : List ℤ) → HasKept v P s t → Within s.doms a → P (number_at a v) → Within t.doms a
still_within v P s t a has within holds = within_keeps v P s.doms t.doms a has.shrinks.narrower.size has.keeps within holds

-- ---- a run of bits

-- a number whose bit isn't in a word, or is still left of it
abbrev pub IsStill : ℤ → ℕ → ℕ → ℤ → Type 0
IsStill base word left x = IsBit base word x → IsBit base left x

pub run_leaves : (base : ℤ) (word left next first last : ℕ) (low high : ℤ) → low ≡ base +ℤ pos first → high ≡ base +ℤ pos last → last < 64 → ((i : ℕ) → i < 64 → HasBit left i → HasBit word i)
    → ((k : ℕ) → first ≤ k → k ≤ last → HasBit left k) → ((k : ℕ) → k < first → bit_at left k ≡ 0) → AreOnes next (λ k. HasBit left k × (last < k))
    → (x : ℤ) → IsStill base word next x ↔ (IsStill base word left x × (IsFromTo low high x → ⊥))
run_leaves base word left next first last low high is_low is_high small among run before ones x =
    let out : IsStill base word next x → IsFromTo low high x → ⊥ = λ still inside.
    let a = inside.0 in
    let b = inside.1 in
    let o = offset_in base x (omega (arith, ints, a, is_low)) in
    let at = o.1 in
    let le : o.0 ≤ last = omega (arith, ints, b, is_high, at) in
    let little : o.0 < 64 = omega (arith, small, le) in
    let n = still (o.0, little, at, among o.0 little (run o.0 (omega (arith, ints, a, is_low, at)) le)) in
    let above = ((ones n.0 n.1).0 n.3).1 in
    let there = n.2 in
    omega (arith, ints, above, there, at, le)
    in (
      (λ still. (
        (λ is. let n = still is in (n.0, n.1, n.2, ((ones n.0 n.1).0 n.3).0)),
        out still,
      )),
      (λ h is.
          let b = h.0 is in
          let at = b.2 in
          let one = b.3 in
          let above : last < b.0 = by_lt_z (pos b.0) (pos first)
          (λ lt. let z = before b.0 (omega (arith, ints, lt)) in absurd (omega (arith, z, one)))
          (λ ge. by_lt_z (pos last) (pos b.0) (λ lt. omega (arith, ints, lt)) (λ le. absurd (h.1 (omega (arith, ints, is_low, at, ge), omega (arith, ints, is_high, at, le))))) in
          (b.0, b.1, at, (ones b.0 b.1).1 (one, above))),
    )

-- where none is left, or all are
pub still_none : (base : ℤ) (word left : ℕ) (x : ℤ) → left ≡ 0 → IsStill base word left x ↔ (IsBit base word x → ⊥)
still_none base word left x none = (
  (λ still is. none_in base x (subst (λ (w : ℕ). IsBit base w x) none (still is))),
  (λ not is. absurd (not is)),
)

-- ---- the numbers of a word that aren't made

pub lost_bits : (base : ℤ) (d : List (ℤ × ℤ)) (made word lost : ℕ) → AreOnes word (λ i. IsInSet d (base +ℤ pos i)) → AreOnes lost (λ k. HasBit word k × (HasBit made k → ⊥))
    → (x : ℤ) → IsInSet d x → (IsBit base lost x → ⊥) ↔ IsSpared base made x
lost_bits base d made word lost has ones x in_d = (
  (λ not i small at. elim (cases_eq (bit_at made i) 1) [
    | inl e ↦ e
    | inr ne ↦ absurd (not (i, small, at, (ones i small).1 ((has i small).1 (subst (IsInSet d) at in_d), ne)))
  ]),
  (λ spared bit. ((ones bit.0 bit.1).0 bit.3).1 (spared bit.0 bit.1 bit.2)),
)

-- ---- word by word

pub word_more : (base : ℤ) (made : ℕ) (M : ℤ → Type 0) → AreOnes made (λ i. M (base +ℤ pos i)) → (x : ℤ)
    → (x <ℤ (base +ℤ pos 64) → M x) ↔ ((x <ℤ base → M x) × IsSpared base made x)
word_more base made M ones x = (
  (λ h. (
    (λ lt. h (omega (arith, ints, lt))),
    (λ i small at. (ones i small).1 (subst M at (h (omega (arith, ints, small, at))))),
  )),
  (λ h lt. by_lt_z x base
      (λ below. h.0 below)
      (λ ge. let o = offset_in base x ge in let at = o.1 in let small : o.0 < 64 = omega (arith, ints, at, lt) in subst M (sym at) ((ones o.0 small).0 (h.1 o.0 small at)))),
)

-- ---- pairs

pub far_pairs : (p : Plane) (ds : List (List (ℤ × ℤ))) (D E P Q : ℤ → Type 0) → ((u : ℤ) → D u ↔ IsInSet (dom_at ds p.across) u) → ((w : ℤ) → E w ↔ IsInSet (dom_at ds p.first) w)
    → AreMatching (IsOnPlane p (dom_at ds p.second)) D E P Q → ArePairs p ds D E P Q (IsMade p P Q)
far_pairs p ds D E P Q across first matching = record { across = across; first = first; matching = matching; thirds = λ v is. ((λ made. made), (λ made. made)) }

-- where the second variable is narrow
pub near_pairs : (p : Plane) (ds : List (List (ℤ × ℤ))) (D E P Q V L T : ℤ → Type 0) → ((u : ℤ) → D u ↔ IsInSet (dom_at ds p.across) u) → ((w : ℤ) → E w ↔ IsInSet (dom_at ds p.first) w)
    → ((v : ℤ) → V v ↔ IsInSet (dom_at ds p.second) v) → AreMatching (λ u w. V (number_on p u w)) D E P Q → AreMatching (λ u v. Q (number_on (turned_plane p) u v)) P V L T → ArePairs p ds D E P Q T
near_pairs p ds D E P Q V L T across first second found thirds =
    let are = matching_as (λ u w. V (number_on p u w)) D E P Q (λ u w. IsPairOf (IsOnPlane p (dom_at ds p.second)) D E u w)
    (λ u w. (
      (λ q. record { partners = (second (number_on p u w)).0 q.partners; first = q.first; second = q.second }),
      (λ q. record { partners = (second (number_on p u w)).1 q.partners; first = q.first; second = q.second }),
    )) found in
    let made = made_of p P Q V L T thirds in
    record {
      across = across;
      first = first;
      matching = record { firsts = are.0; seconds = are.1 };
      thirds = λ v is. ((λ third. ((made v).0 third).1), (λ h. (made v).1 ((second v).1 is, h)));
    }
