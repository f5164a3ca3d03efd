-- Numbers that lie on a plane, as bits: the partners of a number across, and those that the numbers of two properties make.
use Rattle.std.proofs.Common.{◌≡◌, ℕ, refl, subst, sym, arith}
use Rattle.std.specs.Prelude.{◌↔◌, ◌≤ℤ◌, ℤ, pos, ◌+ℤ◌}
use Rattle.std.proofs.lemmas.Int.{ints}
use Rattle.fz_bits.specs.Words.{HasBit, AreOnes}
use Rattle.fz_bits.specs.Windows.{IsBit}
use Rattle.fz_prop.specs.Matching.{AreMatching}
use Rattle.fz_shift.specs.declared.plane.Plane.{Plane}
use Rattle.fz_shift.specs.Planes.{number_on}
use Rattle.fz_shift.specs.Points.{IsMade}
use Rattle.fz_shift.proofs.Turning.{turned_plane, turned_number, turned_back}

-- the bits of the second variable's numbers, as those of the first one's
pub partner_bits : (p : Plane) (u start from : ℤ) (S : ℤ → Type 0) (word : ℕ) → from ≡ number_on p u start → AreOnes word (λ i. S (from +ℤ pos i))
    → AreOnes word (λ i. S (number_on p u (start +ℤ pos i)))
partner_bits p u start from S word is ones = λ i small.
    let same : (from +ℤ pos i) ≡ number_on p u (start +ℤ pos i) = omega (arith, ints, is) in
    ((λ bit. subst S same ((ones i small).0 bit)), (λ has. (ones i small).1 (subst S (sym same) has)))

-- the second variable's numbers with a partner across are those that are made
pub made_of : (p : Plane) (P Q V L T : ℤ → Type 0) → AreMatching (λ u v. Q (number_on (turned_plane p) u v)) P V L T → (v : ℤ) → T v ↔ (V v × IsMade p P Q v)
made_of p P Q V L T h v = (
  (λ is.
      let pair = (h.seconds v).0 is in
      (pair.1.second, (pair.0, number_on (turned_plane p) pair.0 v, pair.1.first, pair.1.partners, turned_back p pair.0 (number_on (turned_plane p) pair.0 v) v refl))),
  (λ is.
      let made = is.1 in
      (h.seconds v).1 (made.0, record { partners = subst Q (turned_number p made.0 made.1 v made.4) made.3; first = made.2; second = is.0 })),
)

pub made_ones : (p : Plane) (P Q V L : ℤ → Type 0) (base : ℤ) (word : ℕ) → ((x : ℤ) → V x ↔ ((base ≤ℤ x) × (x ≤ℤ (base +ℤ pos 63))))
    → AreMatching (λ u v. Q (number_on (turned_plane p) u v)) P V L (λ v. IsBit base word v) → AreOnes word (λ i. IsMade p P Q (base +ℤ pos i))
made_ones p P Q V L base word all h = λ i small.
    let made = made_of p P Q V L (λ v. IsBit base word v) h (base +ℤ pos i) in (
      (λ bit. (made.0 (i, small, refl, bit)).1),
      (λ is.
          let bit = made.1 ((all (base +ℤ pos i)).1 (omega (arith, ints), omega (arith, ints, small)), is) in
          let at = bit.2 in
          subst (λ (k : ℕ). HasBit word k) (omega (arith, ints, at)) bit.3),
    )
