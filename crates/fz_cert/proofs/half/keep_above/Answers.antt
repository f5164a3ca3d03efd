use Rattle.std.proofs.Common.{◌≡◌, refl, arith, ℤ, pos, ◌+ℤ◌, ◌<ℤ◌, ◌↔◌}
use Rattle.std.proofs.Math.Facts.{to_z-of_z}
use Rattle.std.proofs.lemmas.Int.{ints}
use Rattle.fz_sets.specs.Sets.{IsInSet}
use Rattle.std.specs.Prelude.{List}
use Rattle.fz_dom.specs.Shape.{IsDomain}
use Rattle.fz_dom.specs.Changes.{IsFromTo}
use Rattle.fz_dom.proofs.Ranges.{within_limits}
use Rattle.std.proofs.Common.{SFits, to_z, of_z, w32, rules}
use Rattle.fz_dom.proofs.Kept.{fits_above}
use Rattle.fz_cert.proofs.Parts.{other_change}
use Rattle.fz_cert.proofs.half.keep_above.Goals as goal

pub returns-then-number-eq2147483647-clause-change : goal.returns-then-number-eq2147483647-clause-change
returns-then-number-eq2147483647-clause-change c = (
  refl,
  λ x i lt.
      let limits = within_limits c.args.set.now x c.is_empty.ensures.domain.1 i in
      let high = limits.1 in let is = c.if-number-eq2147483647.true in grind (arith, ints, high, is, lt),
)

from_next : (d : List (ℤ × ℤ)) (n k u : ℤ) → k ≡ (n +ℤ pos 1) → u ≡ pos 2147483647 → IsDomain d → (x : ℤ) → IsInSet d x → IsFromTo k u x ↔ (n <ℤ x)
from_next d n k u is high domain x i =
    let most = (within_limits d x domain.1 i).1 in
    (λ p. let low = p.0 in omega (arith, ints, is, low), λ lt. (omega (arith, ints, is, lt), omega (arith, ints, high, most)))

below : (n : ℤ) → SFits w32 n → (of_z w32 n ≡ 2147483647 → ⊥) → n <ℤ pos 2147483647
below n fits ne = grind (arith, ints, fits, ne)

next : (n : ℤ) → SFits w32 n → n <ℤ pos 2147483647 → to_z w32 (of_z w32 (to_z w32 (of_z w32 n) +ℤ pos 1)) ≡ (n +ℤ pos 1)
next n fits lt = rw (to_z-of_z fits) (to_z-of_z (fits_above (pos 2147483647) n lt fits (search rules)))

pub returns-clause-change : goal.returns-clause-change
returns-clause-change c = other_change c.keep_range.result _ _ c.args.set.now c.keep_range.new.self
    (from_next c.args.set.now c.args.number _ _ (next c.args.number c.ranges.number (below c.args.number c.ranges.number c.if-number-eq2147483647.false)) refl c.keep_range.ensures.old_domain)
    c.keep_range.ensures.change
