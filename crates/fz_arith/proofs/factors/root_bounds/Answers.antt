use Rattle.std.proofs.Common.{◌≡◌, ℕ, ◌*◌, arith, rules}
use Rattle.std.specs.Prelude.{pos, ◌*ℤ◌, ◌-ℤ◌, ◌≤ℤ◌}
use Rattle.std.proofs.lemmas.Int.{ints}
use Rattle.std.proofs.Math.Facts.{to_z-of_z}
use mir.Val.{SFits, to_z}
use mir.Syntax.{w32, w64}
use Rattle.fz_ranges.specs.Roots.{IsRoot}
use Rattle.fz_ranges.proofs.Squares.{root_between}
use Rattle.fz_arith.proofs.factors.root_bounds.Goals as goal
use Rattle.fz_arith.proofs.factors.root_bounds.Goals.{then-is_above, else-is_above}

pub returns-then-is_below-clause-between : goal.returns-then-is_below-clause-between
returns-then-is_below-clause-between c = λ u in_x in_z.
    let most = c.from-most.result in
    let least = c.least_root-least.result in
    let low = c.least_of-2.result in
    let high = c.greatest_of-2.result in
    let from = c.least_of.result in
    let to = c.greatest_of.result in
    let fits_low : SFits w32 low = search rules in
    let fits_high : SFits w32 high = search rules in
    let fits_from : SFits w32 from = search rules in
    let fits_to : SFits w32 to = search rules in
    let is_root : IsRoot to c.root.result = rw (to_z-of_z fits_to) at c.root.ensures in
    let is_least : (v : ℕ) → from ≤ℤ pos (v * v) → least ≤ℤ pos v = rw (to_z-of_z fits_from) at c.least_root-least.ensures.least in
    let b = root_between u most least low high from to c.root.result is_root c.from-most.ensures is_least (c.least_of.ensures.lower_bound (u *ℤ u) in_z) (c.greatest_of.ensures.upper_bound (u *ℤ u) in_z)
    (c.least_of-2.ensures.lower_bound u in_x) (c.greatest_of-2.ensures.upper_bound u in_x) in
    let fits_least : SFits w64 least = search rules in
    let fits_minus : SFits w64 (pos 0 -ℤ least) = search rules in
    let fits_most : SFits w64 most = search rules in
    let from_0 : pos 0 ≤ℤ most = omega (arith, ints, c.from-most.ensures) in
    let small = is_root.2 in
    let of_most = c.from-most.ensures in
    let to_limit : most ≤ℤ pos 65536 = omega (arith, ints, of_most, small) in
    let fits_less : SFits w64 (pos 0 -ℤ most) = search rules in
    let fits_from_low : SFits w64 c.from.result = search rules in
    let fits_from_high : SFits w64 c.from-2.result = search rules in
    let low_is : c.from.result ≡ low = rw (to_z-of_z fits_low) at c.from.ensures in
    let high_is : c.from-2.result ≡ high = rw (to_z-of_z fits_high) at c.from-2.ensures in
    let below = rw (to_z-of_z fits_least, to_z-of_z fits_from_high, high_is) at c.if-is_below.true in
    let less = b.3 (omega (arith, ints, below)) in
    elim c.if-is_above.branch [
      | then-is_above w ↦
          let is : to_z w64 c.if-is_above.result-bits ≡ least = rw (to_z-of_z fits_least) at w.result-is in
          let above = rw (to_z-of_z fits_least, to_z-of_z fits_minus, to_z-of_z fits_from_low, low_is) at w.if-is_above.true in
          rw (to_z-of_z fits_least, to_z-of_z fits_minus, is) (b.2 (omega (arith, ints, above)), omega (arith, ints, less))
      | else-is_above w ↦
          let is : to_z w64 c.if-is_above.result-bits ≡ pos 0 -ℤ most = rw (to_z-of_z fits_most, to_z-of_z fits_less) at w.result-is in
          rw (to_z-of_z fits_least, to_z-of_z fits_minus, is) (omega (arith, ints, b), omega (arith, ints, less))
    ]

pub returns-else-is_below-clause-between : goal.returns-else-is_below-clause-between
returns-else-is_below-clause-between c = λ u in_x in_z.
    let most = c.from-most.result in
    let least = c.least_root-least.result in
    let low = c.least_of-2.result in
    let high = c.greatest_of-2.result in
    let from = c.least_of.result in
    let to = c.greatest_of.result in
    let fits_low : SFits w32 low = search rules in
    let fits_from : SFits w32 from = search rules in
    let fits_to : SFits w32 to = search rules in
    let is_root : IsRoot to c.root.result = rw (to_z-of_z fits_to) at c.root.ensures in
    let is_least : (v : ℕ) → from ≤ℤ pos (v * v) → least ≤ℤ pos v = rw (to_z-of_z fits_from) at c.least_root-least.ensures.least in
    let b = root_between u most least low high from to c.root.result is_root c.from-most.ensures is_least (c.least_of.ensures.lower_bound (u *ℤ u) in_z) (c.greatest_of.ensures.upper_bound (u *ℤ u) in_z)
    (c.least_of-2.ensures.lower_bound u in_x) (c.greatest_of-2.ensures.upper_bound u in_x) in
    let fits_least : SFits w64 least = search rules in
    let fits_minus : SFits w64 (pos 0 -ℤ least) = search rules in
    let fits_most : SFits w64 most = search rules in
    let from_0 : pos 0 ≤ℤ most = omega (arith, ints, c.from-most.ensures) in
    let small = is_root.2 in
    let of_most = c.from-most.ensures in
    let to_limit : most ≤ℤ pos 65536 = omega (arith, ints, of_most, small) in
    let fits_less : SFits w64 (pos 0 -ℤ most) = search rules in
    let fits_from_low : SFits w64 c.from.result = search rules in
    let low_is : c.from.result ≡ low = rw (to_z-of_z fits_low) at c.from.ensures in
    elim c.if-is_above.branch [
      | then-is_above w ↦
          let is : to_z w64 c.if-is_above.result-bits ≡ least = rw (to_z-of_z fits_least) at w.result-is in
          let above = rw (to_z-of_z fits_least, to_z-of_z fits_minus, to_z-of_z fits_from_low, low_is) at w.if-is_above.true in
          rw (to_z-of_z fits_most, is) (b.2 (omega (arith, ints, above)), omega (arith, ints, b))
      | else-is_above w ↦
          let is : to_z w64 c.if-is_above.result-bits ≡ pos 0 -ℤ most = rw (to_z-of_z fits_most, to_z-of_z fits_less) at w.result-is in
          rw (to_z-of_z fits_most, is) (omega (arith, ints, b), omega (arith, ints, b))
    ]
