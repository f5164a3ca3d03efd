use Rattle.std.proofs.Common.{◌≡◌, ◌+ℤ◌, pos, to_z, of_z, w64, arith}
use Rattle.std.proofs.lemmas.Int.{ints}
use Rattle.fz_sets.specs.Sets.{LEAST}
use Rattle.fz_dom.proofs.Shared.{window_in}
use Rattle.fz_dom.proofs.meet.base_of.Goals as goal

pub returns-clause-window : goal.returns-clause-window
returns-clause-window c = λ x w low high.
    let least : to_z w64 (of_z w64 c.from-3.result) ≡ LEAST = omega (arith, ints) in
    let most : to_z w64 (of_z w64 c.from-4.result) ≡ pos 2147483583 = omega (arith, ints) in
    let sum : to_z w64 (of_z w64 (to_z w64 (of_z w64 c.from.result) +ℤ to_z w64 (of_z w64 c.from-2.result))) ≡ (c.args.value +ℤ c.args.shift) = omega (arith, ints) in
    let r = window_in c.clamp.result _ _ _ (c.args.value +ℤ c.args.shift) x c.clamp.ensures.value least sum most w low high in
    let r0 = r.0 in let r1 = r.1 in let l = c.clamp.ensures.lower_bound in let u = c.clamp.ensures.upper_bound in
    (omega (arith, ints), omega (arith, ints))
