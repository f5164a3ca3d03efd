use Rattle.std.proofs.Common.{arith}
use Rattle.std.proofs.lemmas.Int.{ints, clamps}
use Rattle.fz_dom.proofs.meet.moved.Goals as goal

pub returns-clause-low : goal.returns-clause-low
returns-clause-low c = λ x w.
    let a = w.0 in let b = w.1 in let v = c.clamp.ensures.value in
    (λ h. omega (arith, ints, clamps), λ h. omega (arith, ints, clamps))

pub returns-clause-high : goal.returns-clause-high
returns-clause-high c = λ x w.
    let a = w.0 in let b = w.1 in let v = c.clamp.ensures.value in
    (λ h. omega (arith, ints, clamps), λ h. omega (arith, ints, clamps))
