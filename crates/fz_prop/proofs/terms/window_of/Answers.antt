use Rattle.std.proofs.Common.{◌≡◌, List, refl, arith, rules}
use Rattle.std.specs.Prelude.{ℤ, pos, ◌+ℤ◌, ◌-ℤ◌, ◌≤ℤ◌, ◌↔◌, Option, Some, None, IfSome}
use Rattle.std.proofs.lemmas.Int.{ints}
use Rattle.std.proofs.Math.Facts.{to_z-of_z}
use mir.Val.{SFits}
use mir.Syntax.{w32}
use Rattle.fz_bits.proofs.Windows.{within_window}
use Rattle.fz_bits.specs.declared.window.Window.{Window}
use Rattle.fz_sets.specs.Sets.{IsInSet, IsWithinLimits, LEAST, GREATEST}
use Rattle.fz_bits.specs.Windows.{IsBit}
use Rattle.fz_dom.specs.Shape.{IsDomain}
use Rattle.fz_dom.proofs.Kept.{limits_of}
use Rattle.fz_strength.proofs.Terms.{in_single, is_single}
use Rattle.fz_prop.proofs.terms.window_of.Goals as goal

-- a window of what isn't moved has its numbers
numbered : (o : Option Window) (d : List (ℤ × ℤ)) (zero : ℤ) → zero ≡ pos 0 → IsDomain d → IfSome o (λ w. LEAST ≤ℤ w.base) → IfSome o (λ w. (w.base +ℤ pos 63) ≤ℤ GREATEST)
    → IfSome o (λ w. (x : ℤ) → IsWithinLimits x → IsBit w.base w.bits x ↔ IsInSet d (x -ℤ zero)) → IfSome o (λ w. (x : ℤ) → IsBit w.base w.bits x ↔ IsInSet d x)
numbered None d zero z domain low high h = tt
numbered (Some w) d zero z domain low high h = λ x.
    let same : (x -ℤ zero) ≡ x = omega (arith, ints, z) in (
      (λ m. (let r = within_window w.base x w.bits m in let a = r.0 in let b = r.1 in rw same at ((h x (omega (arith, ints, low, a), omega (arith, ints, high, b))).0 m))),
      (λ i. (h x (limits_of d x domain i)).1 (rw same i)),
    )

pub returns-in-Var-clause-numbers : goal.returns-in-Var-clause-numbers
returns-in-Var-clause-numbers c =
    rw (c.in-Var.is, ← c.dom.ensures.dom) (numbered c.window.result c.dom.result.now (pos 0) refl c.window.ensures.domain c.window.ensures.floor c.window.ensures.ceiling c.window.ensures.numbers)

pub returns-in-Num-clause-numbers : goal.returns-in-Num-clause-numbers
returns-in-Num-clause-numbers c = λ x.
    let n = c.in-Num.number in
    let fits : SFits w32 n = search rules in
    let numbers = rw (to_z-of_z fits) at c.single.ensures.numbers in
    rw c.in-Num.is (λ m. in_single x n ((numbers x).0 m), λ i. (numbers x).1 (is_single x n i))
