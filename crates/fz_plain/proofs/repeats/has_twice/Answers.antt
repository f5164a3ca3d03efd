use Rattle.std.proofs.Common.{◌≡◌, ◌+◌, ◌<◌, ◌≤◌, ℕ, false, IsTrue, length, slice_index, rules}
use Rattle.std.specs.List.Sorted.{IsStrictlyIncreasing}
use Rattle.fz_strength.specs.Sums.{left_terms}
use Rattle.fz_plain.proofs.Twice.{twice_from, once_from}
use Rattle.fz_plain.proofs.repeats.has_twice.Goals as goal

pub returns : goal.returns
returns c =
    let ts = left_terms c.args.terms.now c.args.last in
    let xs = c.in_ok-variables.variables.items in
    let here : c.deref.result.now ≡ xs = search rules in (
      (λ h.
          let fails : c.are_rising.result ≡ false = search rules in
          let other : (k : ℕ) × (k + 1 < length xs) × (slice_index xs (k + 1) ≤ slice_index xs k) = rw here at (c.are_rising.ensures.other fails) in
          twice_from ts xs c.in_ok-variables.ensures.permutation c.in_ok-variables.ensures.order other),
      (λ two.
          let rises : IsTrue c.are_rising.result → IsStrictlyIncreasing xs = rw here at c.are_rising.ensures.rising in
          let not_rising : IsTrue c.are_rising.result → ⊥ = λ r. once_from ts xs c.in_ok-variables.ensures.permutation (rises r) two in
          search rules),
    )
