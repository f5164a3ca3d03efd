use Rattle.std.proofs.Common.{◌≡◌, ℤ, List, true, false, rules}
use Rattle.fz_spec.specs.Truth.{Relates}
use Rattle.fz_plain.specs.Plain.{IsDecided, IsTwice}
use Rattle.fz_plain.proofs.Plainness.{itself_never, itself_always}
use Rattle.fz_plain.proofs.itself.plain_comparison.Goals as goal
use Rattle.fz_plain.proofs.itself.plain_comparison.Goals.{then-not-are_twice-via-then-not-are_twice, then-not-are_twice-via-else-not-are_twice+then-holds_of_same}

pub returns-then-not-are_twice : goal.returns-then-not-are_twice
returns-then-not-are_twice c = λ has. elim c.then-not-are_twice.branch [
  | then-not-are_twice-via-then-not-are_twice w ↦ (let not_two : IsTwice c.args.x c.args.y → ⊥ = search rules in not_two has.0)
  | then-not-are_twice-via-else-not-are_twice+then-holds_of_same w ↦ (
      let yes : w.holds_of_same.result ≡ true = search rules in
      let always : IsDecided true (λ (a : List ℤ). (n : ℤ) → Relates c.args.relation n n) = rw yes at w.holds_of_same.ensures in
      itself_always c.args.relation always has.1)
]

pub returns : goal.returns
returns c =
    let two : IsTwice c.args.x c.args.y = search rules in
    let no : c.holds_of_same.result ≡ false = search rules in
    let never : IsDecided false (λ (a : List ℤ). (n : ℤ) → Relates c.args.relation n n) = rw no at c.holds_of_same.ensures in
    rw c.never.ensures (itself_never c.args.relation c.args.x c.args.y two never)
