use Rattle.std.proofs.Common.{◌≡◌, ◌<◌, ◌≤ℤ◌, ◌+ℤ◌, ℕ, rules, pos}
use Rattle.std.specs.Prelude.{◌↔◌}
use Rattle.std.specs.Int.{bit_at}
use Rattle.fz_dom.proofs.close.bits_between.Goals as goal

pub returns-clause-bits : goal.returns-clause-bits
returns-clause-bits c =
    let w : (i : ℕ) → i < 64 → (bit_at c.window_of.result i ≡ 1) ↔ ((c.args.low ≤ℤ (c.args.base +ℤ pos i)) × ((c.args.base +ℤ pos i) ≤ℤ c.args.high)) = search (rules, c.window_of.ensures) in
    w
