use Rattle.std.proofs.Common.{◌+◌, ◌-◌, ◌∙◌, sym, ap, ℕ, arith}
use Rattle.fz_gen.specs.Knapsack as texts
use Rattle.fz_gen.proofs.Ranges.{sum_next}
use Rattle.fz_gen.proofs.text.total.Goals as goal

pub loop-i-preserved : goal.loop-i-preserved
loop-i-preserved c =
    let so_far = c.loop-i.invariant in
    let number = c.measure_of-total.ensures in
    let from = c.loop-i.auto.i in
    let small = number.small in
    let low = so_far.1 in (
      ap (λ (n : ℕ). n + c.measure_of-total.result) so_far.0 ∙ ap (λ (n : ℕ). texts.total c.args.measure (c.loop-i.i - 1) + n) number.is
          ∙ sym (sum_next (texts.measure_of c.args.measure) 1 c.loop-i.i from),
      omega (arith, low, small, from),
    )
