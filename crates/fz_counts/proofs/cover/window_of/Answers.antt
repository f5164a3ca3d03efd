use Rattle.std.proofs.Common.{◌≡◌, ◌∙◌, pos, rules, to_z, of_z, w32, get_or}
use Rattle.std.specs.Prelude.{ℤ}
use Rattle.fz_counts.proofs.Gaps.{window_none, window_more}
use Rattle.fz_counts.proofs.cover.window_of.Goals as goal

pub loop-value-init : goal.loop-value-init
loop-value-init c = record {
  base = c.none-window.ensures.base;
  values = window_none c.none-window.result (to_z w32 (of_z w32 c.args.base)) c.none-window.ensures.base c.none-window.ensures.numbers;
}

pub loop-value-preserved : goal.loop-value-preserved
loop-value-preserved c =
    let values = c.args.values.now in
    let k = c.loop-value.value-index in
    let y : ℤ = get_or values k (pos 0) in
    let kept : to_z w32 (of_z w32 y) ≡ y = search rules in
    let not = rw kept at c.if-has.ensures in
    record {
      base = c.with-window.ensures.base ∙ c.loop-value.invariant.base;
      values = window_more c.loop-value.window c.with-window.result values k (pos 0) c.loop-value-test.true c.with-window.ensures.base (rw kept at c.with-window.ensures.numbers) (λ is. cc (not.1 is))
          c.loop-value.invariant.values;
    }
