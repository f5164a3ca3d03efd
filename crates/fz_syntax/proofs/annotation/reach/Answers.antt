use Rattle.std.proofs.Common.{◌≡◌, ℕ, ◌+◌, ◌-◌, ◌^◌, ◌≤◌, length, rules, min, drop, ap, ◌∙◌, arith}
use Rattle.fz_syntax.specs.Reaches.{reached}
use Rattle.fz_syntax.proofs.Arguments.{none_reached, reached_more}
use Rattle.fz_syntax.proofs.annotation.reach.Goals as goal

pub returns-then-left-eq0-clause-reached : goal.returns-then-left-eq0-clause-reached
returns-then-left-eq0-clause-reached c =
    let xs = drop c.loop-i.i c.args.arguments.now in
    let none : reached xs c.loop-i.left ≡ 0 = ap (reached xs) c.if-left-eq0.true ∙ none_reached xs in
    omega (arith, c.loop-i.invariant, none)

pub loop-i-preserved : goal.loop-i-preserved
loop-i-preserved c =
    let bound : length c.args.arguments.now ≤ 2 ^ 64 - 1 = search rules in
    let next = c.saturating_add-left.ensures ∙ ap (λ (n : ℕ). min (c.loop-i.left - 1 + n) (2 ^ 64 - 1)) c.count.ensures in
    c.loop-i.invariant
    ∙ reached_more c.args.arguments.now c.index-arguments-i.result c.loop-i.i c.loop-i.left c.saturating_add-left.result (2 ^ 64 - 1) c.loop-i-test.true c.index-arguments-i.is c.if-left-eq0.false next bound
