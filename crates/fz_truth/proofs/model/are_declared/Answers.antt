use Rattle.std.proofs.Common.{refl, rules, pos}
use Rattle.fz_truth.proofs.Declared.{one_length, read_at, read_more, declared_whole}
use Rattle.fz_truth.proofs.model.are_declared.Goals as goal

pub returns-then-variables-values : goal.returns-then-variables-values
returns-then-variables-values c = (λ t. cc, λ d. absurd (c.if-variables-values.true (one_length c.args.variables.now c.args.values.now d)))

pub returns-then-not-contains : goal.returns-then-not-contains
returns-then-not-contains c = (
  λ t. cc,
  λ d. c.if-not-contains.ensures.member.1
      (read_at c.args.variables.now c.args.values.now c.loop-i.i c.index-variables-i.result c.set.result.now _ (pos 0) c.loop-i-test.true c.index-variables-i.is c.set.ensures.set (search rules) d),
)

pub loop-i-preserved : goal.loop-i-preserved
loop-i-preserved c =
    read_more c.args.variables.now c.args.values.now c.loop-i.i c.index-variables-i.result c.set.result.now _ (pos 0) c.loop-i-test.true c.if-variables-values.false c.index-variables-i.is c.set.ensures.set (search rules)
    c.loop-i.invariant (c.if-not-contains.ensures.member.0 refl)

pub returns : goal.returns
returns c = (λ t. declared_whole c.args.variables.now c.args.values.now c.loop-i.i c.loop-i-test.false c.if-variables-values.false c.loop-i.invariant, λ d. refl)
