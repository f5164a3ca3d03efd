use Rattle.std.proofs.lemmas.Result.{IfOk-weaker}
use Rattle.fz_dom.specs.Changes.{IsFromTo}
use Rattle.fz_dom.specs.declared.change.Change.{Change}
use Rattle.fz_strength.specs.Operations.{equation}
use Rattle.fz_prop.specs.Stores.{IsTermChange}
use Rattle.fz_arith.specs.Narrowing.{IsStep}
use Rattle.fz_arith.proofs.Steps.{bounds_term, step_is, step_correct_of}
use Rattle.fz_arith.proofs.narrow.step.Goals as goal

pub keep_between-requires : goal.keep_between-requires
keep_between-requires c =
    bounds_term (equation c.args.operation c.args.operands.now c.args.value) c.args.store.now.doms c.args.place c.bounds_at-bounds.result c.bounds_at-bounds.ensures
    (c.requires.value, c.requires.operands)

pub returns-clause-correct : goal.returns-clause-correct
returns-clause-correct c =
    step_correct_of c.keep_between.result (equation c.args.operation c.args.operands.now c.args.value) c.args.place c.bounds_at-bounds.result c.args.store.now c.keep_between.new.store
    c.bounds_at-bounds.ensures c.doms.ensures.store.domains (c.requires.value, c.requires.operands) c.keep_between.ensures.err c.keep_between.ensures.change c.keep_between.ensures.shrinks

pub returns-clause-step : goal.returns-clause-step
returns-clause-step c =
    let e = equation c.args.operation c.args.operands.now c.args.value in
    let b = c.bounds_at-bounds.result in
    let before = c.args.store.now in
    let after = c.keep_between.new.store in
    IfOk-weaker c.keep_between.result (λ (change : Change). IsTermChange change b.term (λ x. IsFromTo b.low b.high x) before after) (λ (change : Change). IsStep change e c.args.place before after)
    (λ change h. step_is change e c.args.place b before after c.bounds_at-bounds.ensures c.doms.ensures.store.domains (c.requires.value, c.requires.operands) h) c.keep_between.ensures.change
