use Rattle.fz_prop.proofs.Lasting.{sum_lasts}
use Rattle.fz_linear.proofs.front.relate_rest.Goals as goal

pub returns-then-not-is_long-clause-told : goal.returns-then-not-is_long-clause-told
returns-then-not-is_long-clause-told c = λ domains.
    sum_lasts c.args.sum.now.factors.now c.args.sum.now.terms.now c.args.kept.now.front c.args.kept.now.number c.args.store.now.doms c.relate_to_rest.new.store.doms
    domains c.relate_to_rest.ensures.shrinks.narrower c.requires.told

pub returns-clause-told : goal.returns-clause-told
returns-clause-told c = λ domains.
    sum_lasts c.args.sum.now.factors.now c.args.sum.now.terms.now c.pass_fixed.new.kept.front c.pass_fixed.new.kept.number c.args.store.now.doms c.relate_behind.new.store.doms
    domains c.relate_behind.ensures.shrinks.narrower c.pass_fixed.ensures.told
