use Rattle.std.proofs.Math.Facts.{to_z-of_z}
use Rattle.fz_prop.proofs.Lasting.{sum_lasts}
use Rattle.fz_linreif.proofs.front.keep_rest.Goals as goal

pub returns-then-not-is_long-clause-told : goal.returns-then-not-is_long-clause-told
returns-then-not-is_long-clause-told c = λ domains.
    sum_lasts c.args.sum.now.factors.now c.args.sum.now.terms.now c.args.kept.now.front c.args.kept.now.number c.args.store.now.doms c.keep_reified.new.store.doms
    domains c.keep_reified.ensures.shrinks.narrower c.requires.told

pub returns-clause-told : goal.returns-clause-told
returns-clause-told c = λ domains.
    sum_lasts c.args.sum.now.factors.now c.args.sum.now.terms.now c.pass_fixed.new.kept.front c.pass_fixed.new.kept.number c.args.store.now.doms c.keep_behind.new.store.doms
    domains c.keep_behind.ensures.shrinks.narrower c.pass_fixed.ensures.told

pub returns-then-not-is_long-clause-correct : goal.returns-then-not-is_long-clause-correct
returns-then-not-is_long-clause-correct c = rw (to_z-of_z c.ranges.number) at c.keep_reified.ensures.correct

pub returns-clause-correct : goal.returns-clause-correct
returns-clause-correct c = rw (to_z-of_z c.ranges.number) at c.keep_behind.ensures.correct
