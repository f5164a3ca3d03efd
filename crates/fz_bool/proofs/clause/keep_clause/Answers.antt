use Rattle.fz_prop.proofs.Lasting.{ends_last}
use Rattle.fz_bool.proofs.clause.keep_clause.Goals as goal

pub returns-in-False-clause-told : goal.returns-in-False-clause-told
returns-in-False-clause-told c = λ domains.
    ends_last c.args.literals.now c.args.kept.now.front c.args.kept.now.back c.args.store.now.doms c.keep_none.new.store.doms domains c.keep_none.ensures.shrinks.narrower c.requires.told

pub returns-in-Open-clause-told : goal.returns-in-Open-clause-told
returns-in-Open-clause-told c = λ domains.
    ends_last c.args.literals.now c.args.kept.now.front c.args.kept.now.back c.args.store.now.doms c.decide.new.store.doms domains c.decide.ensures.shrinks.narrower c.requires.told
