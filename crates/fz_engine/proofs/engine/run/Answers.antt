use Rattle.fz_prop.proofs.Lasting.{all_last}
use Rattle.fz_engine.proofs.engine.run.Goals as goal

pub returns-then-not-has_cell-clause-told : goal.returns-then-not-has_cell-clause-told
returns-then-not-has_cell-clause-told c =
    all_last c.args.network.now.sayings c.args.kept.now c.args.store.now.doms c.run_plain.new.store.doms c.run_plain.ensures.run.store.domains c.run_plain.ensures.run.narrower c.requires.told
