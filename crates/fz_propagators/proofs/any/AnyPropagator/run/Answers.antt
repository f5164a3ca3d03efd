use Rattle.fz_prop.proofs.Lasting.{told_lasts}
use Rattle.fz_propagators.specs.Forms.{said_of}
use Rattle.fz_propagators.proofs.any.AnyPropagator.run.Goals as goal

pub returns-in_default-clause-told : goal.returns-in_default-clause-told
returns-in_default-clause-told c = λ domains.
    told_lasts (said_of c.args.self.now) c.args.kept.now c.args.store.now.doms c.propagate.new.store.doms domains c.propagate.ensures.shrinks.narrower c.requires.told
