use Rattle.std.proofs.Common.{sym, subst}
use Rattle.fz_prop.specs.declared.kept.Kept.{Kept}
use Rattle.fz_prop.specs.Told.{IsTold}
use Rattle.fz_prop.proofs.Lasting.{nothing_told}
use Rattle.fz_linreif.proofs.reified.ReifiedLinearPropagator.propagate.Goals as goal

pub run-requires-clause-told : goal.run-requires-clause-told
run-requires-clause-told c = subst (λ (k : Kept). IsTold c.args.self.now k c.args.store.now.doms) (sym c.none-kept.ensures) (nothing_told c.args.self.now c.args.store.now.doms)
