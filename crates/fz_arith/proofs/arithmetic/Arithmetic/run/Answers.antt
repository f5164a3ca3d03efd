use Rattle.fz_prop.specs.Told.{IsTold}
use Rattle.fz_strength.specs.Operations.{equation}
use Rattle.fz_strength.specs.Sayings.{Equals}
use Rattle.fz_arith.proofs.arithmetic.Arithmetic.run.Goals as goal

pub keep_between_ends-requires-clause-told : goal.keep_between_ends-requires-clause-told
keep_between_ends-requires-clause-told c =
    let p = c.self.inside in
    let told : IsTold (Equals (equation p.operation p.operands.items p.value)) c.args.kept.now c.args.store.now.doms = rw (← c.self.view_is) at c.requires.told in
    rw c.deref.ensures.value told

pub returns-clause-told : goal.returns-clause-told
returns-clause-told c = λ domains.
    let p = c.self.inside in
    let told : IsTold (Equals (equation p.operation p.operands.items p.value)) c.keep_between_ends.new.kept c.keep_between_ends.new.store.doms = rw c.deref.ensures.value at c.keep_between_ends.ensures.told in
    rw (← c.self.view_is) told
