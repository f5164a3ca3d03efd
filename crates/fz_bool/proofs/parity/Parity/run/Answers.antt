use Rattle.fz_prop.specs.Told.{IsTold}
use Rattle.fz_strength.specs.Sayings.{Odd}
use Rattle.fz_bool.proofs.Parities.{booleans_of, odd_narrowed}
use Rattle.fz_bool.proofs.parity.Parity.run.Goals as goal

pub keep_odd-requires-clause-booleans : goal.keep_odd-requires-clause-booleans
keep_odd-requires-clause-booleans c =
    rw c.deref.ensures.value (booleans_of c.self.inside.terms.items c.args.store.now.doms (rw (← c.self.view_is) at c.requires.terms) (rw (← c.self.view_is) at c.requires.suits))

pub keep_odd-requires-clause-told : goal.keep_odd-requires-clause-told
keep_odd-requires-clause-told c =
    let told : IsTold (Odd c.self.inside.terms.items) c.args.kept.now c.args.store.now.doms = rw (← c.self.view_is) at c.requires.told in
    rw c.deref.ensures.value told

pub returns-clause-told : goal.returns-clause-told
returns-clause-told c = λ domains.
    let told : IsTold (Odd c.self.inside.terms.items) c.keep_odd.new.kept c.keep_odd.new.store.doms = rw c.deref.ensures.value at c.keep_odd.ensures.told in
    rw (← c.self.view_is) told

pub returns-clause-narrows : goal.returns-clause-narrows
returns-clause-narrows c =
    let k = c.keep_odd.ensures in
    rw (← c.self.view_is)
    (odd_narrowed c.self.inside.terms.items c.keep_odd.result c.args.store.now c.keep_odd.new.store k.shrinks (rw c.deref.ensures.value at k.correct) (rw c.deref.ensures.value at k.answer))
