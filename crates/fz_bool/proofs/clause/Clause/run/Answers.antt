use Rattle.fz_strength.specs.Domains.{AreDomains}
use Rattle.fz_strength.specs.Sayings.{Says}
use Rattle.fz_prop.specs.Told.{IsTold}
use Rattle.fz_bool.proofs.Sayings.{literals_of, narrowed}
use Rattle.fz_bool.proofs.clause.Clause.run.Goals as goal

pub keep_clause-answer-requires-clause-literals : goal.keep_clause-answer-requires-clause-literals
keep_clause-answer-requires-clause-literals c =
    let p = c.self.inside in
    rw c.deref.ensures.value (literals_of p.all p.literals.items p.r c.args.store.now.doms (rw (← c.self.view_is) at c.requires.terms) (rw (← c.self.view_is) at c.requires.suits))

pub returns-clause-narrows : goal.returns-clause-narrows
returns-clause-narrows c =
    let p = c.self.inside in
    let k = c.keep_clause-answer.ensures in
    rw (← c.self.view_is)
    (narrowed p.all p.literals.items p.r c.keep_clause-answer.result c.args.store.now c.keep_clause-answer.new.store (rw (← c.self.view_is) at c.requires.terms) (rw (← c.self.view_is) at c.requires.suits)
    c.doms.ensures.store.domains k.shrinks (rw c.deref.ensures.value at k.correct) (rw c.deref.ensures.value at k.answer))

pub keep_clause-answer-requires-clause-told : goal.keep_clause-answer-requires-clause-told
keep_clause-answer-requires-clause-told c =
    let p = c.self.inside in
    let told : IsTold (Says p.all (record { literals = p.literals.items; result = p.r })) c.args.kept.now c.args.store.now.doms = rw (← c.self.view_is) at c.requires.told in
    rw c.deref.ensures.value told

pub returns-clause-told : goal.returns-clause-told
returns-clause-told c =
    let p = c.self.inside in
    let after = c.keep_clause-answer.new.store.doms in
    let told : AreDomains after → IsTold (Says p.all (record { literals = p.literals.items; result = p.r })) c.keep_clause-answer.new.kept after = rw c.deref.ensures.value at c.keep_clause-answer.ensures.told in
    rw (← c.self.view_is) told
