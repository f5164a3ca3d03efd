use Rattle.fz_strength.specs.Domains.{AreDomains}
use Rattle.fz_strength.specs.Sayings.{Differ, truth_of, line_of}
use Rattle.fz_prop.specs.Told.{IsTold}
use Rattle.fz_prop.specs.Answers.{Narrows}
use Rattle.fz_alldiff.proofs.all_different.AllDifferent.run.Goals as goal

pub keep_between-requires-clause-terms : goal.keep_between-requires-clause-terms
keep_between-requires-clause-terms c = rw c.deref.ensures.value (rw (← c.self.view_is) at c.requires.terms)

pub keep_between-requires-clause-told : goal.keep_between-requires-clause-told
keep_between-requires-clause-told c =
    let told : IsTold (Differ c.self.inside.terms.items) c.args.kept.now c.args.store.now.doms = rw (← c.self.view_is) at c.requires.told in
    rw c.deref.ensures.value told

pub returns-clause-told : goal.returns-clause-told
returns-clause-told c =
    let after = c.keep_between.new.store.doms in
    let told : AreDomains after → IsTold (Differ c.self.inside.terms.items) c.keep_between.new.kept after = λ domains. rw c.deref.ensures.value at c.keep_between.ensures.told in
    rw (← c.self.view_is) told

pub returns-clause-narrows : goal.returns-clause-narrows
returns-clause-narrows c =
    let says = Differ c.self.inside.terms.items in
    let narrows : Narrows (truth_of says) (line_of says) c.keep_between.result c.args.store.now c.keep_between.new.store = rw c.deref.ensures.value at c.keep_between.ensures.narrows in
    rw (← c.self.view_is) narrows
