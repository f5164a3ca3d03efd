use Rattle.std.proofs.Common.{rules}
use Rattle.std.proofs.Math.Facts.{to_z-of_z}
use mir.Val.{SFits}
use mir.Syntax.{w32}
use Rattle.fz_strength.specs.Domains.{AreDomains}
use Rattle.fz_strength.specs.Sayings.{SumIf, truth_of, line_of}
use Rattle.fz_prop.specs.Told.{IsTold}
use Rattle.fz_prop.specs.Answers.{Narrows}
use Rattle.fz_linreif.proofs.reified.ReifiedLinear.run.Goals as goal

pub keep_rest-requires-clause-inside : goal.keep_rest-requires-clause-inside
keep_rest-requires-clause-inside c = rw c.deref-2.ensures.value (rw (← c.self.view_is) at c.requires.terms).1

pub keep_rest-requires-clause-boolean : goal.keep_rest-requires-clause-boolean
keep_rest-requires-clause-boolean c = (rw (← c.self.view_is) at c.requires.terms).0

pub keep_rest-requires-clause-truth : goal.keep_rest-requires-clause-truth
keep_rest-requires-clause-truth c = (rw (← c.self.view_is) at c.requires.suits).0

pub returns-clause-narrows : goal.returns-clause-narrows
returns-clause-narrows c =
    let p = c.self.inside in
    let fits : SFits w32 p.number = search rules in
    let k = c.keep_rest.ensures in
    let s = SumIf p.relation p.factors.items p.terms.items p.number p.r in
    let narrows : Narrows (truth_of s) (line_of s) c.keep_rest.result c.args.store.now c.keep_rest.new.store = record {
      shrinks = k.shrinks;
      correct = rw (c.deref.ensures.value, c.deref-2.ensures.value, to_z-of_z fits) at k.correct;
      answer = rw (c.deref.ensures.value, c.deref-2.ensures.value, to_z-of_z fits) at k.answer;
    } in
    rw (← c.self.view_is) narrows

pub keep_rest-requires-clause-told : goal.keep_rest-requires-clause-told
keep_rest-requires-clause-told c =
    let p = c.self.inside in
    let told : IsTold (SumIf p.relation p.factors.items p.terms.items p.number p.r) c.args.kept.now c.args.store.now.doms = rw (← c.self.view_is) at c.requires.told in
    rw (c.deref.ensures.value, c.deref-2.ensures.value) told

pub returns-clause-told : goal.returns-clause-told
returns-clause-told c =
    let p = c.self.inside in
    let after = c.keep_rest.new.store.doms in
    let told : AreDomains after → IsTold (SumIf p.relation p.factors.items p.terms.items p.number p.r) c.keep_rest.new.kept after = rw (c.deref.ensures.value, c.deref-2.ensures.value) at c.keep_rest.ensures.told in
    rw (← c.self.view_is) told
