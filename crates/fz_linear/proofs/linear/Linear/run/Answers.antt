use Rattle.std.proofs.Common.{rules}
use Rattle.std.proofs.Math.Facts.{to_z-of_z}
use mir.Val.{SFits}
use mir.Syntax.{w32}
use Rattle.std.proofs.lemmas.Result.{IfOk-weaker}
use Rattle.fz_strength.specs.Domains.{AreDomains}
use Rattle.fz_strength.specs.Sayings.{Sum, truth_of, line_of}
use Rattle.fz_prop.specs.Told.{IsTold}
use Rattle.fz_prop.specs.declared.answer.Answer.{Answer}
use Rattle.fz_prop.specs.Answers.{Narrows}
use Rattle.fz_linear.specs.Linears.{IsPrunedOf}
use Rattle.fz_linear.specs.Shapes.{IsPruned}
use Rattle.fz_linear.proofs.Pruning.{pruned_of}
use Rattle.fz_linear.proofs.linear.Linear.run.Goals as goal

pub relate_whole-requires-clause-inside : goal.relate_whole-requires-clause-inside
relate_whole-requires-clause-inside c = rw c.deref-2.ensures.value (rw (← c.self.view_is) at c.requires.terms)

pub returns-clause-narrows : goal.returns-clause-narrows
returns-clause-narrows c =
    let p = c.self.inside in
    let fits : SFits w32 p.number = search rules in
    let k = c.relate_whole.ensures in
    let s = Sum p.relation p.factors.items p.terms.items p.number in
    let narrows : Narrows (truth_of s) (line_of s) c.relate_whole.result c.args.store.now c.relate_whole.new.store = record {
      shrinks = k.shrinks;
      correct = rw (c.deref.ensures.value, c.deref-2.ensures.value, to_z-of_z fits) at k.correct;
      answer = rw (c.deref.ensures.value, c.deref-2.ensures.value, to_z-of_z fits) at k.answer;
    } in
    rw (← c.self.view_is) narrows

pub returns-clause-pruned : goal.returns-clause-pruned
returns-clause-pruned c =
    let p = c.self.inside in
    let after = c.relate_whole.new.store.doms in
    rw (← c.self.view_is)
    (IfOk-weaker c.relate_whole.result (λ (r : Answer). IsPruned p.relation p.shape r after) (λ (r : Answer). IsPrunedOf (Sum p.relation p.factors.items p.terms.items p.number) r after)
    (λ r h. pruned_of p.relation p.factors.items p.terms.items p.number p.shape r after c.self.invariant.shaped h)
    c.relate_whole.ensures.pruned)

pub relate_whole-requires-clause-told : goal.relate_whole-requires-clause-told
relate_whole-requires-clause-told c =
    let p = c.self.inside in
    let told : IsTold (Sum p.relation p.factors.items p.terms.items p.number) c.args.kept.now c.args.store.now.doms = rw (← c.self.view_is) at c.requires.told in
    rw (c.deref.ensures.value, c.deref-2.ensures.value) told

pub returns-clause-told : goal.returns-clause-told
returns-clause-told c =
    let p = c.self.inside in
    let after = c.relate_whole.new.store.doms in
    let told : AreDomains after → IsTold (Sum p.relation p.factors.items p.terms.items p.number) c.relate_whole.new.kept after = rw (c.deref.ensures.value, c.deref-2.ensures.value) at c.relate_whole.ensures.told in
    rw (← c.self.view_is) told
