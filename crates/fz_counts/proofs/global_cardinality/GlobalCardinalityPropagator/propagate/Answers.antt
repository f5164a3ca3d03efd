use Rattle.std.proofs.Common.{length}
use Rattle.fz_sets.proofs.Lists.{all_right}
use Rattle.fz_strength.specs.Domains.{IsTermOf}
use Rattle.fz_strength.specs.Sayings.{Count, truth_of, line_of}
use Rattle.fz_prop.specs.Answers.{Narrows}
use Rattle.fz_counts.proofs.global_cardinality.GlobalCardinalityPropagator.propagate.Goals as goal

pub keep_counts-requires-clause-counts : goal.keep_counts-requires-clause-counts
keep_counts-requires-clause-counts c =
    let p = c.self.inside in
    rw c.deref-3.ensures.value (all_right (IsTermOf (length c.args.store.now.doms)) p.terms.items p.counts.items (rw (← c.self.view_is) at c.requires.terms))

pub returns : goal.returns
returns c =
    let p = c.self.inside in
    let says = Count p.terms.items p.cover.items p.counts.items in
    let kept = rw (c.deref.ensures.value, c.deref-2.ensures.value, c.deref-3.ensures.value) at c.keep_counts.ensures in
    let narrows : Narrows (truth_of says) (line_of says) c.keep_counts.result c.args.store.now c.keep_counts.new.store =
    record { shrinks = kept.shrinks; correct = kept.correct; answer = kept.answer } in
    rw (← c.self.view_is) narrows
