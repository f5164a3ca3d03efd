use Rattle.fz_strength.specs.Sayings.{Share, truth_of, line_of}
use Rattle.fz_prop.specs.Answers.{Narrows}
use Rattle.fz_disjunctive.proofs.disjunctive.DisjunctivePropagator.propagate.Goals as goal

pub returns : goal.returns
returns c =
    let p = c.self.inside in
    let says = Share p.starts.items p.durations.items p.usages.items p.bound in
    let kept = rw (c.deref.ensures.value, c.deref-2.ensures.value, c.deref-3.ensures.value) at c.keep_tasks.ensures in
    let narrows : Narrows (truth_of says) (line_of says) c.keep_tasks.result c.args.store.now c.keep_tasks.new.store =
    record { shrinks = kept.shrinks; correct = kept.correct; answer = kept.answer } in
    rw (← c.self.view_is) narrows
