use Rattle.fz_strength.specs.Sayings.{DifferByBounds, truth_of, line_of}
use Rattle.fz_prop.specs.Answers.{Narrows}
use Rattle.fz_hall.proofs.hall.HallIntervalsPropagator.propagate.Goals as goal

pub returns : goal.returns
returns c =
    let says = DifferByBounds c.self.inside.terms.items in
    let kept = rw c.deref.ensures.value at c.keep_intervals.ensures in
    let narrows : Narrows (truth_of says) (line_of says) c.keep_intervals.result c.args.store.now c.keep_intervals.new.store =
    record { shrinks = kept.shrinks; correct = kept.correct; answer = kept.answer } in
    rw (← c.self.view_is) narrows
