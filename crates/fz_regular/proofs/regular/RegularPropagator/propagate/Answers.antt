use Rattle.fz_strength.specs.Sayings.{Regular, truth_of, line_of}
use Rattle.fz_prop.specs.Answers.{Narrows}
use Rattle.fz_regular.proofs.regular.RegularPropagator.propagate.Goals as goal

pub returns : goal.returns
returns c =
    let says = Regular c.self.inside.automaton c.self.inside.terms.items in
    let kept = rw c.deref.ensures.value at c.keep_accepted.ensures in
    let narrows : Narrows (truth_of says) (line_of says) c.keep_accepted.result c.args.store.now c.keep_accepted.new.store =
    record { shrinks = kept.shrinks; correct = kept.correct; answer = kept.answer } in
    rw (← c.self.view_is) narrows
