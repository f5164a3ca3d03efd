use Rattle.fz_strength.specs.Sayings.{Inverse, truth_of, line_of}
use Rattle.fz_prop.specs.Answers.{Narrows}
use Rattle.fz_inverse.proofs.inverse.InversePropagator.propagate.Goals as goal

pub returns : goal.returns
returns c =
    let says = Inverse c.self.inside.firsts.items c.self.inside.seconds.items in
    let kept = rw (c.deref.ensures.value, c.deref-2.ensures.value) at c.keep_inverse.ensures in
    let narrows : Narrows (truth_of says) (line_of says) c.keep_inverse.result c.args.store.now c.keep_inverse.new.store =
    record { shrinks = kept.shrinks; correct = kept.correct; answer = kept.answer } in
    rw (← c.self.view_is) narrows
