use Rattle.fz_strength.specs.Sayings.{Select, truth_of, line_of}
use Rattle.fz_prop.specs.Answers.{Narrows}
use Rattle.fz_element.proofs.element.ElementPropagator.propagate.Goals as goal

pub returns : goal.returns
returns c =
    let p = c.self.inside in
    let says = Select p.numbers p.index p.value in
    let narrows : Narrows (truth_of says) (line_of says) c.keep_element.result c.args.store.now c.keep_element.new.store = rw c.as_slice-numbers.ensures at c.keep_element.ensures in
    rw (← c.self.view_is) narrows
