use Rattle.fz_strength.specs.Sayings.{SelectTerm, truth_of, line_of}
use Rattle.fz_prop.specs.Answers.{Narrows}
use Rattle.fz_element.proofs.variable_element.VariableElementPropagator.propagate.Goals as goal

pub returns : goal.returns
returns c =
    let p = c.self.inside in
    let says = SelectTerm p.terms p.index p.value in
    let kept = rw c.as_slice-terms.ensures at c.keep_variable_element.ensures in
    let narrows : Narrows (truth_of says) (line_of says) c.keep_variable_element.result c.args.store.now c.keep_variable_element.new.store =
    record { shrinks = kept.shrinks; correct = kept.correct; answer = kept.answer } in
    rw (← c.self.view_is) narrows
