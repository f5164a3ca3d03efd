use Rattle.std.proofs.Common.{◌∙◌, ap, length, ℤ, List}
use Rattle.std.proofs.lemmas.Result.{IfOk-weaker}
use Rattle.fz_shown.specs.Guesses.{with_outputs}
use Rattle.fz_shown.proofs.Telling.{written}
use Rattle.fz_shown.proofs.Reading.{guess_of, guessed_is, guessed_numbers}
use Rattle.fz_shown.proofs.guess.guess.Goals as goal

pub new-requires : goal.new-requires
new-requires c =
    let items = c.in_ok-values.values.items in
    guessed_numbers c.outputs.result.now items c.read_outputs.new.values c.deref.result.now (length c.variables.result.now) c.args.text.now (c.in_ok-values.ensures.items_if_clones_equal (λ y is. is))
    (c.read_outputs.ensures ∙ ap (λ (values : List ℤ). (with_outputs c.outputs.result.now (guess_of values c.args.text.now)).values) c.deref_mut.ensures.value)
    (written c.read_outputs.new.values c.deref_mut.result.now items c.deref.result.now c.in_ok-values.values.len c.deref_mut.ensures.value c.read_outputs.auto.values c.in_ok-values.values.ok.0 c.deref.ensures.value)

pub returns : goal.returns
returns c =
    let items = c.in_ok-values.values.items in
    IfOk-weaker c.new.result _ _ (λ guessed same a satisfies is. same
    ∙ guessed_is c.args.model.now c.outputs.result.now items c.read_outputs.new.values c.deref.result.now a (length c.variables.result.now) c.args.text.now c.outputs.ensures.kept c.requires c.outputs.ensures.outputs
    (ap length c.variables.ensures.variables) (c.in_ok-values.ensures.items_if_clones_equal (λ y is. is))
    (c.read_outputs.ensures ∙ ap (λ (values : List ℤ). (with_outputs c.outputs.result.now (guess_of values c.args.text.now)).values) c.deref_mut.ensures.value)
    (written c.read_outputs.new.values c.deref_mut.result.now items c.deref.result.now c.in_ok-values.values.len c.deref_mut.ensures.value c.read_outputs.auto.values c.in_ok-values.values.ok.0 c.deref.ensures.value)
    satisfies is) c.new.ensures
