use Rattle.fz_branch.proofs.Choosing.{chosen_of}
use Rattle.fz_branch.proofs.choose.choice_of.Goals as goal

pub returns : goal.returns
returns c =
    chosen_of c.args.doms.now c.args.part.now c.variables-variables.result.now c.pick.result c.value.result c.in-Some.place c.index-doms-variable.result c.in_ok-choice.choice
    c.variables-variables.ensures c.pick.ensures c.value.ensures c.in-Some.ensures c.index-doms-variable.is c.in_ok-choice.ensures
