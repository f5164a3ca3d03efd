use Rattle.std.proofs.Common.{get_or}
use Rattle.fz_sets.proofs.Lists.{same_at}
use Rattle.fz_cert.proofs.Counting.{too_many}
use Rattle.fz_cert.proofs.variables.few_open.Goals as goal

pub returns-then-choices-gt256-clause-none : goal.returns-then-choices-gt256-clause-none
returns-then-choices-gt256-clause-none c = λ few.
    let vs = c.args.variables.now in
    let i = c.loop-variable.variable-index in
    let v = get_or vs i 0 in
    let within = c.loop-variable-test.true in
    too_many c.args.area.now vs c.loop-variable.several.items c.add_open.new.several.items i _ _ v c.loop-variable.invariant within (same_at vs i 0 v within) c.in_ok-choices.ensures.several c.in_ok-choices.ensures.choices c.if-choices-gt256.true few
