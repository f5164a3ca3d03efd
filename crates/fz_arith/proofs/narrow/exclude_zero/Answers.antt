use Rattle.std.proofs.Common.{◌≢◌, pos, length}
use Rattle.std.proofs.lemmas.Result.{IfOk-weaker}
use Rattle.fz_dom.specs.declared.change.Change.{Change}
use Rattle.fz_spec.specs.declared.term.Term.{Term}
use Rattle.fz_spec.specs.declared.term.Term.TheVariants.{Num}
use Rattle.fz_strength.specs.Operations.{Equation, equation}
use Rattle.fz_prop.specs.Stores.{IsTermChange}
use Rattle.fz_arith.specs.Narrowing.{IsDivided}
use Rattle.fz_arith.proofs.Steps.{divisor_term, divided_is, divided_correct}
use Rattle.fz_arith.proofs.narrow.exclude_zero.Goals as goal

pub remove-requires : goal.remove-requires
remove-requires c =
    divisor_term (equation c.args.operation c.args.operands.now (Num (pos 0))) (length c.args.store.now.doms) c.in-Some.divisor c.in-Some.ensures c.requires

pub returns-in-Some-clause-correct : goal.returns-in-Some-clause-correct
returns-in-Some-clause-correct c = λ z.
    divided_correct c.remove.result (equation c.args.operation c.args.operands.now z) c.in-Some.divisor c.args.store.now c.remove.new.store c.in-Some.ensures
    c.remove.ensures.err c.remove.ensures.change c.remove.ensures.shrinks

pub returns-in-Some-clause-divided : goal.returns-in-Some-clause-divided
returns-in-Some-clause-divided c =
    let e : Term → Equation = λ z. equation c.args.operation c.args.operands.now z in
    let y = c.in-Some.divisor in
    let before = c.args.store.now in
    let after = c.remove.new.store in
    IfOk-weaker c.remove.result (λ (r : Change). IsTermChange r y (λ x. x ≢ pos 0) before after) (λ (r : Change). (z : Term) → IsDivided r (e z) before after)
    (λ r h z. divided_is r (e z) y before after c.in-Some.ensures c.requires h) c.remove.ensures.change
