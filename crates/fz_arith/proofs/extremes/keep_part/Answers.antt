use Rattle.std.proofs.Common.{length, arith, subst, sym}
use Rattle.std.specs.List.{AllByRecursion}
use Rattle.std.proofs.lemmas.Result.{IfOk-weaker}
use Rattle.fz_strength.specs.Operations.{equation, EquationTruth, IsEquationLine}
use Rattle.fz_prop.specs.declared.answer.Answer.{Answer}
use Rattle.fz_prop.specs.Answers.{IsAnswerOf}
use Rattle.fz_strength.specs.Domains.{IsTermOf}
use Rattle.fz_arith.proofs.Beaten.{IsPart, part_is, part_terms, part_correct, part_answer}
use Rattle.fz_arith.proofs.extremes.keep_part.Goals as goal

part : (c : goal.After-doms) → IsPart c.args.operation c.args.store.now.doms c.args.value c.args.operands.now c.part_of-part.result.now
part c =
    let xs = c.args.operands.now in
    let end = c.saturating_sub-end.result in
    let start = c.min.result in
    subst (IsPart c.args.operation c.args.store.now.doms c.args.value xs) (sym c.part_of-part.ensures)
    (part_is c.args.operation c.args.store.now.doms c.args.value xs c.args.front c.args.back start end c.requires.value c.requires.operands
    (omega (arith, c.min.ensures)) (omega (arith, c.min.ensures)) (omega (arith, c.saturating_sub-end.ensures)) c.requires.told)

pub keep_equation-answer-requires-clause-operands : goal.keep_equation-answer-requires-clause-operands
keep_equation-answer-requires-clause-operands c =
    subst (AllByRecursion (IsTermOf (length c.args.store.now.doms))) (sym c.part_of-part.ensures)
    (part_terms (IsTermOf (length c.args.store.now.doms)) c.args.operands.now c.min.result c.saturating_sub-end.result c.requires.operands)

pub returns-clause-correct : goal.returns-clause-correct
returns-clause-correct c =
    part_correct c.args.operation c.args.store.now.doms c.keep_equation-answer.new.store.doms c.args.value c.args.operands.now c.part_of-part.result.now c.requires.extreme (part c)
    c.keep_equation-answer.ensures.correct

pub returns-clause-answer : goal.returns-clause-answer
returns-clause-answer c =
    let before = c.args.store.now.doms in
    let after = c.keep_equation-answer.new.store.doms in
    let e = equation c.args.operation c.part_of-part.result.now c.args.value in
    let whole = equation c.args.operation c.args.operands.now c.args.value in
    IfOk-weaker c.keep_equation-answer.result (λ (r : Answer). IsAnswerOf r (EquationTruth e) (IsEquationLine e) before after)
    (λ (r : Answer). IsAnswerOf r (EquationTruth whole) (IsEquationLine whole) before after)
    (λ r h. part_answer r c.args.operation before after c.args.value c.args.operands.now c.part_of-part.result.now c.requires.extreme c.doms.ensures.store.domains
    c.keep_equation-answer.ensures.shrinks.narrower (part c) h)
    c.keep_equation-answer.ensures.answer
