use Rattle.std.proofs.Common.{ℕ, subst, sym}
use Rattle.std.specs.List.{AllByRecursion}
use Rattle.fz_strength.specs.Operations.{equation, EquationTruth}
use Rattle.fz_strength.specs.Domains.{IsTermOf}
use Rattle.fz_prop.proofs.Answering.{correct_twice}
use Rattle.fz_prop.proofs.Twice.{shrinks_twice}
use Rattle.fz_arith.proofs.Helping.{answer_more}
use Rattle.fz_arith.proofs.narrow.keep_equation.Goals as goal

pub keep_line-requires-clause-value : goal.keep_line-requires-clause-value
keep_line-requires-clause-value c = subst (λ (n : ℕ). IsTermOf n c.args.value) (sym c.in_ok-change.ensures.shrinks.narrower.size) c.requires.value

pub keep_line-requires-clause-operands : goal.keep_line-requires-clause-operands
keep_line-requires-clause-operands c =
    subst (λ (n : ℕ). AllByRecursion (IsTermOf n) c.args.operands.now) (sym c.in_ok-change.ensures.shrinks.narrower.size) c.requires.operands

pub returns-clause-shrinks : goal.returns-clause-shrinks
returns-clause-shrinks c = shrinks_twice c.args.store.now c.keep_operands.new.store c.keep_line.new.store c.in_ok-change.ensures.shrinks c.in_ok-answer.ensures.shrinks

pub returns-in_err-answer-clause-shrinks : goal.returns-in_err-answer-clause-shrinks
returns-in_err-answer-clause-shrinks c = shrinks_twice c.args.store.now c.keep_operands.new.store c.keep_line.new.store c.in_ok-change.ensures.shrinks c.keep_line.ensures.shrinks

pub returns-clause-correct : goal.returns-clause-correct
returns-clause-correct c =
    correct_twice (EquationTruth (equation c.args.operation c.args.operands.now c.args.value)) c.args.store.now.doms c.keep_operands.new.store.doms c.keep_line.new.store.doms
    c.in_ok-change.ensures.correct c.in_ok-answer.ensures.correct

pub returns-in_err-answer-clause-correct : goal.returns-in_err-answer-clause-correct
returns-in_err-answer-clause-correct c =
    correct_twice (EquationTruth (equation c.args.operation c.args.operands.now c.args.value)) c.args.store.now.doms c.keep_operands.new.store.doms c.keep_line.new.store.doms
    c.in_ok-change.ensures.correct c.keep_line.ensures.correct

pub returns-clause-answer : goal.returns-clause-answer
returns-clause-answer c = rw c.after.ensures
    (answer_more c.in_ok-change.change c.in_ok-answer.answer (equation c.args.operation c.args.operands.now c.args.value) c.args.store.now c.keep_operands.new.store c.keep_line.new.store
    c.in_ok-change.ensures.helped c.in_ok-change.ensures.shrinks c.in_ok-change.ensures.correct c.in_ok-answer.ensures.shrinks c.in_ok-answer.ensures.answer)
