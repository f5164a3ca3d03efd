use Rattle.std.proofs.Common.{◌≡◌}
use Rattle.fz_strength.specs.Clauses.{true_number, false_number}
use Rattle.fz_prop.specs.Truths.{IsAbout}
use Rattle.fz_prop.proofs.Settling.{settled_correct, settled_answer}
use Rattle.fz_bool.specs.Clausal.{TruthOf, LineOf}
use Rattle.fz_bool.proofs.Clausal.{true_about, false_about, open_line}
use Rattle.fz_bool.proofs.clause.decide.Goals as goal

about_true : (c : goal.After-settled) → IsAbout c.args.r.term (λ u. u ≡ true_number c.args.r) (TruthOf c.args.literals.now c.args.r) (LineOf c.args.literals.now c.args.r) c.args.store.now.doms
about_true c = true_about c.args.literals.now c.args.r c.args.store.now.doms c.requires.literals c.requires.result c.in-True.ensures

about_false : (c : goal.After-settled-in-False) → IsAbout c.args.r.term (λ u. u ≡ false_number c.args.r) (TruthOf c.args.literals.now c.args.r) (LineOf c.args.literals.now c.args.r) c.args.store.now.doms
about_false c = false_about c.args.literals.now c.args.r c.args.store.now.doms c.requires.literals c.requires.result c.in-False.ensures

pub returns-in_ok-change-in-True-clause-correct : goal.returns-in_ok-change-in-True-clause-correct
returns-in_ok-change-in-True-clause-correct c =
    settled_correct c.in_ok-change-in-True.change c.args.r.term (λ u. u ≡ true_number c.args.r) (TruthOf c.args.literals.now c.args.r) (LineOf c.args.literals.now c.args.r)
    c.args.store.now c.make_true.new.store c.in_ok-change-in-True.ensures.change c.in_ok-change-in-True.ensures.shrinks (about_true c)

pub returns-in_ok-change-in-True-clause-answer : goal.returns-in_ok-change-in-True-clause-answer
returns-in_ok-change-in-True-clause-answer c =
    rw c.settled.ensures
    (settled_answer c.in_ok-change-in-True.change c.args.r.term (λ u. u ≡ true_number c.args.r) (TruthOf c.args.literals.now c.args.r) (LineOf c.args.literals.now c.args.r)
    c.args.store.now c.make_true.new.store c.requires.result.0 c.in_ok-change-in-True.ensures.change c.in_ok-change-in-True.ensures.shrinks (about_true c))

pub returns-in_ok-change-in-False-clause-correct : goal.returns-in_ok-change-in-False-clause-correct
returns-in_ok-change-in-False-clause-correct c =
    settled_correct c.in_ok-change-in-False.change c.args.r.term (λ u. u ≡ false_number c.args.r) (TruthOf c.args.literals.now c.args.r) (LineOf c.args.literals.now c.args.r)
    c.args.store.now c.make_false.new.store c.in_ok-change-in-False.ensures.change c.in_ok-change-in-False.ensures.shrinks (about_false c)

pub returns-in_ok-change-in-False-clause-answer : goal.returns-in_ok-change-in-False-clause-answer
returns-in_ok-change-in-False-clause-answer c =
    rw c.settled-in-False.ensures
    (settled_answer c.in_ok-change-in-False.change c.args.r.term (λ u. u ≡ false_number c.args.r) (TruthOf c.args.literals.now c.args.r) (LineOf c.args.literals.now c.args.r)
    c.args.store.now c.make_false.new.store c.requires.result.0 c.in_ok-change-in-False.ensures.change c.in_ok-change-in-False.ensures.shrinks (about_false c))

pub returns-in-Open-clause-answer : goal.returns-in-Open-clause-answer
returns-in-Open-clause-answer c = open_line c.args.literals.now c.args.r c.args.store.now.doms c.requires.unfixed c.in-Open.ensures
