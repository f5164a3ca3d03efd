use Rattle.std.proofs.Common.{refl}
use Rattle.fz_spec.specs.declared.term.Term.TheVariants.{Var}
use Rattle.fz_spec.specs.declared.shape.Relation.TheVariants.{Equal}
use Rattle.fz_strength.specs.Domains.{dom_at}
use Rattle.fz_prop.specs.Answers.{IsCorrectOf}
use Rattle.fz_prop.proofs.Answering.{answer_twice}
use Rattle.fz_rel.specs.Truths.{TruthOf, LineOf}
use Rattle.fz_rel.proofs.Equality.{correct_same, correct_turned}
use Rattle.fz_rel.proofs.equal.keep_rest.Goals as goal

corrected : (c : goal.After-same_now) → IsCorrectOf (TruthOf Equal (Var c.args.x) (Var c.args.y)) c.args.store.now.doms c.keep_among.new.store.doms
corrected c =
    correct_turned (Var c.args.y) (Var c.args.x) c.args.store.now.doms c.keep_among.new.store.doms
    (correct_same c.in_ok-keep_among.field-0 c.args.y c.args.x (dom_at c.args.store.now.doms c.args.x) c.args.store.now c.keep_among.new.store c.requires.x refl
    c.in_ok-keep_among.ensures.change c.in_ok-keep_among.ensures.shrinks)

pub returns-in_default-clause-correct : goal.returns-in_default-clause-correct
returns-in_default-clause-correct c = corrected c

pub returns-in_default-clause-answer : goal.returns-in_default-clause-answer
returns-in_default-clause-answer c =
    answer_twice c.same_now.result (TruthOf Equal (Var c.args.x) (Var c.args.y)) (LineOf Equal (Var c.args.x) (Var c.args.y)) c.args.store.now c.keep_among.new.store c.keep_among.new.store
    c.in_ok-keep_among.ensures.shrinks (corrected c) c.same_now.ensures.answer
