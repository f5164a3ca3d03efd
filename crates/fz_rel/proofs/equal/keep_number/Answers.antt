use Rattle.std.proofs.Common.{◌≡◌, subst}
use Rattle.std.specs.Prelude.{ℤ}
use Rattle.std.proofs.Math.Facts.{to_z-of_z}
use Rattle.fz_spec.specs.declared.shape.Relation.TheVariants.{Equal}
use Rattle.fz_prop.specs.Stores.{IsTermChange}
use Rattle.fz_prop.proofs.Settling.{settled_correct, settled_answer}
use Rattle.fz_rel.specs.Truths.{TruthOf, LineOf}
use Rattle.fz_rel.proofs.Equality.{equal_about}
use Rattle.fz_rel.proofs.equal.keep_number.Goals as goal

pub returns-clause-correct : goal.returns-clause-correct
returns-clause-correct c =
    let fits = c.ranges.value in
    settled_correct c.in_ok-change.change c.args.other (λ x. x ≡ c.args.value) (TruthOf Equal c.args.fixed c.args.other) (LineOf Equal c.args.fixed c.args.other) c.args.store.now c.keep_only.new.store
    (subst (λ (v : ℤ). IsTermChange c.in_ok-change.change c.args.other (λ x. x ≡ v) c.args.store.now c.keep_only.new.store) (to_z-of_z fits) c.in_ok-change.ensures.change)
    c.in_ok-change.ensures.shrinks (equal_about c.args.fixed c.args.other c.args.value c.args.store.now.doms c.requires.fixed c.requires.other c.requires.only)

pub returns-clause-answer : goal.returns-clause-answer
returns-clause-answer c =
    let fits = c.ranges.value in
    rw c.settled.ensures
    (settled_answer c.in_ok-change.change c.args.other (λ x. x ≡ c.args.value) (TruthOf Equal c.args.fixed c.args.other) (LineOf Equal c.args.fixed c.args.other) c.args.store.now c.keep_only.new.store c.requires.other
    (subst (λ (v : ℤ). IsTermChange c.in_ok-change.change c.args.other (λ x. x ≡ v) c.args.store.now c.keep_only.new.store) (to_z-of_z fits) c.in_ok-change.ensures.change)
    c.in_ok-change.ensures.shrinks (equal_about c.args.fixed c.args.other c.args.value c.args.store.now.doms c.requires.fixed c.requires.other c.requires.only))
