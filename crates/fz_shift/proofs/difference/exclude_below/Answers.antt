use Rattle.std.proofs.Common.{◌≢◌, subst, arith, rules}
use Rattle.std.specs.Prelude.{ℤ, ◌+ℤ◌}
use Rattle.std.proofs.lemmas.Int.{ints}
use Rattle.std.proofs.Math.Facts.{to_z-of_z}
use mir.Val.{SFits}
use mir.Syntax.{w32}
use Rattle.fz_spec.specs.declared.term.Term.TheVariants.{Var}
use Rattle.fz_spec.specs.declared.shape.Relation.TheVariants.{NotEqual}
use Rattle.fz_prop.specs.Stores.{IsChangeAt}
use Rattle.fz_prop.specs.Truths.{IsAbout}
use Rattle.fz_prop.proofs.Settling.{settled_correct, settled_answer}
use Rattle.fz_shift.specs.Differences.{DifferenceTruth, DifferenceLine}
use Rattle.fz_shift.proofs.Differences.{apart_about}
use Rattle.fz_shift.proofs.difference.exclude_below.Goals as goal

about : (c : goal.After-settled)
    → IsAbout (Var c.args.d.second) (λ u. u ≢ c.partner.result) (DifferenceTruth NotEqual c.args.d.first c.args.d.second c.args.d.above) (DifferenceLine NotEqual c.args.d.first c.args.d.second c.args.d.above) c.args.store.now.doms
about c =
    let d = c.args.d in
    let fits : SFits w32 d.below = search rules in
    apart_about d.first d.second d.first d.second d.above c.args.value (c.args.value +ℤ d.below) c.partner.result c.args.store.now.doms c.doms.ensures.store.domains
    c.requires.first c.requires.second c.requires.only (rw (to_z-of_z c.ranges.value, to_z-of_z fits) at c.partner.ensures) (λ a is. ((λ e. omega (arith, ints, is, e, c.requires.turned)), (λ e. omega (arith, ints, is, e, c.requires.turned))))

changed : (c : goal.After-settled) → IsChangeAt c.in_ok-change.change c.args.d.second (λ u. u ≢ c.partner.result) c.args.store.now c.remove.new.self
changed c =
    let fits : SFits w32 c.partner.result = search rules in
    subst (λ (v : ℤ). IsChangeAt c.in_ok-change.change c.args.d.second (λ u. u ≢ v) c.args.store.now c.remove.new.self) (to_z-of_z fits) c.in_ok-change.ensures.change

pub returns-clause-correct : goal.returns-clause-correct
returns-clause-correct c =
    let d = c.args.d in
    settled_correct c.in_ok-change.change (Var d.second) (λ u. u ≢ c.partner.result) (DifferenceTruth NotEqual d.first d.second d.above) (DifferenceLine NotEqual d.first d.second d.above) c.args.store.now c.remove.new.self
    (changed c) c.in_ok-change.ensures.shrinks (about c)

pub returns-clause-answer : goal.returns-clause-answer
returns-clause-answer c =
    let d = c.args.d in
    rw c.settled.ensures
    (settled_answer c.in_ok-change.change (Var d.second) (λ u. u ≢ c.partner.result) (DifferenceTruth NotEqual d.first d.second d.above) (DifferenceLine NotEqual d.first d.second d.above) c.args.store.now c.remove.new.self c.requires.second
    (changed c) c.in_ok-change.ensures.shrinks (about c))
