use Rattle.std.proofs.Common.{◌≡◌, [], ◌∷◌, refl, subst}
use Rattle.std.specs.Prelude.{IfOk}
use Rattle.fz_spec.specs.declared.term.Term.{Term}
use Rattle.fz_spec.specs.declared.shape.Operation.TheVariants.{Plus}
use Rattle.fz_strength.specs.Operations.{equation, EquationTruth}
use Rattle.fz_prop.specs.Answers.{IsCorrectOf}
use Rattle.fz_arith.specs.Narrowing.{IsHelped}
use Rattle.fz_arith.proofs.factors.keep_summands.Goals as goal

pub returns-then-is_same-clause-correct : goal.returns-then-is_same-clause-correct
returns-then-is_same-clause-correct c =
    let x = c.args.x in
    let y = c.args.y in
    let is : x ≡ c.args.value = c.if-is_same.ensures.0 refl in
    subst (λ (z : Term). IsCorrectOf (EquationTruth (equation Plus (x ∷ y ∷ []) z)) c.args.store.now.doms c.keep_zero.new.store.doms) is c.keep_zero.ensures.correct

pub returns-then-is_same-clause-helped : goal.returns-then-is_same-clause-helped
returns-then-is_same-clause-helped c =
    let x = c.args.x in
    let y = c.args.y in
    let is : x ≡ c.args.value = c.if-is_same.ensures.0 refl in
    subst (λ (z : Term). IfOk c.keep_zero.result (λ r. IsHelped r (equation Plus (x ∷ y ∷ []) z) c.args.store.now c.keep_zero.new.store)) is c.keep_zero.ensures.helped

pub returns-then-is_same-2-clause-correct : goal.returns-then-is_same-2-clause-correct
returns-then-is_same-2-clause-correct c =
    let x = c.args.x in
    let y = c.args.y in
    let is : y ≡ c.args.value = c.if-is_same-2.ensures.0 refl in
    let call = c.keep_zero-then-is_same-2 in
    subst (λ (z : Term). IsCorrectOf (EquationTruth (equation Plus (x ∷ y ∷ []) z)) c.args.store.now.doms call.new.store.doms) is call.ensures.turned_correct

pub returns-then-is_same-2-clause-helped : goal.returns-then-is_same-2-clause-helped
returns-then-is_same-2-clause-helped c =
    let x = c.args.x in
    let y = c.args.y in
    let is : y ≡ c.args.value = c.if-is_same-2.ensures.0 refl in
    let call = c.keep_zero-then-is_same-2 in
    subst (λ (z : Term). IfOk call.result (λ r. IsHelped r (equation Plus (x ∷ y ∷ []) z) c.args.store.now call.new.store)) is call.ensures.turned_helped

pub returns-then-is_same-3-clause-correct : goal.returns-then-is_same-3-clause-correct
returns-then-is_same-3-clause-correct c =
    let x = c.args.x in
    let z = c.args.value in
    let is : x ≡ c.args.y = c.if-is_same-3.ensures.0 refl in
    subst (λ (y : Term). IsCorrectOf (EquationTruth (equation Plus (x ∷ y ∷ []) z)) c.args.store.now.doms c.keep_half.new.store.doms) is c.keep_half.ensures.correct

pub returns-then-is_same-3-clause-helped : goal.returns-then-is_same-3-clause-helped
returns-then-is_same-3-clause-helped c =
    let x = c.args.x in
    let z = c.args.value in
    let is : x ≡ c.args.y = c.if-is_same-3.ensures.0 refl in
    subst (λ (y : Term). IfOk c.keep_half.result (λ r. IsHelped r (equation Plus (x ∷ y ∷ []) z) c.args.store.now c.keep_half.new.store)) is c.keep_half.ensures.helped
