use Rattle.std.proofs.Common.{[], ◌∷◌, List}
use Rattle.std.specs.Prelude.{ℤ}
use Rattle.std.specs.List.{AllByRecursion}
use Rattle.fz_spec.specs.Constraints.{term_value}
use Rattle.fz_strength.specs.Operations.{equation}
use Rattle.fz_prop.proofs.TermChanges.{term_within}
use Rattle.fz_arith.specs.Narrowing.{LiesBetween}
use Rattle.fz_arith.proofs.Helping.{IsNeeded, helped_ok, correct_by, lie_within}
use Rattle.fz_arith.proofs.sized.keep_sized.Goals as goal

pub returns-clause-correct : goal.returns-clause-correct
returns-clause-correct c =
    let ds = c.args.store.now.doms in
    let e = equation c.args.operation (c.args.x ∷ c.args.y ∷ []) c.args.value in
    let T : List ℤ → Type 0 = λ a. AllByRecursion (LiesBetween a) (c.within.result ∷ c.within-2.result ∷ c.within-3.result ∷ []) in
    let needs : IsNeeded e c.args.store.now T = λ a inside holds.
    (let in_x = c.range_of.ensures.between (term_value a c.args.x) (term_within ds a c.args.x c.requires.x inside) in
    let in_y = c.range_of-2.ensures.between (term_value a c.args.y) (term_within ds a c.args.y c.requires.y inside) in
    let in_z = c.range_of-3.ensures.between (term_value a c.args.value) (term_within ds a c.args.value c.requires.value inside) in
    let b = c.narrowed-left.ensures (term_value a c.args.x) (term_value a c.args.y) (term_value a c.args.value) (in_x, in_y, in_z) holds in (
      lie_within a c.within.result c.args.x c.narrowed-left.result.first c.within.ensures b.0,
      (
        lie_within a c.within-2.result c.args.y c.narrowed-left.result.second c.within-2.ensures b.1,
        (lie_within a c.within-3.result c.args.value c.narrowed-left.result.value c.within-3.ensures b.2, tt),
      ),
    )) in
    correct_by T e c.args.store.now c.keep_all.new.store needs c.keep_all.ensures.correct

pub returns-clause-helped : goal.returns-clause-helped
returns-clause-helped c =
    let ds = c.args.store.now.doms in
    let e = equation c.args.operation (c.args.x ∷ c.args.y ∷ []) c.args.value in
    let T : List ℤ → Type 0 = λ a. AllByRecursion (LiesBetween a) (c.within.result ∷ c.within-2.result ∷ c.within-3.result ∷ []) in
    let needs : IsNeeded e c.args.store.now T = λ a inside holds.
    (let in_x = c.range_of.ensures.between (term_value a c.args.x) (term_within ds a c.args.x c.requires.x inside) in
    let in_y = c.range_of-2.ensures.between (term_value a c.args.y) (term_within ds a c.args.y c.requires.y inside) in
    let in_z = c.range_of-3.ensures.between (term_value a c.args.value) (term_within ds a c.args.value c.requires.value inside) in
    let b = c.narrowed-left.ensures (term_value a c.args.x) (term_value a c.args.y) (term_value a c.args.value) (in_x, in_y, in_z) holds in (
      lie_within a c.within.result c.args.x c.narrowed-left.result.first c.within.ensures b.0,
      (
        lie_within a c.within-2.result c.args.y c.narrowed-left.result.second c.within-2.ensures b.1,
        (lie_within a c.within-3.result c.args.value c.narrowed-left.result.value c.within-3.ensures b.2, tt),
      ),
    )) in
    helped_ok c.keep_all.result T e c.args.store.now c.keep_all.new.store needs c.keep_all.ensures.outcome
