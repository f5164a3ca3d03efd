use Rattle.std.proofs.Common.{[], ◌∷◌, length, sym, subst}
use Rattle.std.specs.Prelude.{IfOk}
use Rattle.fz_dom.specs.Changes.{IsFromTo}
use Rattle.fz_spec.specs.declared.term.Term.{Term}
use Rattle.fz_spec.specs.declared.shape.Operation.TheVariants.{Times}
use Rattle.fz_strength.specs.Operations.{equation}
use Rattle.fz_strength.specs.Domains.{IsTermOf}
use Rattle.fz_prop.specs.Stores.{IsTermChange}
use Rattle.fz_arith.proofs.Sizing.{needs_root, kept_correct, all_help}
use Rattle.fz_arith.proofs.factors.keep_root.Goals as goal

pub keep_between-requires : goal.keep_between-requires
keep_between-requires c = subst (λ t. IsTermOf (length c.args.store.now.doms) t) (sym c.root_bounds-bounds.ensures.term) c.requires.x

pub returns-clause-correct : goal.returns-clause-correct
returns-clause-correct c =
    let low = c.root_bounds-bounds.result.low in
    let high = c.root_bounds-bounds.result.high in
    let before = c.args.store.now in
    let after = c.keep_between.new.store in
    let e = equation Times (c.args.x ∷ c.args.x ∷ []) c.args.value in
    let needs = needs_root c.args.x c.args.value before.doms low high c.requires.x c.requires.value c.root_bounds-bounds.ensures.between in
    let change = subst (λ (t : Term). IfOk c.keep_between.result (λ change. IsTermChange change t (λ u. IsFromTo low high u) before after)) c.root_bounds-bounds.ensures.term c.keep_between.ensures.change in
    kept_correct c.keep_between.result c.args.x (λ u. IsFromTo low high u) e before after needs c.keep_between.ensures.err change c.keep_between.ensures.shrinks

pub returns-clause-helped : goal.returns-clause-helped
returns-clause-helped c =
    let low = c.root_bounds-bounds.result.low in
    let high = c.root_bounds-bounds.result.high in
    let before = c.args.store.now in
    let after = c.keep_between.new.store in
    let e = equation Times (c.args.x ∷ c.args.x ∷ []) c.args.value in
    let needs = needs_root c.args.x c.args.value before.doms low high c.requires.x c.requires.value c.root_bounds-bounds.ensures.between in
    let change = subst (λ (t : Term). IfOk c.keep_between.result (λ change. IsTermChange change t (λ u. IsFromTo low high u) before after)) c.root_bounds-bounds.ensures.term c.keep_between.ensures.change in
    all_help c.keep_between.result c.args.x (λ u. IsFromTo low high u) e before after c.requires.x needs change
