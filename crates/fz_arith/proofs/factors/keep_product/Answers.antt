use Rattle.std.proofs.Common.{[], ◌∷◌}
use Rattle.fz_spec.specs.declared.shape.Operation.TheVariants.{Times}
use Rattle.fz_strength.specs.Operations.{equation}
use Rattle.fz_arith.proofs.Helping.{wiped_only}
use Rattle.fz_arith.proofs.factors.keep_product.Goals as goal

pub returns-clause-helped : goal.returns-clause-helped
returns-clause-helped c =
    let e = equation Times (c.args.x ∷ c.args.y ∷ []) c.args.value in
    rw c.only_wiped.ensures (wiped_only c.in_ok-change.change e c.args.store.now c.keep_sized.new.store c.in_ok-change.ensures.helped)
