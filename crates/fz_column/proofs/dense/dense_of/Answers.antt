use Rattle.std.proofs.Common.{◌≡◌, refl, sym, subst, rules, arith, to_z, of_z, w32}
use Rattle.std.proofs.lemmas.Int.{ints}
use Rattle.fz_prop.specs.Matching.{HasRoom}
use Rattle.fz_column.specs.declared.dense.Dense.{Dense}
use Rattle.fz_column.specs.Dense.{IsDenseOf}
use Rattle.fz_column.proofs.dense.dense_of.Goals as goal

pub returns : goal.returns
returns c =
    let low = c.clamp-base.ensures.lower_bound in
    let high = c.clamp-base.ensures.upper_bound in
    let room : HasRoom c.clamp-base.result = (omega (arith, ints, low), omega (arith, ints, high)) in
    let kept : to_z w32 (of_z w32 c.clamp-base.result) ≡ c.clamp-base.result = search rules in
    let dense : Dense = record { base = c.clamp-base.result; grid = c.fill.new.grid } in
    let is : IsDenseOf dense c.args.supports.now = record { whole = c.if-not-fill.ensures.whole; room = room; rows = rw kept at (c.if-not-fill.ensures.rows refl) } in
    subst (λ (d : Dense). IsDenseOf d c.args.supports.now) (sym c.in_ok-new.ensures.ok) (rw kept is)
