use Rattle.std.proofs.Common.{subst, rules}
use Rattle.std.specs.Prelude.{ℤ, ◌≤ℤ◌}
use Rattle.std.proofs.Math.Facts.{to_z-of_z}
use mir.Val.{SFits}
use mir.Syntax.{w32}
use Rattle.fz_prop.specs.Stores.{IsChangeAt}
use Rattle.fz_space.proofs.Deciding.{above_at}
use Rattle.fz_space.proofs.commit.keep_above.Goals as goal

pub returns-clause-change : goal.returns-clause-change
returns-clause-change c =
    let fits : SFits w32 c.next.result = search rules in
    let fits_value : SFits w32 c.args.value = search rules in
    above_at c.in_ok-change.change c.args.variable c.next.result c.args.value c.args.store.now c.keep_from.new.self
    (subst (λ (low : ℤ). IsChangeAt c.in_ok-change.change c.args.variable (λ x. low ≤ℤ x) c.args.store.now c.keep_from.new.self) (to_z-of_z fits) c.in_ok-change.ensures.change)
    (rw (to_z-of_z fits_value) at c.next.ensures)
