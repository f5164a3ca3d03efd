use Rattle.std.proofs.Common.{subst, rules}
use Rattle.std.specs.Prelude.{ℤ, ◌≤ℤ◌}
use Rattle.std.proofs.Math.Facts.{to_z-of_z}
use mir.Val.{SFits}
use mir.Syntax.{w32}
use Rattle.fz_dom.specs.Shape.{least}
use Rattle.fz_dom.specs.declared.change.Change.TheVariants.{Same, Changed}
use Rattle.fz_strength.specs.Domains.{term_set}
use Rattle.fz_prop.specs.Stores.{IsTermChange}
use Rattle.fz_rel.proofs.Orders.{low_order, correct_low}
use Rattle.fz_rel.proofs.order.keep_behind.Goals as goal

pub ordered-requires-clause-lows : goal.ordered-requires-clause-lows
ordered-requires-clause-lows c =
    let fits : SFits w32 c.lowest_behind-lowest.result = search rules in
    low_order c.args.strict c.args.x c.args.y c.lowest_behind-lowest.result c.args.store.now c.keep_from.new.store c.requires.y c.lowest_behind-lowest.ensures.store.domains
    c.lowest_behind-lowest.ensures.least
    (subst (λ (v : ℤ). IsTermChange Same c.args.y (λ x. v ≤ℤ x) c.args.store.now c.keep_from.new.store) (to_z-of_z fits) (rw c.in-Same.is at c.in_ok-keep_from.ensures.change))

pub returns-in-Changed-clause-correct : goal.returns-in-Changed-clause-correct
returns-in-Changed-clause-correct c =
    let fits : SFits w32 c.lowest_behind-lowest.result = search rules in
    correct_low c.args.strict Changed c.args.x c.args.y (least (term_set c.args.store.now.doms c.args.x)) c.lowest_behind-lowest.result c.args.store.now c.keep_from.new.store c.requires.x
    c.lowest_behind-lowest.ensures.lower_bound c.lowest_behind-lowest.ensures.least
    (subst (λ (v : ℤ). IsTermChange Changed c.args.y (λ x. v ≤ℤ x) c.args.store.now c.keep_from.new.store) (to_z-of_z fits) (rw c.in-Changed.is at c.in_ok-keep_from.ensures.change))
    c.in_ok-keep_from.ensures.shrinks
