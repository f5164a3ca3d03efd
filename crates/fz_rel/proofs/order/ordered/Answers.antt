use Rattle.std.proofs.Common.{◌≡◌, arith, rules}
use Rattle.std.specs.Prelude.{◌+ℤ◌, ◌≤ℤ◌}
use Rattle.std.proofs.lemmas.Int.{ints}
use Rattle.std.proofs.Math.Facts.{to_z-of_z}
use mir.Val.{SFits}
use mir.Syntax.{w32}
use Rattle.fz_strength.specs.Domains.{term_set}
use Rattle.fz_rel.specs.Truths.{gap_of}
use Rattle.fz_rel.proofs.Orders.{all_ordered, line}
use Rattle.fz_rel.proofs.order.ordered.Goals as goal

pub returns-then-behind-least_of : goal.returns-then-behind-least_of
returns-then-behind-least_of c =
    let fits_greatest : SFits w32 c.greatest_of.result = search rules in
    let fits_behind : SFits w32 c.behind.result = search rules in
    let fits_least : SFits w32 c.least_of.result = search rules in
    let behind : c.behind.result ≡ c.greatest_of.result +ℤ gap_of c.args.strict = rw (to_z-of_z fits_greatest) at c.behind.ensures in
    let test = rw (to_z-of_z fits_behind, to_z-of_z fits_least) at c.if-behind-least_of.true in
    let apart : c.behind.result ≤ℤ c.least_of.result = grind (arith, ints, test) in
    all_ordered c.args.strict c.args.x c.args.y c.args.store.now.doms c.greatest_of.result c.least_of.result c.requires.x c.requires.y
    c.greatest_of.ensures.upper_bound c.least_of.ensures.lower_bound (rw (← behind) apart)

pub returns-else-behind-least_of : goal.returns-else-behind-least_of
returns-else-behind-least_of c =
    line c.args.strict (term_set c.args.store.now.doms c.args.x) (term_set c.args.store.now.doms c.args.y) c.requires.lows c.requires.highs
