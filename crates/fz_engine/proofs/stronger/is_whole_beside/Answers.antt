use Rattle.std.proofs.Common.{◌≡◌, length, pos, rules}
use Rattle.fz_spec.specs.declared.term.Term.TheVariants.{Num}
use Rattle.fz_engine.proofs.Shapes.{two_long}
use Rattle.fz_engine.proofs.stronger.is_whole_beside.Goals as goal

pub returns-then-terms-eq2 : goal.returns-then-terms-eq2
returns-then-terms-eq2 c =
    let factors : length c.args.factors.now ≡ 2 = search rules in
    let terms : length c.args.terms.now ≡ 2 = search rules in
    let sum = rw (c.product_at-second.ensures.factor, c.product_at-second.ensures.term, c.product_at-third.ensures.factor, c.product_at-third.ensures.term) at c.is_plane.ensures in
    rw (two_long c.args.factors.now (pos 0) factors, two_long c.args.terms.now (Num (pos 0)) terms) sum
