use Rattle.std.proofs.Common.{◌≡◌, length, pos, rules}
use Rattle.fz_spec.specs.declared.term.Term.TheVariants.{Num}
use Rattle.fz_engine.proofs.Shapes.{three_long}
use Rattle.fz_engine.proofs.stronger.is_whole_of.Goals as goal

pub returns-then-terms-eq3 : goal.returns-then-terms-eq3
returns-then-terms-eq3 c =
    let factors : length c.args.factors.now ≡ 3 = search rules in
    let terms : length c.args.terms.now ≡ 3 = search rules in
    let sum = rw (c.product_at-first.ensures.factor, c.product_at-first.ensures.term, c.product_at-second.ensures.factor, c.product_at-second.ensures.term, c.product_at-third.ensures.factor, c.product_at-third.ensures.term) at c.is_plane.ensures in
    rw (three_long c.args.factors.now (pos 0) factors, three_long c.args.terms.now (Num (pos 0)) terms) sum
