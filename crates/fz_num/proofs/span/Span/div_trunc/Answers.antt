use Rattle.std.proofs.Common.{rules}
use Rattle.fz_num.proofs.Hulls.{above_part, below_part, both_parts}
use Rattle.fz_num.proofs.span.Span.div_trunc.Goals as goal

pub returns-in-None-Some-clause-hull : goal.returns-in-None-Some-clause-hull
returns-in-None-Some-clause-hull c = above_part c.args.self c.args.divisor c.in-None-Some.above _ (c.below_zero.ensures.none.0 (search rules)) (search rules) c.quotients.ensures

pub returns-in-Some-None-clause-hull : goal.returns-in-Some-None-clause-hull
returns-in-Some-None-clause-hull c = below_part c.args.self c.args.divisor c.in-Some-None.below _ (c.above_zero.ensures.none.0 (search rules)) (search rules) c.quotients-in-Some-None.ensures

pub returns-in-Some-Some-clause-hull : goal.returns-in-Some-Some-clause-hull
returns-in-Some-Some-clause-hull c =
    both_parts c.args.self c.args.divisor c.in-Some-Some.below c.in-Some-Some.above _ _ _ (search rules) (search rules) c.quotients-in-Some-Some.ensures c.quotients-in-Some-Some-2.ensures c.join.ensures
