use Rattle.std.proofs.Common.{rules, arith}
use Rattle.std.proofs.lemmas.Int.{ints, clamps}
use Rattle.fz_num.proofs.Hulls.{around_hull}
use Rattle.fz_num.proofs.span.Span.around.Goals as goal

pub invariant_of-result : goal.invariant_of-result
invariant_of-result c = record { rising = omega (arith, ints, clamps) }

pub returns : goal.returns
returns c = around_hull c.args.a c.args.b c.args.c c.args.d _ (search rules) (search rules)
