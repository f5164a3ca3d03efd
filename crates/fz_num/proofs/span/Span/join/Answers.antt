use Rattle.std.proofs.Common.{rules}
use Rattle.fz_num.proofs.Hulls.{join_hull}
use Rattle.fz_num.proofs.span.Span.join.Goals as goal

pub returns : goal.returns
returns c = join_hull c.args.self c.args.other _ (search rules) (search rules)
