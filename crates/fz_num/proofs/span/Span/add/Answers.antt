use Rattle.std.proofs.Common.{rules}
use Rattle.fz_num.proofs.Hulls.{sum_hull}
use Rattle.fz_num.proofs.span.Span.add.Goals as goal

pub returns : goal.returns
returns c = sum_hull c.args.self c.args.other _ (search rules) (search rules)
