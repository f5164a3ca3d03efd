use Rattle.std.proofs.Common.{rules}
use Rattle.fz_num.proofs.Hulls.{difference_hull}
use Rattle.fz_num.proofs.span.Span.sub.Goals as goal

pub returns : goal.returns
returns c = difference_hull c.args.self c.args.other _ (search rules) (search rules)
