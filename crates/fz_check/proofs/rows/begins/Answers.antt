use Rattle.std.proofs.Common.{◌∙◌}
use Rattle.fz_check.proofs.Beginnings.{starts}
use Rattle.fz_check.proofs.rows.begins.Goals as goal

pub returns : goal.returns
returns c = c.starts_with.ensures.value ∙ starts c.args.name.now c.args.prefix.now
