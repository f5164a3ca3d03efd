use Rattle.std.proofs.Common.{◌∙◌}
use Rattle.fz_check.proofs.Beginnings.{ends}
use Rattle.fz_check.proofs.rows.ends_with.Goals as goal

pub returns : goal.returns
returns c = c.ends_with.ensures.value ∙ ends c.args.name.now c.args.suffix.now
