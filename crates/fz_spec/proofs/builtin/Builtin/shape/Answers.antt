use Rattle.std.proofs.Common.{◌∙◌}
use Rattle.fz_spec.proofs.Rows.{at_place}
use Rattle.fz_spec.proofs.builtin.Builtin.shape.Goals as goal

pub returns : goal.returns
returns c = c.shape_at.ensures ∙ at_place c.args.self
