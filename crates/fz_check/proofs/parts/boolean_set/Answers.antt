use Rattle.std.proofs.Common.{refl}
use Rattle.std.specs.Prelude.{pos}
use Rattle.fz_check.proofs.parts.boolean_set.Goals as goal

pub returns : goal.returns
returns c = c.in_ok-set.ensures.one_range (pos 0) (pos 1) refl
