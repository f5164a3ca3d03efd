use Rattle.std.proofs.Common.{refl}
use Rattle.fz_sets.specs.Sets.{LEAST, GREATEST}
use Rattle.fz_check.proofs.parts.integer_set.Goals as goal

pub returns : goal.returns
returns c = c.in_ok-set.ensures.one_range LEAST GREATEST refl
