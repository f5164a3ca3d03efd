use Rattle.fz_path.proofs.Commits.{steps_below_short}
use Rattle.fz_path.proofs.laws.steps_below_are_short.Goals as goal

pub returns : goal.returns
returns c = steps_below_short
