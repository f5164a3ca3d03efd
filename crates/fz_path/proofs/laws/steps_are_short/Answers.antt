use Rattle.fz_path.proofs.Commits.{steps_short}
use Rattle.fz_path.proofs.laws.steps_are_short.Goals as goal

pub returns : goal.returns
returns c = steps_short
