use Rattle.fz_path.proofs.Commits.{steps_below}
use Rattle.fz_path.proofs.laws.steps_stay_below.Goals as goal

pub returns : goal.returns
returns c = steps_below
