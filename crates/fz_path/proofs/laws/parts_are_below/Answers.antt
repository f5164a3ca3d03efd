use Rattle.fz_path.proofs.Commits.{parts_below}
use Rattle.fz_path.proofs.laws.parts_are_below.Goals as goal

pub returns : goal.returns
returns c = parts_below
