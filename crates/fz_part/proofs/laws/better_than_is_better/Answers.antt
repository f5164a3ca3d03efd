use Rattle.fz_part.proofs.Tasks.{better_than_is}
use Rattle.fz_part.proofs.laws.better_than_is_better.Goals as goal

pub returns : goal.returns
returns c = better_than_is
