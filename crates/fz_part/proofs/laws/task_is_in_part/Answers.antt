use Rattle.fz_part.proofs.Tasks.{task_in}
use Rattle.fz_part.proofs.laws.task_is_in_part.Goals as goal

pub returns : goal.returns
returns c = task_in
