use Rattle.fz_branch.proofs.Keeping.{all_keep}
use Rattle.fz_branch.proofs.laws.all_keep_values.Goals as goal

pub returns : goal.returns
returns c = all_keep
