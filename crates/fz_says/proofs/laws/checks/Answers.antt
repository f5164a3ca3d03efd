use Rattle.fz_says.proofs.Checking.{checks}
use Rattle.fz_says.proofs.laws.checks.Goals as goal

pub returns : goal.returns
returns c = checks
