use Rattle.fz_refutes.proofs.Lone.{some_is_open}
use Rattle.fz_refutes.proofs.laws.some_is_open.Goals as goal

pub returns : goal.returns
returns c = some_is_open
