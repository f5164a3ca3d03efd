use Rattle.fz_refutes.proofs.Making.{trees_certify}
use Rattle.fz_refutes.proofs.laws.trees_certify.Goals as goal

pub returns : goal.returns
returns c = trees_certify
