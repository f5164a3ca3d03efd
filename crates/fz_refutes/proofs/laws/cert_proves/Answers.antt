use Rattle.fz_refutes.proofs.One.{cert_proves}
use Rattle.fz_refutes.proofs.laws.cert_proves.Goals as goal

pub returns : goal.returns
returns c = cert_proves
