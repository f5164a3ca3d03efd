use Rattle.fz_refutes.proofs.One.{cert_is_one}
use Rattle.fz_refutes.proofs.laws.cert_is_one.Goals as goal

pub returns : goal.returns
returns c = cert_is_one
