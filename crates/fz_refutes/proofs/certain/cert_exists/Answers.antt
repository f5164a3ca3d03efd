use Rattle.fz_refutes.proofs.Growing.{cert_exists}
use Rattle.fz_refutes.proofs.certain.cert_exists.Goals as goal

pub returns : goal.returns
returns c = cert_exists
