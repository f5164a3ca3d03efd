use Rattle.fz_refutes.proofs.Soundness.{proving_shows}
use Rattle.fz_refutes.proofs.laws.proving_shows.Goals as goal

pub returns : goal.returns
returns c = proving_shows
