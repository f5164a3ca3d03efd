use Rattle.fz_gen.proofs.Law as law
use Rattle.fz_gen.proofs.laws.each_is_accepted.Goals as goal

pub returns : goal.returns
returns c = law.each_is_accepted
