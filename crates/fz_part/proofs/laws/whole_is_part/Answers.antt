use Rattle.std.proofs.Common.{refl}
use Rattle.fz_part.proofs.laws.whole_is_part.Goals as goal

pub returns : goal.returns
returns c = λ m a satisfies. refl
