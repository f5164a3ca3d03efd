use Rattle.std.proofs.Common.{arith}
use Rattle.std.proofs.lemmas.Int.{ints}
use Rattle.fz_disjunctive.proofs.tasks.double.Goals as goal

pub returns : goal.returns
returns c = omega (arith, ints)
