use Rattle.std.proofs.Common.{arith}
use Rattle.std.proofs.lemmas.Int.{ints}
use Rattle.fz_linear.proofs.apart.without.Goals as goal

pub returns-clause-rest : goal.returns-clause-rest
returns-clause-rest c = omega (arith, ints, c.requires, c.from.ensures, c.from-2.ensures)
