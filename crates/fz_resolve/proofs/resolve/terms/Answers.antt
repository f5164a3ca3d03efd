use Rattle.fz_resolve.specs.Meant.{environment_of}
use Rattle.fz_syntax.proofs.Integers.{whatever}
use Rattle.fz_resolve.proofs.resolve.terms.Goals as goal

pub returns-in-Integers : goal.returns-in-Integers
returns-in-Integers c = rw c.in-Integers.is (whatever _ c.terms_of_integers.result (rw c.deref.ensures.value at c.terms_of_integers.ensures) (environment_of c.args.names.now))
