use Rattle.fz_resolve.specs.Meant.{environment_of}
use Rattle.fz_check.proofs.entered.set_list.Goals as goal

pub returns-in-Integers : goal.returns-in-Integers
returns-in-Integers c = rw c.in-Integers.is (rw c.deref.ensures.value at (c.sets_of_integers.ensures (environment_of c.args.names.now)))
