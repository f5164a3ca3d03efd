use Rattle.fz_resolve.specs.Meant.{environment_of}
use Rattle.fz_syntax.proofs.Integers.{whatever}
use Rattle.fz_resolve.proofs.resolve.resolve.Goals as goal

pub returns-in-List-Integers : goal.returns-in-List-Integers
returns-in-List-Integers c = rw (c.in-List-Integers.is-0, c.in-List-Integers.is-1) (whatever _ c.integer_list.result (rw c.deref.ensures.value at c.integer_list.ensures) (environment_of c.args.names.now))
