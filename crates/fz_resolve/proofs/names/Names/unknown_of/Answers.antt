use Rattle.std.proofs.Common.{ap, sym}
use Rattle.std.specs.Prelude.{slice_get}
use Rattle.fz_resolve.specs.Meant.{environment_of}
use Rattle.fz_syntax.proofs.Integers.{all_known}
use Rattle.fz_resolve.proofs.names.Names.unknown_of.Goals as goal

pub returns-in-Integers : goal.returns-in-Integers
returns-in-Integers c = rw c.in-Integers.is (ap (λ ps. slice_get ps 0) (sym (all_known (environment_of c.args.self.now) c.in-Integers.integers.items)))
