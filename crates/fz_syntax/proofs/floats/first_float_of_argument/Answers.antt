use Rattle.std.proofs.Common.{ap, sym}
use Rattle.std.specs.Prelude.{slice_get}
use Rattle.fz_syntax.proofs.Integers.{no_floats}
use Rattle.fz_syntax.proofs.floats.first_float_of_argument.Goals as goal

pub returns-in-Integers : goal.returns-in-Integers
returns-in-Integers c = rw c.in-Integers.is (ap (λ ps. slice_get ps 0) (sym (no_floats c.in-Integers.integers.items)))
