use Rattle.fz_bits.proofs.Windows.{none_in}
use Rattle.fz_bits.proofs.window.Window.none.Goals as goal

pub returns-clause-numbers : goal.returns-clause-numbers
returns-clause-numbers c = λ x m. none_in c.args.base x m
