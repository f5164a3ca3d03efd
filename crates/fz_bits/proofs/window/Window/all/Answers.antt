use Rattle.fz_bits.proofs.Windows.{all_in}
use Rattle.fz_bits.proofs.window.Window.all.Goals as goal

pub returns-clause-numbers : goal.returns-clause-numbers
returns-clause-numbers c = λ x. all_in c.args.base x c.run_of-bits.result c.run_of-bits.ensures
