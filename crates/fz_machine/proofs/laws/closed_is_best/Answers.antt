use Rattle.fz_machine.proofs.Assets.{reached_law, core_of, best_where_closed}
use Rattle.fz_machine.proofs.laws.closed_is_best.Goals as goal

pub returns : goal.returns
returns c = λ p k s reaches at. best_where_closed s (core_of p k s (reached_law p reaches) at).law
