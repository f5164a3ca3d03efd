use Rattle.std.proofs.Common.{◌∙◌}
use Rattle.fz_tree.proofs.Times.{in_once}
use Rattle.fz_tree.proofs.laws.account_is_exact.Goals as goal

pub returns : goal.returns
returns c = λ a s law about satisfies better. law.sums about s satisfies better ∙ in_once a.before s law.edges.0
