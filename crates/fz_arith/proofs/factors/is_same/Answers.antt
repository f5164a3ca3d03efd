use Rattle.std.proofs.Common.{sym, ◌∙◌}
use Rattle.fz_arith.proofs.Same.{equal_terms}
use Rattle.fz_arith.proofs.factors.is_same.Goals as goal

pub returns : goal.returns
returns c = let d = equal_terms c.args.x c.args.y in (λ t. d.0 (sym c.eq.ensures ∙ t), λ e. c.eq.ensures ∙ d.1 e)
