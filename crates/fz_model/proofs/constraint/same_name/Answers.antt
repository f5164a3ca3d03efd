use Rattle.std.proofs.Common.{sym, ◌∙◌}
use Rattle.fz_model.proofs.Names.{equal_names}
use Rattle.fz_model.proofs.constraint.same_name.Goals as goal

pub returns : goal.returns
returns c = let d = equal_names c.args.this c.args.that in (λ t. d.0 (sym c.eq.ensures ∙ t), λ e. c.eq.ensures ∙ d.1 e)
