use Rattle.std.proofs.Common.{subst, ℕ}
use Rattle.fzjoin.specs.Steps.{HasReadyCause}
use Rattle.fzjoin.proofs.prepare.prepare_model.Goals as goal

pub returns-in-Ok-clause-cause : goal.returns-in-Ok-clause-cause
returns-in-Ok-clause-cause g c =
    let after = g.R.Source.faults c.read_text.new.source in
    subst (λ (before : ℕ). HasReadyCause before after c.begin.result) c.in-Ok.ensures.cause (c.begin.ensures.cause after)
