use Rattle.std.proofs.Common.{refl, sym, ◌∙◌}
use Rattle.fzjoin.proofs.Outcomes.{broken, nothing, since}
use Rattle.fzjoin.specs.declared.status.JoinStatus.TheVariants.{SourceFault}
use Rattle.fzjoin.proofs.texts.join_texts.Goals as goal

pub returns-in-Ok : goal.returns-in-Ok
returns-in-Ok g c = λ all f ready texts.
    since _ all f _ _ _ _ _ _ _ _ c.in-Ok.ensures.cause (c.join_selected.ensures all f ready (texts ∙ sym c.in-Ok.ensures.left))

pub returns-in-Err : goal.returns-in-Err
returns-in-Err g c = λ all f ready texts. broken SourceFault all f _ _ _ _ _ _ _ (nothing _ _ refl) (c.in-Err.ensures.cause, refl)
