use Rattle.std.proofs.Common.{ap, Some, None, ◌∷◌, []}
use Rattle.std.specs.Prelude.{slice_get}
use Rattle.fz_resolve.proofs.annotations.output_var_at.Goals as goal

pub returns-in-Some : goal.returns-in-Some
returns-in-Some c = ap (λ o. slice_get (elim o [ Some a ↦ a.name.at ∷ [] | None ↦ [] ]) 0) c.in-Some.ensures

pub returns-in-None : goal.returns-in-None
returns-in-None c = ap (λ o. slice_get (elim o [ Some a ↦ a.name.at ∷ [] | None ↦ [] ]) 0) c.in-None.ensures
