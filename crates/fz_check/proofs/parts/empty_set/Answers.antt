use Rattle.std.specs.Prelude.{[]}
use Rattle.fz_check.proofs.parts.empty_set.Goals as goal

pub returns : goal.returns
returns c = c.in_ok-set.ensures.unique [] tt (λ x. (λ h. h, λ h. h))
