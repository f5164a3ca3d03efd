use Rattle.std.proofs.Common.{ap}
use Rattle.std.specs.Prelude.{is_some}
use Rattle.fz_trail.specs.Places.{depths_of}
use Rattle.fz_path.proofs.path.Path.idle_by.Goals as goal

pub returns-in-Ok-clause-spaces : goal.returns-in-Ok-clause-spaces
returns-in-Ok-clause-spaces g c = record {
  kept = ap depths_of c.in-Ok.ensures.begun.0;
  at_hand = ap is_some c.in-Ok.ensures.begun.1;
  thinned = c.in-Ok.ensures.begun.2;
  longest = c.in-Ok.ensures.begun.3;
}
