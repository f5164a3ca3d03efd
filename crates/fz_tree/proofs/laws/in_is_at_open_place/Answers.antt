use Rattle.fz_tree.proofs.Places.{in_is_at_place}
use Rattle.fz_tree.proofs.laws.in_is_at_open_place.Goals as goal

pub returns : goal.returns
returns c = in_is_at_place
