use Rattle.fz_part.proofs.Meeting.{with_part_in}
use Rattle.fz_part.proofs.laws.with_part_is_in_part.Goals as goal

pub returns : goal.returns
returns c = with_part_in
