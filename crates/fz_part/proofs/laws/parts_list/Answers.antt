use Rattle.fz_part.proofs.Listing.{parts_list}
use Rattle.fz_part.proofs.laws.parts_list.Goals as goal

pub returns : goal.returns
returns c = parts_list
