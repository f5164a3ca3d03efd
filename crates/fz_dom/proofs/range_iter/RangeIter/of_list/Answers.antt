use Rattle.std.proofs.Common.{pos, refl}
use Rattle.fz_dom.proofs.Left.{no_bits}
use Rattle.fz_dom.proofs.range_iter.RangeIter.of_list.Goals as goal

pub returns : goal.returns
returns c = rw (no_bits (pos 0) 0 refl) refl
