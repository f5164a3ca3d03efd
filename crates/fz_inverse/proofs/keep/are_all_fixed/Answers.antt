use Rattle.fz_sets.proofs.Lists.{all_right}
use Rattle.fz_inverse.proofs.keep.are_all_fixed.Goals as goal

pub are_fixed-requires-then-are_fixed : goal.are_fixed-requires-then-are_fixed
are_fixed-requires-then-are_fixed c = all_right _ c.args.firsts.now c.args.seconds.now c.requires
