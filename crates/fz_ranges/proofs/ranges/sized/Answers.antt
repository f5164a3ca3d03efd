use Rattle.fz_ranges.proofs.ranges.sized.Goals as goal

pub returns : goal.returns
returns c = λ u is size. c.met.ensures u is (c.with_sizes.ensures u is size)
