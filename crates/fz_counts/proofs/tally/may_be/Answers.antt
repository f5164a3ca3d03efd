use Rattle.std.proofs.Math.Facts.{to_z-of_z}
use Rattle.fz_counts.proofs.Counting.{test_of}
use Rattle.fz_counts.proofs.tally.may_be.Goals as goal

pub returns : goal.returns
returns c = test_of c.has.result c.args.store.now.doms c.args.value c.args.term (rw (to_z-of_z c.ranges.value) at c.has.ensures)
