use Rattle.std.proofs.Math.Facts.{to_z-of_z}
use Rattle.fz_cert.proofs.Parts.{low_kept, low_wiped}
use Rattle.fz_cert.proofs.half.low_part.Goals as goal

pub returns-in_ok-empty-in-Wiped-clause-part : goal.returns-in_ok-empty-in-Wiped-clause-part
returns-in_ok-empty-in-Wiped-clause-part c =
    low_wiped c.keep_to.result c.args.number _ c.in_ok-part.part c.args.set.now c.keep_to.new.self c.in_ok-empty-in-Wiped.empty (to_z-of_z c.ranges.number) c.in_ok-part.ensures.same c.copy.ensures.domain.0
    c.in_ok-empty-in-Wiped.ensures.domain.0 c.in_ok-empty-in-Wiped.ensures.one_set c.keep_to.ensures.change c.in-Wiped.is

pub returns-in-Same : goal.returns-in-Same
returns-in-Same c = record {
  part = low_kept c.keep_to.result c.args.number _ c.in_ok-part.part c.args.set.now c.keep_to.new.self (to_z-of_z c.ranges.number) c.in_ok-part.ensures.same c.copy.ensures.domain.0
      c.keep_to.ensures.domain.0 c.keep_to.ensures.change c.in-Same.is;
  domain = c.copy.ensures.domain;
}
