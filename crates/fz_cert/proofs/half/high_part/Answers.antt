use Rattle.std.proofs.Math.Facts.{to_z-of_z}
use Rattle.fz_cert.proofs.Parts.{high_kept, high_wiped}
use Rattle.fz_cert.proofs.half.high_part.Goals as goal

pub returns-in_ok-empty-in-Wiped-clause-part : goal.returns-in_ok-empty-in-Wiped-clause-part
returns-in_ok-empty-in-Wiped-clause-part c =
    high_wiped c.keep_above.result c.args.number _ c.in_ok-part.part c.args.set.now c.keep_above.new.set c.in_ok-empty-in-Wiped.empty (to_z-of_z c.ranges.number) c.in_ok-part.ensures.same c.copy.ensures.domain.0
    c.in_ok-empty-in-Wiped.ensures.domain.0 c.in_ok-empty-in-Wiped.ensures.one_set c.keep_above.ensures.change c.in-Wiped.is

pub returns-in-Same : goal.returns-in-Same
returns-in-Same c = record {
  part = high_kept c.keep_above.result c.args.number _ c.in_ok-part.part c.args.set.now c.keep_above.new.set (to_z-of_z c.ranges.number) c.in_ok-part.ensures.same c.copy.ensures.domain.0
      c.keep_above.ensures.domain.0 c.keep_above.ensures.change c.in-Same.is;
  domain = c.copy.ensures.domain;
}
