use Rattle.std.specs.Prelude.{ℤ, ◌↔◌}
use Rattle.std.proofs.Math.Facts.{to_z-of_z}
use Rattle.fz_bits.specs.Windows.{IsBit}
use Rattle.fz_prop.proofs.Partnering.{both_bits}
use Rattle.fz_table.specs.Partners.{ArePartners}
use Rattle.fz_table.proofs.matching.PairsPartners.among.Goals as goal

pub returns : goal.returns
returns c =
    let pairs = c.args.self.now in
    let partners : (m : ℤ) → IsBit pairs.base c.partners_of.result m ↔ ArePartners pairs c.args.first m = rw (to_z-of_z c.ranges.first) at c.partners_of.ensures in
    rw c.requires (λ m.
    let both = both_bits pairs.base c.partners_of.result c.args.seconds.bits c.common.result c.common.ensures m in
    ((λ is. ((partners m).0 (both.0 is).0, (both.0 is).1)), (λ h. both.1 ((partners m).1 h.0, h.1))))
