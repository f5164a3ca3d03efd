use Rattle.std.proofs.Common.{◌≡◌, ◌∙◌, rules}
use Rattle.std.specs.Prelude.{ℤ}
use Rattle.std.proofs.Math.Facts.{to_z-of_z}
use mir.Val.{SFits}
use mir.Syntax.{w32, w64}
use Rattle.fz_bits.specs.Windows.{IsBit}
use Rattle.fz_prop.proofs.Partnering.{bits_with}
use Rattle.fz_shift.specs.Planes.{number_on}
use Rattle.fz_shift.proofs.Thirds.{partner_bits}
use Rattle.fz_shift.proofs.matching.OnWindowPartners.among.Goals as goal

pub returns : goal.returns
returns c =
    let p = c.args.self.now.plane in
    let second = c.args.self.now.second in
    let S : ℤ → Type 0 = λ v. IsBit second.base second.bits v in
    let u = c.args.first in
    let start = c.args.seconds.base in
    let fits : SFits w32 start = search rules in
    let fits_base : SFits w32 second.base = search rules in
    let far : SFits w64 c.number_on-from.result = search rules in
    let near : SFits w64 c.from-base.result = search rules in
    let on : c.number_on-from.result ≡ number_on p u start = rw (to_z-of_z fits, to_z-of_z c.ranges.first) at c.number_on-from.ensures.on in
    let base : c.from-base.result ≡ second.base = c.from-base.ensures ∙ to_z-of_z fits_base in
    bits_with start c.rebased.result c.args.seconds.bits c.common.result (λ w. S (number_on p u w))
    (partner_bits p u start c.number_on-from.result S c.rebased.result on (rw (to_z-of_z far, to_z-of_z near, base) at c.rebased.ensures)) c.common.ensures
