use Rattle.std.proofs.Common.{rules}
use Rattle.std.proofs.Math.Facts.{to_z-of_z}
use mir.Val.{SFits}
use mir.Syntax.{w32}
use Rattle.fz_bits.proofs.Windows.{none_in}
use Rattle.fz_prop.proofs.Partnering.{bits_with}
use Rattle.fz_element.specs.Matching.{IsLeftAt}
use Rattle.fz_element.proofs.Matching.{left_ones}
use Rattle.fz_element.proofs.near_matches.TermsPartners.among.Goals as goal

pub returns-in_default : goal.returns-in_default
returns-in_default c = λ m. (
  (λ bit. absurd (none_in c.args.seconds.base m bit)),
  (λ h. absurd ((rw (to_z-of_z c.ranges.first) at c.in_default.ensures) h.0.0 h.0.1)),
)

pub returns : goal.returns
returns c =
    let xs = c.args.self.now.terms.now in
    let ds = c.args.self.now.store.now.doms in
    let base = c.args.seconds.base in
    let fits_base : SFits w32 base = search rules in
    bits_with base c.word_of.result c.args.seconds.bits c.common.result (IsLeftAt xs ds c.args.first)
    (left_ones xs c.in-Some.term ds c.args.first base c.word_of.result (rw (to_z-of_z c.ranges.first) at c.in-Some.ensures) (rw (to_z-of_z fits_base) at c.word_of.ensures)) c.common.ensures
