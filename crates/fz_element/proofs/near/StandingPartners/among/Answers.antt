use Rattle.std.proofs.Common.{subst, rules}
use Rattle.std.specs.Prelude.{ℤ}
use Rattle.std.proofs.Math.Facts.{to_z-of_z}
use mir.Val.{SFits}
use mir.Syntax.{w32}
use Rattle.fz_bits.specs.Windows.{IsBit}
use Rattle.fz_bits.proofs.Windows.{none_in, within_window}
use Rattle.fz_element.proofs.Pairing.{element_only, one_number}
use Rattle.fz_element.proofs.near.StandingPartners.among.Goals as goal

pub returns-in_default : goal.returns-in_default
returns-in_default c = λ m. (
  (λ bit. absurd (none_in c.args.seconds.base m bit)),
  (λ h. absurd ((rw (to_z-of_z c.ranges.first) at c.in_default.ensures) m h.0)),
)

pub returns-then-not-has : goal.returns-then-not-has
returns-then-not-has c =
    let number = c.in-Some.number in
    let fits : SFits w32 number = search rules in
    let stands = rw (to_z-of_z c.ranges.first) at c.in-Some.ensures in
    let has = rw (to_z-of_z fits) at c.has.ensures in
    λ m. (
      (λ bit. absurd (none_in c.args.seconds.base m bit)),
      (λ h.
          let yes = has.1 (subst (λ (n : ℤ). IsBit c.args.seconds.base c.args.seconds.bits n) (element_only c.args.first c.args.self.now.numbers.now m number h.0 stands) h.1) in
          let no = c.if-not-has.true in
          absurd (cc (yes, no))),
    )

pub with-requires-clause-low : goal.with-requires-clause-low
with-requires-clause-low c =
    let number = c.in-Some.number in
    let fits : SFits w32 number = search rules in
    let fits_base : SFits w32 c.args.seconds.base = search rules in
    let has = rw (to_z-of_z fits) at c.has.ensures in
    rw (c.none.ensures.base, to_z-of_z fits_base, to_z-of_z fits) (within_window c.args.seconds.base number c.args.seconds.bits (has.0 c.if-not-has.false)).0

pub with-requires-clause-high : goal.with-requires-clause-high
with-requires-clause-high c =
    let number = c.in-Some.number in
    let fits : SFits w32 number = search rules in
    let fits_base : SFits w32 c.args.seconds.base = search rules in
    let has = rw (to_z-of_z fits) at c.has.ensures in
    rw (c.none.ensures.base, to_z-of_z fits_base, to_z-of_z fits) (within_window c.args.seconds.base number c.args.seconds.bits (has.0 c.if-not-has.false)).1

pub returns : goal.returns
returns c =
    let number = c.in-Some.number in
    let base = c.args.seconds.base in
    let fits : SFits w32 number = search rules in
    let fits_base : SFits w32 base = search rules in
    let has = rw (to_z-of_z fits) at c.has.ensures in
    one_number c.args.self.now.numbers.now c.args.first number base c.args.seconds.bits c.none.result.bits c.with.result.bits
    (rw (to_z-of_z c.ranges.first) at c.in-Some.ensures) (has.0 c.if-not-has.false) (rw (to_z-of_z fits_base) at c.none.ensures.numbers)
    (rw (c.none.ensures.base, to_z-of_z fits_base, to_z-of_z fits) at c.with.ensures.numbers)
