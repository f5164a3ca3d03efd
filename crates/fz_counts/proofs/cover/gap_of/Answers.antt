use Rattle.std.proofs.Common.{arith, rules, SFits, w32}
use Rattle.std.proofs.lemmas.Int.{ints}
use Rattle.std.proofs.Math.Facts.{to_z-of_z}
use Rattle.fz_bits.proofs.Windows.{within_window}
use Rattle.fz_counts.proofs.Gaps.{rest_in}
use Rattle.fz_counts.proofs.cover.gap_of.Goals as goal

pub returns : goal.returns
returns c = λ x from below.
    let base = c.args.window.base in
    let first = c.first.result in
    let rest = c.without.result in
    let base_fits : SFits w32 base = search rules in
    let first_fits : SFits w32 first = search rules in
    let under = rw (to_z-of_z first_fits) at below in
    let alls = rw (to_z-of_z base_fits) at c.all-all.ensures.numbers in
    let number = rw (to_z-of_z base_fits) at c.first.ensures.number in
    let least = rw (to_z-of_z base_fits) at c.first.ensures.least in
    let to = (within_window base first rest number).1 in
    rest_in base c.args.window.bits c.all-all.result.bits rest alls c.without.ensures x from (omega (arith, ints, under, to)) (λ is. (let l = least x is in absurd (omega (arith, ints, l, under))))
