use Rattle.std.proofs.Common.{arith}
use Rattle.std.proofs.lemmas.Int.{ints}
use Rattle.fz_bits.proofs.Windows.{bit_in, none_below}
use Rattle.fz_bits.proofs.window.Window.first.Goals as goal

pub returns-clause-number : goal.returns-clause-number
returns-clause-number c =
    let below = c.lowest_bit-place.ensures.place in
    let high = c.requires.ceiling in
    (bit_in c.args.self.base _ c.args.self.bits c.lowest_bit-place.result (omega (arith, ints)) below).0 c.lowest_bit-place.ensures.bit

pub returns-clause-least : goal.returns-clause-least
returns-clause-least c = λ x m.
    let below = c.lowest_bit-place.ensures.place in
    let high = c.requires.ceiling in
    none_below c.args.self.base x _ c.args.self.bits c.lowest_bit-place.result (omega (arith, ints)) c.lowest_bit-place.ensures.none_before m
