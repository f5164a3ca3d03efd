use Rattle.std.proofs.Common.{◌<◌, ◌^◌, refl, rules, get_or}
use Rattle.fz_bits.proofs.Members.{some_in}
use Rattle.fz_bits.proofs.bit_set.BitSet.is_empty.Goals as goal

pub returns-then-word-ne0-clause-some : goal.returns-then-word-ne0-clause-some
returns-then-word-ne0-clause-some c = λ e.
    let k = c.loop-word.word-index in
    let word = get_or c.deref-word-items.result.now k 0 in
    let fits : word < 2 ^ 64 = search rules in
    rw (← c.self.view_is, ← c.deref-word-items.ensures.value) (some_in c.deref-word-items.result.now k word refl c.if-word-ne0.true fits)
