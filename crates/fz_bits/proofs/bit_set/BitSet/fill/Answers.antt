use Rattle.std.proofs.Common.{◌≡◌, ◌∙◌, ◌/◌, ◌-◌, ◌^◌, ap, suc, replicate, length, rules}
use Rattle.std.specs.Vec.{vec_len}
use Rattle.fz_bits.proofs.Members.{all_members}
use Rattle.fz_bits.proofs.bit_set.BitSet.fill.Goals as goal

pub returns-clause-members : goal.returns-clause-members
returns-clause-members c =
    let words = c.self.inside.words in
    let long : vec_len words ≡ length words.items = search rules in
    let size : length words.items ≡ suc (c.args.size / 64) = rw (← c.self.view_is) at c.requires in
    let full = c.fill.ensures.items (λ y e. e) ∙ ap (λ n. replicate n (2 ^ 64 - 1)) (long ∙ size) in
    rw full (all_members c.args.size)
