use Rattle.std.proofs.Common.{◌/◌, inl, inr}
use Rattle.fz_bits.proofs.Members.{none_of}
use Rattle.fz_bits.proofs.chunk.Chunk.one.Goals as goal

pub returns-clause-numbers : goal.returns-clause-numbers
returns-clause-numbers c = λ i.
    let more = c.with.ensures.numbers i in
    (λ h. elim (more.0 h) [ inl none ↦ absurd (none_of (c.args.number / 64) i none) | inr same ↦ same ], λ same. more.1 (inr same))
