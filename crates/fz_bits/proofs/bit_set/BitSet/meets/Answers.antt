use Rattle.std.proofs.Common.{◌≡◌, ◌∙◌, ◌<◌, ℕ, length, get_or, subst}
use Rattle.std.proofs.lemmas.List.{get_or_default}
use Rattle.fz_bits.specs.Words.{HasBit, AreOnes}
use Rattle.fz_bits.proofs.Members.{meets_tells}
use Rattle.fz_bits.proofs.bit_set.BitSet.meets.Goals as goal

pub returns : goal.returns
returns c =
    let words = c.self.inside.words.items in
    let place = c.args.chunk.word in
    let inside : place < length words = rw (← c.self.view_is) at c.requires in
    let is : c.index.result.now ≡ get_or words place 0 = c.index.ensures ∙ get_or_default words place c.index.result.now 0 inside in
    rw (← c.self.view_is) (meets_tells words c.args.chunk c.common.result
    (subst (λ (w : ℕ). AreOnes c.common.result (λ k. HasBit w k × HasBit c.args.chunk.bits k)) is c.common.ensures) c.common.type_inv)
