use Rattle.std.proofs.Common.{◌≡◌, ◌∙◌, ◌<◌, ◌⊎◌, ℕ, length, get_or, subst, refl, rules}
use Rattle.std.specs.Prelude.{◌+ℤ◌, pos}
use Rattle.std.proofs.lemmas.List.{get_or_default}
use Rattle.fz_bits.specs.Words.{HasBit, AreOnes}
use Rattle.std.specs.Vec.{with_item}
use Rattle.fz_table.specs.declared.pairs.Pairs.{Pairs}
use Rattle.fz_table.proofs.PairWords.{partners_more}
use Rattle.fz_table.proofs.pairs.add.Goals as goal

pub returns-clause-added : goal.returns-clause-added
returns-clause-added c = λ e.
    let old = c.args.pairs.now in
    let words = old.words.items in
    let place = c.in-Some.place in
    let bit = c.in-Some-place_of.bit in
    let inside : place < length words = search rules in
    let small : place < 64 = search rules in
    let small_bit : bit < 64 = search rules in
    let is_x : c.args.first ≡ old.first +ℤ pos place = search rules in
    let is_y : c.args.second ≡ old.base +ℤ pos bit = search rules in
    let is : c.index.result.now ≡ get_or words place 0 = c.index.ensures ∙ get_or_default words place c.index.result.now 0 inside in
    let new : Pairs = record { first = old.first; base = old.base; words = with_item old.words place c.with_bit.result } in
    partners_more old new place bit c.with_bit.result c.args.first c.args.second small inside is_x small_bit is_y
    (subst (λ (w : ℕ). AreOnes c.with_bit.result (λ k. HasBit w k ⊎ (k ≡ bit))) is c.with_bit.ensures) refl refl refl
