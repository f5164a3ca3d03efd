use Rattle.std.proofs.Common.{rules, ◌≡◌, ◌≢◌, ◌∙◌, sym, tests}
use Rattle.std.proofs.lemmas.Iterator.{IsFirst-from_position, YieldsList-from_slice}
use Rattle.fz_join.proofs.Wording.{split_word, word_length, word_short}
use Rattle.fz_join.proofs.words.split_word.Goals as goal

pub split_at-requires : goal.split_at-requires
split_at-requires c =
    let first = IsFirst-from_position _ _ _ (λ b. b ≡ 32) (λ b. b ≢ 32) c.position-space.ensures.ran (YieldsList-from_slice c.args.text.now cc) (λ x q k. search (rules, tests)) (λ x q k. search (rules, tests)) in
    rw (c.unwrap_or.ensures ∙ sym (word_length c.args.text.now c.position-space.result first)) (word_short c.args.text.now)

pub returns : goal.returns
returns c =
    let first = IsFirst-from_position _ _ _ (λ b. b ≡ 32) (λ b. b ≢ 32) c.position-space.ensures.ran (YieldsList-from_slice c.args.text.now cc) (λ x q k. search (rules, tests)) (λ x q k. search (rules, tests)) in
    split_word c.args.text.now c.split_at.result.0.now c.split_at.result.1.now c.unwrap_or.result (c.unwrap_or.ensures ∙ sym (word_length c.args.text.now c.position-space.result first)) c.split_at.ensures.front c.split_at.ensures.back
