-- What stands after a prefix, before a space, and what number a word is.
use Rattle.std.proofs.Common.{◌≡◌, ◌≢◌, ◌∙◌, ℕ, ◌<◌, ◌≤◌, Bool, true, false, List, [], ◌∷◌, ◌++◌, refl, sym, ap, arith, length, take, drop, Some, None, option_map, inl, inr}
use Rattle.std.specs.Prelude.{Option, MatchOption, unwrap_or, nat_eq, if◌then◌else◌}
use Rattle.std.specs.List.{AllWithin, HoldsAt}
use Rattle.std.proofs.lemmas.Iterator.{index_from_first}
use Rattle.std.proofs.lemmas.Bool.{cond-true, cond-false, eq-eqb, cases_eq, ne_eqb}
use denote.Ref.{Bor}
use Rattle.fz_join.specs.Machine.{after, word_of}
use Rattle.fz_join.proofs.LineWords.{after_front}

-- ---- a prefix

-- no text with the prefix
pub after_none : (prefix text : List ℕ) → ((rest : List ℕ) → text ≢ prefix ++ rest) → after prefix text ≡ None
after_none [] text none = absurd (none text refl)
after_none (b ∷ bs) [] none = refl
after_none (b ∷ bs) (t ∷ ts) none = elim (cases_eq b t) [
  | inl same ↦ cond-true (nat_eq b t) (after bs ts) None (eq-eqb b t same) ∙ after_none bs ts (λ rest is. none rest (search (same, is)))
  | inr other ↦ cond-false (nat_eq b t) (after bs ts) None (ne_eqb b t other)
]

pub stripped : (prefix text : List ℕ) (r : Option (Bor (List ℕ))) → MatchOption r ((rest : List ℕ) → text ≢ prefix ++ rest) (λ rest. text ≡ prefix ++ rest.now) → option_map (λ rest. rest.now) r ≡ after prefix text
stripped prefix text None none = sym (after_none prefix text none)
stripped prefix text (Some rest) is = sym (ap (after prefix) is ∙ after_front prefix rest.now)

-- ---- a word

-- by whether the next byte is a space
abbrev word_next : Bool → ℕ → List ℕ → List ℕ × List ℕ
word_next space b bs = if space then ([], b ∷ bs) else (b ∷ (word_of bs).0, (word_of bs).1)

-- a word is so many bytes of the text, and the rest is what is left
pub word_parts : (text : List ℕ) → (take (length (word_of text).0) text, drop (length (word_of text).0) text) ≡ word_of text
word_parts [] = refl
word_parts (b ∷ bs) = either (nat_eq b 32) (word_parts bs)
  where
    either : (space : Bool) → (take (length (word_of bs).0) bs, drop (length (word_of bs).0) bs) ≡ word_of bs
        → (take (length (word_next space b bs).0) (b ∷ bs), drop (length (word_next space b bs).0) (b ∷ bs)) ≡ word_next space b bs
    either true is = refl
    either false is = ap (λ (p : List ℕ × List ℕ). (b ∷ p.0, p.1)) is

pub word_short : (text : List ℕ) → length (word_of text).0 ≤ length text
word_short [] = omega arith
word_short (b ∷ bs) = either (nat_eq b 32) (word_short bs)
  where
    either : (space : Bool) → length (word_of bs).0 ≤ length bs → length (word_next space b bs).0 ≤ length (b ∷ bs)
    either true short = omega arith
    either false short = omega (arith, short)

pub split_word : (text front back : List ℕ) (n : ℕ) → n ≡ length (word_of text).0 → front ≡ take n text → back ≡ drop n text → (front, back) ≡ word_of text
split_word text front back n is first second = (rw first (rw second (rw is refl))) ∙ word_parts text

-- the place of the first space is how long the word is
pub word_length : (text : List ℕ) (space : Option ℕ) → MatchOption space (AllWithin (λ b. b ≢ 32) text 0 (length text)) (λ i. (i < length text) × HoldsAt (λ b. b ≡ 32) text i × AllWithin (λ b. b ≢ 32) text 0 i)
    → length (word_of text).0 ≡ unwrap_or space (length text)
word_length text space first =
    index_from_first (λ (t : List ℕ). length (word_of t).0) (λ (b : ℕ). b ≡ 32) (λ (b : ℕ). b ≢ 32) refl (λ b bs same. ap (λ (space : Bool). length (word_next space b bs).0) (eq-eqb b 32 same))
    (λ b bs other. ap (λ (space : Bool). length (word_next space b bs).0) (ne_eqb b 32 other) ∙ (omega arith)) text space first
