-- Rows of bits.
use Rattle.std.proofs.Common.{◌≡◌, ℕ, ◌+◌, ◌*◌, ◌/◌, ◌%◌, ◌<◌, sym, ap, ◌∙◌, arith, List, length, get_or, set}
use Rattle.std.proofs.lemmas.List.{get_or-set_other}
use Rattle.std.proofs.lemmas.Nat.{div-mul-add, mod-mul-add}
use Rattle.std.proofs.lemmas.Nat.Bits.{bit_at-zero}
use Rattle.fz_bits.specs.Words.{HasBit}
use Rattle.fz_regular.specs.declared.bit_rows.BitRows.{BitRows}
use Rattle.fz_regular.specs.BitRows.{HasRow}

pub no_bit : (k : ℕ) → HasBit 0 k → ⊥
no_bit k one = let z = bit_at-zero k in omega (arith, z, one)

-- two places of words are one only where rows and places are
same_place : (w i a j b : ℕ) → a < w → b < w → i * w + a ≡ j * w + b → (i ≡ j) × (a ≡ b)
same_place w i a j b less below e =
    (sym (div-mul-add i w a less) ∙ ap (λ n. n / w) e ∙ div-mul-add j w b below, sym (mod-mul-add i w a less) ∙ ap (λ n. n % w) e ∙ mod-mul-add j w b below)

pub inside : (b : BitRows) (i place : ℕ) → HasRow b i → place < b.width → i * b.width + place < length b.words.items
inside b i place row less = let end = row.0 in omega (arith, end, less)

-- another word is left as it is
pub other_word : (words : List ℕ) (w row place bits i a : ℕ) → place < w → a < w → ((i ≡ row) × (a ≡ place) → ⊥) → get_or (set words (row * w + place) bits) (i * w + a) 0 ≡ get_or words (i * w + a) 0
other_word words w row place bits i a below less not = get_or-set_other words (row * w + place) (i * w + a) bits 0 (λ e. not (same_place w i a row place less below e))
