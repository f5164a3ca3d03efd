-- A text has one reading at most.
use Rattle.std.proofs.Common.{◌≡◌, ℕ, ◌<◌, List, length, sym, ap, ◌∙◌, subst, inl, inr, arith}
use Rattle.std.specs.Prelude.{◌⊎◌}
use Rattle.fz_spec.specs.declared.code.Code.{Code}
use Rattle.fz_spec.specs.declared.limits.TheConstants.{TEXT_LIMIT}
use Rattle.fz_spec.specs.Instance.{Instance}
use Rattle.fz_language.specs.declared.fault.SyntaxFault.TheVariants.{Unexpected, TooDeep}
use Rattle.fz_language.specs.Places.{line_of, column_of}
use Rattle.fz_language.specs.Tokens.{Token, place_in}
use Rattle.fz_language.specs.Grammar.{Spells, Breaks, IsTooDeep}
use Rattle.fz_language.specs.Trees.{Program}
use Rattle.fz_language.specs.Rules.{Fault}
use Rattle.fz_language.specs.Models.{model_of}
use Rattle.fz_language.specs.Reads.{IsShort, token_code, syntax_code, IsUnlexed, IsUnspelt, IsProgramText, IsWrong, IsFirst, IsRefusedAt, IsAccepted, program_faults, Accepted, Refused}
use Rattle.fz_language.specs.Laws.{ReadingIsOne}
use Rattle.fz_language.proofs.RuleLaws.{one_first}
use Rattle.fz_language.proofs.SyntaxProofs.{spelling_is_one, fault_is_one, depth_is_one, verdict_is_one}
use Rattle.fz_language.proofs.TokenProofs.{tokens_are_one, token_fault_is_one, tokens_or_fault}

-- a refusal: its code and its place
record Alike (c d : Code) (a b : ℕ) : Type 0 where
  code : c ≡ d
  place : a ≡ b

too_short : (text : List ℕ) → TEXT_LIMIT < length text → IsShort text → ⊥
too_short text l s = omega (arith, l, s)

one_program : (text : List ℕ) (p q : Program) → IsProgramText text p → IsProgramText text q → p ≡ q
one_program text p q h k =
    spelling_is_one h.tokens p q h.spelt (subst (λ (ts : List Token). Spells ts q) (sym (tokens_are_one text h.tokens k.tokens h.lexed k.lexed)) k.spelt)

-- where the syntax breaks at one place each
one_syntax : (text : List ℕ) (ts bs ds : List Token) (c d : Code) → ((c ≡ syntax_code Unexpected) × Breaks ts bs) ⊎ ((c ≡ syntax_code TooDeep) × IsTooDeep ts bs)
    → ((d ≡ syntax_code Unexpected) × Breaks ts ds) ⊎ ((d ≡ syntax_code TooDeep) × IsTooDeep ts ds) → Alike c d (place_in text bs) (place_in text ds)
one_syntax text ts bs ds c d (inl h) (inl k) = record { code = h.0 ∙ sym k.0; place = ap (place_in text) (fault_is_one ts bs ds h.1 k.1) }
one_syntax text ts bs ds c d (inr h) (inr k) = record { code = h.0 ∙ sym k.0; place = ap (place_in text) (depth_is_one ts bs ds h.1 k.1) }
one_syntax text ts bs ds c d (inl h) (inr k) = absurd (verdict_is_one.0 ts bs ds h.1 k.1)
one_syntax text ts bs ds c d (inr h) (inl k) = absurd (verdict_is_one.0 ts ds bs k.1 h.1)

-- tokens that spell a program have no fault
no_fault : (text : List ℕ) (ts : List Token) (p : Program) (bs : List Token) (c : Code) → Spells ts p → ((c ≡ syntax_code Unexpected) × Breaks ts bs) ⊎ ((c ≡ syntax_code TooDeep) × IsTooDeep ts bs) → ⊥
no_fault text ts p bs c s (inl h) = verdict_is_one.1 ts p bs s h.1
no_fault text ts p bs c s (inr h) = verdict_is_one.2 ts p bs s h.1

unspelt_twice : (text : List ℕ) (c d : Code) (a b : ℕ) → IsUnspelt text c a → IsUnspelt text d b → Alike c d a b
unspelt_twice text c d a b h k =
    let same = tokens_are_one text k.tokens h.tokens k.lexed h.lexed in
    let there = subst (λ (ts : List Token). ((d ≡ syntax_code Unexpected) × Breaks ts k.tokens_behind) ⊎ ((d ≡ syntax_code TooDeep) × IsTooDeep ts k.tokens_behind)) same k.fault in
    let one = one_syntax text h.tokens h.tokens_behind k.tokens_behind c d h.fault there in
    record { code = one.code; place = h.place ∙ one.place ∙ sym k.place }

spelt_unspelt : (text : List ℕ) (p : Program) (c : Code) (a : ℕ) → IsProgramText text p → IsUnspelt text c a → ⊥
spelt_unspelt text p c a h k =
    no_fault text k.tokens p k.tokens_behind c (subst (λ (ts : List Token). Spells ts p) (tokens_are_one text h.tokens k.tokens h.lexed k.lexed) h.spelt) k.fault

unlexed_twice : (text : List ℕ) (c d : Code) (a b : ℕ) → IsUnlexed text c a → IsUnlexed text d b → Alike c d a b
unlexed_twice text c d a b h k =
    let one = token_fault_is_one text h.fault k.fault a b h.first k.first in
    record { code = h.code ∙ ap token_code one.0 ∙ sym k.code; place = one.1 }

wrong_twice : (text : List ℕ) (c d : Code) (a b : ℕ) → IsWrong text c a → IsWrong text d b → Alike c d a b
wrong_twice text c d a b h k =
    let same = one_program text k.program h.program k.spelt h.spelt in
    let one = one_first (program_faults h.program) c d a b h.first (subst (λ (p : Program). IsFirst (program_faults p) d b) same k.first) in
    record { code = one.0; place = one.1 }

one_refusal : (text : List ℕ) (c d : Code) (a b : ℕ) → IsRefusedAt text c a → IsRefusedAt text d b → Alike c d a b
one_refusal text c d a b (inl h) (inl k) = record { code = h.code ∙ sym k.code; place = h.place ∙ sym k.place }
one_refusal text c d a b (inl h) (inr (inl k)) = absurd (too_short text h.long k.short)
one_refusal text c d a b (inl h) (inr (inr (inl k))) = absurd (too_short text h.long k.short)
one_refusal text c d a b (inl h) (inr (inr (inr k))) = absurd (too_short text h.long k.spelt.short)
one_refusal text c d a b (inr (inl h)) (inl k) = absurd (too_short text k.long h.short)
one_refusal text c d a b (inr (inl h)) (inr (inl k)) = unlexed_twice text c d a b h k
one_refusal text c d a b (inr (inl h)) (inr (inr (inl k))) = absurd (tokens_or_fault text k.tokens h.fault a k.lexed h.first)
one_refusal text c d a b (inr (inl h)) (inr (inr (inr k))) = absurd (tokens_or_fault text k.spelt.tokens h.fault a k.spelt.lexed h.first)
one_refusal text c d a b (inr (inr (inl h))) (inl k) = absurd (too_short text k.long h.short)
one_refusal text c d a b (inr (inr (inl h))) (inr (inl k)) = absurd (tokens_or_fault text h.tokens k.fault b h.lexed k.first)
one_refusal text c d a b (inr (inr (inl h))) (inr (inr (inl k))) = unspelt_twice text c d a b h k
one_refusal text c d a b (inr (inr (inl h))) (inr (inr (inr k))) = absurd (spelt_unspelt text k.program c a k.spelt h)
one_refusal text c d a b (inr (inr (inr h))) (inl k) = absurd (too_short text k.long h.spelt.short)
one_refusal text c d a b (inr (inr (inr h))) (inr (inl k)) = absurd (tokens_or_fault text h.spelt.tokens k.fault b h.spelt.lexed k.first)
one_refusal text c d a b (inr (inr (inr h))) (inr (inr (inl k))) = absurd (spelt_unspelt text h.program d b h.spelt k)
one_refusal text c d a b (inr (inr (inr h))) (inr (inr (inr k))) = wrong_twice text c d a b h k

not_both : (text : List ℕ) (m : Instance) (c : Code) (a : ℕ) → IsAccepted text m → IsRefusedAt text c a → ⊥
not_both text m c a h (inl k) = too_short text k.long h.spelt.short
not_both text m c a h (inr (inl k)) = tokens_or_fault text h.spelt.tokens k.fault a h.spelt.lexed k.first
not_both text m c a h (inr (inr (inl k))) = spelt_unspelt text h.program c a h.spelt k
not_both text m c a h (inr (inr (inr k))) =
    let same = one_program text k.program h.program k.spelt h.spelt in
    subst (λ (fs : List Fault). IsFirst fs c a) h.keep (subst (λ (p : Program). IsFirst (program_faults p) c a) same k.first)

pub reading_is_one : ReadingIsOne
reading_is_one text (Accepted m) (Accepted n) h k = ap (λ i. Accepted i) (h.is ∙ ap model_of (one_program text h.program k.program h.spelt k.spelt) ∙ sym k.is)
reading_is_one text (Accepted m) (Refused c line column) h k = absurd (not_both text m c k.at h k.refused)
reading_is_one text (Refused c line column) (Accepted m) h k = absurd (not_both text m c h.at k h.refused)
reading_is_one text (Refused c l u) (Refused d m v) h k =
    let one = one_refusal text c d h.at k.at h.refused k.refused in
    λ i. Refused (one.code i) ((h.line_is ∙ ap (line_of text) one.place ∙ sym k.line_is) i) ((h.column_is ∙ ap (column_of text) one.place ∙ sym k.column_is) i)
