-- What is read of a text that is too long, and the text.
use Rattle.std.proofs.Common.{◌≡◌, ◌∙◌, ℕ, ◌+◌, ◌<◌, ◌⊎◌, List, [], ◌∷◌, zero, suc, ap, sym, refl, length, take, subst, inl, inr, arith, length-take, reverse, count_by, take_while}
use Rattle.std.proofs.lemmas.Bool.{cases_lt}
use Rattle.std.proofs.lemmas.List.{take_all}
use Rattle.std.proofs.Math.Nat.{suc-add}
use Rattle.fz_spec.specs.declared.code.Code.{Code}
use Rattle.fz_language.specs.Places.{line_of, column_of, is_line_end, is_in_line}
use Rattle.fz_language.specs.Reads.{IsShort, token_code, syntax_code, Reads, Reading, Accepted, Refused, IsRefused, IsRefusedAt}
use Rattle.fz_spec.specs.declared.limits.TheConstants.{TEXT_LIMIT}
use Rattle.fz_language.specs.declared.fault.SyntaxFault.{SyntaxFault}
use Rattle.fz_language.specs.declared.fault.SyntaxFault.TheVariants.{Unexpected, TooDeep}
use Rattle.fz_language.specs.Tokens.{Token, HasFault}
use Rattle.fz_language.specs.Grammar.{Breaks, IsTooDeep}
use Rattle.fz_lex.specs.declared.lexer.LexFault.{LexFault}
use Rattle.fz_parse.specs.declared.parser.ParseFault.{ParseFault}
use Rattle.fz_parse.specs.Parsed.{IsAtFault, HasSyntaxFault}
use Rattle.fz_spec.specs.declared.code.Code.TheVariants.{OverLimit}
use Rattle.fz_spec.specs.Codes.{code_number}
use Rattle.fz_print.specs.declared.refusal.Refusal.{Refusal}
use Rattle.fz_reader.specs.Refusals.{IsRefusal}

-- the first bytes of a text, one more than the limit, are read as the text
front_is_long : (text : List ℕ) → TEXT_LIMIT < length text → IsShort (take (TEXT_LIMIT + 1) text) → ⊥
front_is_long text long short = omega (arith, length-take (TEXT_LIMIT + 1) text)

take_take : (n m : ℕ) (xs : List ℕ) → take n (take (n + m) xs) ≡ take n xs
take_take zero m xs = refl
take_take (suc n) m [] = rw suc-add refl
take_take (suc n) m (x ∷ xs) = rw suc-add (ap (λ u. x ∷ u) (take_take n m xs))

-- what stands before the limit
front_before : (text : List ℕ) → take TEXT_LIMIT (take (TEXT_LIMIT + 1) text) ≡ take TEXT_LIMIT text
front_before text = take_take TEXT_LIMIT 1 text

refused_front : (text : List ℕ) (code : Code) (line column at : ℕ) → TEXT_LIMIT < length text → IsRefusedAt (take (TEXT_LIMIT + 1) text) code at → line ≡ line_of (take (TEXT_LIMIT + 1) text) at
    → column ≡ column_of (take (TEXT_LIMIT + 1) text) at → IsRefused text code line column
refused_front text code line column at long h l c = elim h [
  | inl over ↦ record {
    at = TEXT_LIMIT;
    refused = inl (record { long = long; code = over.code; place = refl });
    line_is = l ∙ ap (line_of (take (TEXT_LIMIT + 1) text)) over.place ∙ ap (λ u. count_by is_line_end u + 1) (front_before text);
    column_is = c ∙ ap (column_of (take (TEXT_LIMIT + 1) text)) over.place ∙ ap (λ u. length (take_while is_in_line (reverse u)) + 1) (front_before text);
  }
  | inr short ↦ elim short [
    | inl unlexed ↦ absurd (front_is_long text long unlexed.short)
    | inr lexed ↦ elim lexed [ inl unspelt ↦ absurd (front_is_long text long unspelt.short) | inr wrong ↦ absurd (front_is_long text long wrong.spelt.short) ]
  ]
]

read_of_long : (text : List ℕ) (r : Reading) → TEXT_LIMIT < length text → Reads (take (TEXT_LIMIT + 1) text) r → Reads text r
read_of_long text (Accepted m) long h = absurd (front_is_long text long h.spelt.short)
read_of_long text (Refused code line column) long h = refused_front text code line column h.at long h.refused h.line_is h.column_is

pub read_of_front : (text : List ℕ) (r : Reading) → Reads (take (TEXT_LIMIT + 1) text) r → Reads text r
read_of_front text r h = elim (cases_lt TEXT_LIMIT (length text)) [ inl long ↦ read_of_long text r long h | inr short ↦ subst (λ (t : List ℕ). Reads t r) (take_all (TEXT_LIMIT + 1) text (omega arith)) h ]

-- ---- a fault of syntax

abbrev IsSyntaxFault : List Token → List Token → Code → Type 0
IsSyntaxFault ts behind c = ((c ≡ syntax_code Unexpected) × Breaks ts behind) ⊎ ((c ≡ syntax_code TooDeep) × IsTooDeep ts behind)

by_cause : (cause : SyntaxFault) (ts behind : List Token) (c : Code) → c ≡ syntax_code cause → IsAtFault ts cause behind → IsSyntaxFault ts behind c
by_cause Unexpected ts behind c e h = inl (e, h)
by_cause TooDeep ts behind c e h = inr (e, h)

pub unspelt_is : (text : List ℕ) (fault : ParseFault) (c : Code) (at : ℕ) → IsShort text → HasSyntaxFault text fault → c ≡ syntax_code fault.cause → at ≡ fault.at → IsRefusedAt text c at
unspelt_is text fault c at s h e p = inr (inr (inl (record {
  short = s;
  tokens = h.tokens;
  lexed = h.lexed;
  tokens_behind = h.behind;
  fault = by_cause fault.cause h.tokens h.behind c e h.faulty;
  place = p ∙ h.placed;
})))

pub unlexed_is : (text : List ℕ) (fault : LexFault) (c : Code) (at : ℕ) → IsShort text → HasFault text fault.cause fault.at → c ≡ token_code fault.cause → at ≡ fault.at → IsRefusedAt text c at
unlexed_is text fault c at s h e p = inr (inl (record { short = s; fault = fault.cause; first = subst (HasFault text fault.cause) (sym p) h; code = e }))

-- ---- a text that is too long

pub long_refusal : (text : List ℕ) (r : Refusal) → TEXT_LIMIT < length text → r.code ≡ code_number OverLimit → r.line ≡ line_of (take TEXT_LIMIT text) TEXT_LIMIT → r.column ≡ column_of (take TEXT_LIMIT text) TEXT_LIMIT → IsRefusal text r
long_refusal text r long n l c =
    let same : take TEXT_LIMIT (take TEXT_LIMIT text) ≡ take TEXT_LIMIT text = take_take TEXT_LIMIT 0 text in
    record {
      code = OverLimit;
      number = n;
      reads = record {
        at = TEXT_LIMIT;
        refused = inl (record { long = long; code = refl; place = refl });
        line_is = l ∙ ap (λ u. count_by is_line_end u + 1) same;
        column_is = c ∙ ap (λ u. length (take_while is_in_line (reverse u)) + 1) same;
      };
    }
