-- A text has tokens, or a first fault.
use Rattle.std.proofs.Common.{◌≡◌, ◌≢◌, ℕ, zero, suc, ℤ, pos, negsuc, ◌+◌, ◌-◌, ◌<◌, ◌≤◌, ◌⊎◌, inl, inr, ◌==◌, true, false, List, [], ◌∷◌, length, slice_range, slice_index, refl, subst, arith, eqb-true, eq-eqb}
use Rattle.std.proofs.lemmas.Bool.{cases_lt, cases_Bool, both_ways, or_cases}
use Rattle.std.proofs.lemmas.Int.{ints}
use Rattle.fz_sets.specs.Sets.{IsWithinLimits}
use Rattle.fz_language.specs.declared.fault.TokenFault.{TokenFault}
use Rattle.fz_language.specs.declared.fault.TokenFault.TheVariants.{UnknownByte, LargeNumber}
use Rattle.fz_language.specs.Tokens.{Lexeme, Identifier, Word, Number, Float, Text, Punct, Token, IsSpelt, is_space, is_blank, IsToken, IsComment, IsBlank, IsGap, Ends, Skips, IsFault, IsFine, Ending, End, Fault, LeadsTo, AreTokensOf, HasFault}
use Rattle.fz_language.specs.TokenLaws.{SomeTokens}
use Rattle.fz_language.proofs.Bytes.{head_of}
use Rattle.fz_language.proofs.LexemeProofs.{begins_visible}
use Rattle.fz_language.proofs.Decisions.{Decided, IsLexeme, lexeme}

-- ---- the longest token at a place

abbrev SpeltTo : List ℕ → ℕ → ℕ → Type 0
SpeltTo text at end = IsLexeme (slice_range text at end)

-- the longest bytes from a place that spell a lexeme, of those that end at a bound at most
record Longest (text : List ℕ) (at bound : ℕ) : Type 0 where
  stop : ℕ
  within : stop ≤ bound
  spelt : SpeltTo text at stop
  last : (x : Lexeme) (end : ℕ) → end ≤ bound → IsSpelt x (slice_range text at end) → end ≤ stop

abbrev SpeltNowhere : List ℕ → ℕ → ℕ → Type 0
SpeltNowhere text at bound = (x : Lexeme) (end : ℕ) → end ≤ bound → IsSpelt x (slice_range text at end) → ⊥

or_at : (end bound : ℕ) → end ≤ suc bound → (end ≤ bound) ⊎ (end ≡ suc bound)
or_at end bound l = grind arith

one_more : (text : List ℕ) (at bound : ℕ) → (SpeltTo text at (suc bound) → ⊥) → Longest text at bound ⊎ SpeltNowhere text at bound → Longest text at (suc bound) ⊎ SpeltNowhere text at (suc bound)
one_more text at bound n (inl l) = inl (record {
  stop = l.stop;
  within = omega (arith, l.within);
  spelt = l.spelt;
  last = λ x end w h. elim (or_at end bound w) [ inl v ↦ l.last x end v h | inr e ↦ absurd (n (x, subst (λ (k : ℕ). IsSpelt x (slice_range text at k)) e h)) ];
})
one_more text at bound n (inr m) = inr (λ x end w h. elim (or_at end bound w) [
  | inl v ↦ m x end v h
  | inr e ↦ n (x, subst (λ (k : ℕ). IsSpelt x (slice_range text at k)) e h)
])

longest : (text : List ℕ) (at bound : ℕ) → Longest text at bound ⊎ SpeltNowhere text at bound
longest text at zero = elim (lexeme (slice_range text at 0)) [
  | inl h ↦ inl (record { stop = 0; within = omega arith; spelt = h; last = λ x end w s. w })
  | inr n ↦ inr (λ x end w h. n (x, (let e : end ≡ 0 = omega (arith, w) in subst (λ (k : ℕ). IsSpelt x (slice_range text at k)) e h)))
]
longest text at (suc bound) = elim (lexeme (slice_range text at (suc bound))) [
  | inl h ↦ inl (record { stop = suc bound; within = omega arith; spelt = h; last = λ x end w s. w })
  | inr n ↦ one_more text at bound n (longest text at bound)
]

-- a number lies within the limits, or not
within_limits : (v : ℤ) → Decided (IsWithinLimits v)
within_limits (pos n) = elim (cases_lt 2147483646 n) [ inl l ↦ inr (λ h. let u = h.1 in omega (arith, ints, l, u)) | inr g ↦ inl (omega (arith, ints), omega (arith, ints, g)) ]
within_limits (negsuc n) = elim (cases_lt 2147483645 n) [ inl l ↦ inr (λ h. let u = h.0 in omega (arith, ints, l, u)) | inr g ↦ inl (omega (arith, ints, g), omega (arith, ints)) ]

fine : (x : Lexeme) → Decided (IsFine x)
fine (Identifier name) = inl tt
fine (Word k) = inl tt
fine (Number v) = within_limits v
fine Float = inl tt
fine Text = inl tt
fine (Punct s) = inl tt

-- a fine token begins at a place
record FineToken (text : List ℕ) (at : ℕ) : Type 0 where
  lexeme : Lexeme
  stop : ℕ
  token : IsToken text (record { lexeme = lexeme; at = at }) stop
  is_fine : IsFine lexeme

abbrev FaultAt : List ℕ → ℕ → Type 0
FaultAt text at = (fault : TokenFault) × IsFault text fault at

large : (text : List ℕ) (at : ℕ) (x : Lexeme) (stop : ℕ) → IsToken text (record { lexeme = x; at = at }) stop → (IsFine x → ⊥) → FaultAt text at
large text at (Identifier name) stop t n = absurd (n tt)
large text at (Word k) stop t n = absurd (n tt)
large text at (Number v) stop t n = (LargeNumber, record { value = v; stop = stop; token = t; large = n })
large text at Float stop t n = absurd (n tt)
large text at Text stop t n = absurd (n tt)
large text at (Punct s) stop t n = absurd (n tt)

token_or_fault : (text : List ℕ) (at : ℕ) → at < length text → is_blank (slice_index text at) ≡ false → FineToken text at ⊎ FaultAt text at
token_or_fault text at w v = elim (longest text at (length text)) [
  | inl l ↦
      let token : IsToken text (record { lexeme = l.spelt.0; at = at }) l.stop = record { within = l.within; spelt = l.spelt.1; longest = l.last } in
      elim (fine l.spelt.0) [
        | inl f ↦ inl (record { lexeme = l.spelt.0; stop = l.stop; token = token; is_fine = f })
        | inr n ↦ inr (large text at l.spelt.0 l.stop token n)
      ]
  | inr n ↦ inr (UnknownByte, record { within = w; visible = v; none = n })
]

-- ---- blanks

-- the end of a comment that goes on at a place
record CommentEnd (text : List ℕ) (start from : ℕ) : Type 0 where
  stop : ℕ
  ahead : from ≤ stop
  within : stop ≤ length text
  inside : (k : ℕ) → from ≤ k → k < stop → slice_index text k ≢ 10
  ends : (stop ≡ length text) ⊎ (slice_index text stop ≡ 10)

later : (text : List ℕ) (start from : ℕ) → slice_index text from ≢ 10 → CommentEnd text start (from + 1) → CommentEnd text start from
later text start from n c = record {
  stop = c.stop;
  ahead = omega (arith, c.ahead);
  within = c.within;
  inside = λ k a b. elim (cases_lt from k) [ inl l ↦ c.inside k (omega (arith, l)) b | inr g ↦ let e : from ≡ k = omega (arith, a, g) in subst (λ (i : ℕ). slice_index text i ≢ 10) e n ];
  ends = c.ends;
}

comment_end : (text : List ℕ) (start from fuel : ℕ) → from ≤ length text → length text - from < fuel → CommentEnd text start from
comment_end text start from zero w f = absurd (omega (arith, f))
comment_end text start from (suc fuel) w f = elim (cases_lt from (length text)) [
  | inr g ↦ record { stop = from; ahead = omega arith; within = w; inside = λ k a b. absurd (omega (arith, a, b)); ends = inl (omega (arith, w, g)) }
  | inl l ↦ elim (cases_Bool (slice_index text from == 10)) [
    | inl e ↦ record { stop = from; ahead = omega arith; within = w; inside = λ k a b. absurd (omega (arith, a, b)); ends = inr (eqb-true (slice_index text from) 10 e) }
    | inr n ↦ later text start from (λ e. both_ways (slice_index text from == 10) n (eq-eqb (slice_index text from) 10 e)) (comment_end text start (from + 1) fuel (omega (arith, l)) (omega (arith, f, l)))
  ]
]

comment : (text : List ℕ) (start : ℕ) → start < length text → slice_index text start ≡ 37 → (stop : ℕ) × IsComment text start stop
comment text start w p =
    let c = comment_end text start (start + 1) (suc (length text)) (omega (arith, w)) (omega arith) in
    (c.stop, record { some = omega (arith, c.ahead); within = c.within; first = p; inside = λ k a b. c.inside k (omega (arith, a)) b; ends = c.ends })

-- the blanks from a place on, after which no blank stands
record Gap (text : List ℕ) (from : ℕ) : Type 0 where
  stop : ℕ
  ahead : from ≤ stop
  within : stop ≤ length text
  gap : IsGap text from stop
  visible : stop < length text → is_blank (slice_index text stop) ≡ false

record Blank (text : List ℕ) (from : ℕ) : Type 0 where
  stop : ℕ
  ahead : from < stop
  within : stop ≤ length text
  is : IsBlank text from stop

blank : (text : List ℕ) (from : ℕ) → from < length text → is_blank (slice_index text from) ≡ true → Blank text from
blank text from w b = elim (or_cases (is_space (slice_index text from)) (slice_index text from == 37) b) [
  | inl s ↦ record { stop = from + 1; ahead = omega arith; within = omega (arith, w); is = inl (w, s, refl) }
  | inr p ↦ let c = comment text from w (eqb-true (slice_index text from) 37 p) in record { stop = c.0; ahead = c.1.some; within = c.1.within; is = inr c.1 }
]

gap : (text : List ℕ) (from fuel : ℕ) → from ≤ length text → length text - from < fuel → Gap text from
gap text from zero w f = absurd (omega (arith, f))
gap text from (suc fuel) w f = elim (cases_lt from (length text)) [
  | inr g ↦ record { stop = from; ahead = omega arith; within = w; gap = Ends from w; visible = λ l. absurd (omega (arith, l, g)) }
  | inl l ↦ elim (cases_Bool (is_blank (slice_index text from))) [
    | inr n ↦ record { stop = from; ahead = omega arith; within = w; gap = Ends from w; visible = λ _. n }
    | inl b ↦
        let h = blank text from l b in
        let g = gap text h.stop fuel h.within (let a = h.ahead in omega (arith, f, l)) in
        record { stop = g.stop; ahead = (let a = h.ahead in let c = g.ahead in omega arith); within = g.within; gap = Skips from h.stop g.stop h.is g.gap; visible = g.visible }
  ]
]

-- ---- the whole text

-- tokens from a place on, and what stands after them
abbrev Leads : List ℕ → ℕ → Type 0
Leads text from = (ts : List Token) × (ending : Ending) × LeadsTo text from ts ending

token_ahead : (text : List ℕ) (at : ℕ) (t : FineToken text at) → at < t.stop
token_ahead text at t =
    let b = begins_visible t.lexeme (slice_range text at t.stop) t.token.spelt in
    let k = head_of text at t.stop b.0 b.1 t.token.within b.2 in k.some

leads : (text : List ℕ) (from fuel : ℕ) → from ≤ length text → length text - from < fuel → Leads text from
leads text from zero w f = absurd (omega (arith, f))
leads text from (suc fuel) w f =
    let g = gap text from (suc (length text)) w (omega arith) in
    elim (cases_lt g.stop (length text)) [
      | inr e ↦ ([], End, subst (λ (n : ℕ). IsGap text from n) (let u = g.within in let same : g.stop ≡ length text = omega (arith, e) in same) g.gap)
      | inl l ↦ elim (token_or_fault text g.stop l (g.visible l)) [
        | inr h ↦ ([], Fault h.0 g.stop, (g.gap, h.1))
        | inl t ↦
            let a = token_ahead text g.stop t in
            let r = leads text t.stop fuel t.token.within (let c = g.ahead in omega (arith, f, a, l)) in
            (record { lexeme = t.lexeme; at = g.stop } ∷ r.0, r.1, (t.stop, g.gap, t.token, t.is_fine, r.2))
      ]
    ]

some_ending : (text : List ℕ) (ts : List Token) (ending : Ending) → LeadsTo text 0 ts ending → ((us : List Token) × AreTokensOf text us) ⊎ ((fault : TokenFault) × (at : ℕ) × HasFault text fault at)
some_ending text ts End h = inl (ts, h)
some_ending text ts (Fault fault at) h = inr (fault, at, (ts, h))

pub leads_from : (text : List ℕ) (from : ℕ) → from ≤ length text → (ts : List Token) × (ending : Ending) × LeadsTo text from ts ending
leads_from text from within = leads text from (suc (length text)) within (omega arith)

pub some_tokens : SomeTokens
some_tokens text = let l = leads_from text 0 (omega arith) in some_ending text l.0 l.1 l.2
