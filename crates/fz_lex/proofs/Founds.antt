-- The token at a place, kind by kind.
use Rattle.std.proofs.Common.{◌≡◌, ◌≢◌, ℕ, ℤ, pos, ◌-ℤ◌, ◌+◌, ◌<◌, ◌≤◌, ◌⊎◌, Bool, true, false, IsTrue, List, ◌∷◌, length, slice_index, slice_range, not, ◌==◌, eq-eqb, eqb-true, subst, sym, ap, ◌∙◌, refl, inl, inr, arith}
use Rattle.std.specs.Char.{is_ascii_digit}
use Rattle.std.proofs.lemmas.Bool.{cases_lt, both_ways}
use Rattle.std.proofs.lemmas.Int.{ints}
use Rattle.fz_sets.specs.Sets.{IsWithinLimits}
use Rattle.fz_language.specs.declared.sign.Sign.{Sign}
use Rattle.fz_language.specs.declared.sign.Sign.TheVariants.{Colon}
use Rattle.fz_language.specs.declared.keyword.Keyword.{Keyword}
use Rattle.fz_language.specs.Tokens.{Lexeme, Identifier, Word, Number, Float, Text, Punct, is_blank, is_word_start, is_word_byte, IsWord, keyword_bytes, sign_bytes, IsNatural, IsPlainFloat, IsTail, IsFloat, IsNumber, IsInside, IsSpelt, IsToken, BeginsNoToken, BeginsLargeNumber, digits_value}
use Rattle.fz_language.proofs.Bytes.{slice_cons, slice_none, slice_all_at, all_of_slice, head_of}
use Rattle.fz_lex.specs.declared.lexeme.Lexeme.TheVariants as found
use Rattle.fz_lex.specs.declared.run.DigitRun.{DigitRun}
use Rattle.fz_lex.specs.declared.run.TheConstants.{OVER}
use Rattle.fz_lex.specs.Steps.{IsRun, IsLongest, HasNone, IsNaturalAt, IsNumberStart, FitsSign, FitsNoSign, IsFoundAt, begins_sign, signed_of}
use Rattle.fz_lex.proofs.Runs.{run_bound, run_digits}
use Rattle.fz_lex.proofs.NumberTokens.{Parts, natural_first, float_first, number_parts, float_parts, float_longest, natural_longest, float_is, number_is, NaturalFound}
use Rattle.fz_lex.proofs.Signs.{sign_first, sign_length, bytes_of_sign, IsSignAt, sign_at, sign_starts, sign_longest_sign, sign_begins, sign_within, sign_stands, colon_alone}
use Rattle.fz_lex.proofs.Strings.{text_first, text_inside, text_from, closes_only}
use Rattle.fz_language.proofs.LexemeProofs.{keyword_word, clash, digit_no_word}

-- what a spelling tells of its bytes

pub record IsWordAt (text : List ℕ) (start stop : ℕ) : Type 0 where
  pub some : start < stop
  pub first : IsTrue (is_word_start (slice_index text start))
  pub others : (k : ℕ) → start + 1 ≤ k → k < stop → IsTrue (is_word_byte (slice_index text k))

pub word_at : (text : List ℕ) (start stop : ℕ) → stop ≤ length text → IsWord (slice_range text start stop) → IsWordAt text start stop
word_at text start stop w h =
    elim (cases_lt start stop) [
      | inl l ↦
          let f : IsWord (slice_index text start ∷ slice_range text (start + 1) stop) = subst IsWord (slice_cons text start stop l w) h in
          record { some = l; first = f.0; others = λ k a b. slice_all_at is_word_byte text (start + 1) stop k w f.1 a b }
      | inr g ↦ absurd (subst IsWord (slice_none text start stop g) h)
    ]

pub word_from : (text : List ℕ) (start stop : ℕ) → stop ≤ length text → IsWordAt text start stop → IsWord (slice_range text start stop)
word_from text start stop w h =
    let f : IsWord (slice_index text start ∷ slice_range text (start + 1) stop) =
    (h.first, all_of_slice is_word_byte text (start + 1) stop w h.others) in
    subst IsWord (sym (slice_cons text start stop h.some w)) f

-- what begins with a digit, or a minus and a digit
NumberFirst : List ℕ → ℕ → Type 0
NumberFirst text at = (is_ascii_digit (slice_index text at) ≡ true) ⊎ ((slice_index text at ≡ 45) × (is_ascii_digit (slice_index text (at + 1)) ≡ true))

number_first : (v : ℤ) (text : List ℕ) (at end : ℕ) → end ≤ length text → IsNumber v (slice_range text at end) → NumberFirst text at
unfolding NumberFirst
number_first v text at end w x = elim x [
  | inl p ↦ inl (natural_first p.0 text at end w p.1)
  | inr p ↦ let h = head_of text at end 45 p.1 w p.2 in inr (h.byte, natural_first p.0 text (at + 1) end w (subst (IsNatural p.0) (sym h.others) p.3))
]

float_begins : (text : List ℕ) (at end : ℕ) → end ≤ length text → IsFloat (slice_range text at end) → NumberFirst text at
unfolding NumberFirst
float_begins text at end w x = elim x [
  | inl p ↦ inl (float_first text at end w p)
  | inr p ↦ let h = head_of text at end 45 p.0 w p.1 in inr (h.byte, float_first text (at + 1) end w (subst IsPlainFloat (sym h.others) p.2))
]

-- how a spelling begins
abbrev Start : Lexeme → List ℕ → ℕ → Type 0
Start (Identifier name) text at = is_word_start (slice_index text at) ≡ true
Start (Word k) text at = is_word_start (slice_index text at) ≡ true
Start (Number v) text at = NumberFirst text at
Start Float text at = NumberFirst text at
Start Text text at = slice_index text at ≡ 34
Start (Punct s) text at = slice_index text at ≡ sign_first s

start : (x : Lexeme) (text : List ℕ) (at end : ℕ) → end ≤ length text → IsSpelt x (slice_range text at end) → Start x text at
start (Identifier name) text at end w h = (word_at text at end w h.0.word).first
start (Word k) text at end w h = (word_at text at end w (subst IsWord (sym h) (keyword_word k))).first
start (Number v) text at end w h = number_first v text at end w h
start Float text at end w h = float_begins text at end w h
start Text text at end w h = text_first text at end w h
start (Punct s) text at end w h = (sign_starts s text at end (sign_at s text at end w h)).1

number_no_word : (text : List ℕ) (at : ℕ) → NumberFirst text at → is_word_start (slice_index text at) ≡ true → ⊥
unfolding NumberFirst
number_no_word text at n w = elim n [
  | inl d ↦ digit_no_word (slice_index text at) d w
  | inr m ↦ clash is_word_start (slice_index text at) 45 m.0 w refl
]

-- words

word_longest : (text : List ℕ) (at stop : ℕ) → is_word_start (slice_index text at) ≡ true → IsRun is_word_byte text (at + 1) stop → (x : Lexeme) (end : ℕ) → end ≤ length text → IsSpelt x (slice_range text at end) → end ≤ stop
word_longest text at stop f r (Identifier name) end w h = word_bound text at stop r end w h.0.word
  where
    word_bound : (text : List ℕ) (at stop : ℕ) → IsRun is_word_byte text (at + 1) stop → (end : ℕ) → end ≤ length text → IsWord (slice_range text at end) → end ≤ stop
    word_bound text at stop r end w h = let a = word_at text at end w h in run_bound end r w (all_of_slice is_word_byte text (at + 1) end w a.others)
word_longest text at stop f r (Word k) end w h =
    let a = word_at text at end w (subst IsWord (sym h) (keyword_word k)) in run_bound end r w (all_of_slice is_word_byte text (at + 1) end w a.others)
word_longest text at stop f r (Number v) end w h = absurd (number_no_word text at (number_first v text at end w h) f)
word_longest text at stop f r Float end w h = absurd (number_no_word text at (float_begins text at end w h) f)
word_longest text at stop f r Text end w h = absurd (clash is_word_start (slice_index text at) 34 (text_first text at end w h) f refl)
word_longest text at stop f r (Punct s) end w h = absurd (clash is_word_start (slice_index text at) (sign_first s) (start (Punct s) text at end w h) f (bytes_of_sign s).0)

word_is : (text : List ℕ) (at stop : ℕ) → at < length text → is_word_start (slice_index text at) ≡ true → IsRun is_word_byte text (at + 1) stop → IsWord (slice_range text at stop)
word_is text at stop w f r =
    let o : at + 1 ≤ stop = r.pass.ordered in
    word_from text at stop r.pass.within (record { some = omega arith; first = f; others = r.pass.each })

pub identifier_found : (text : List ℕ) (at stop : ℕ) → at < length text → is_word_start (slice_index text at) ≡ true → IsRun is_word_byte text (at + 1) stop → ((k : Keyword) → slice_range text at stop ≢ keyword_bytes k)
    → IsFoundAt text at (record { lexeme = found.Identifier stop; stop = stop })
identifier_found text at stop w f r free =
    let o : at + 1 ≤ stop = r.pass.ordered in
    record {
      some = omega arith;
      token = record { within = r.pass.within; spelt = (record { word = word_is text at stop w f r; free = free }, refl); longest = word_longest text at stop f r };
      fine = tt;
      bounded = (omega arith, r.pass.within);
    }

pub keyword_found : (text : List ℕ) (at stop : ℕ) (k : Keyword) → is_word_start (slice_index text at) ≡ true → IsRun is_word_byte text (at + 1) stop → slice_range text at stop ≡ keyword_bytes k
    → IsFoundAt text at (record { lexeme = found.Word k; stop = stop })
keyword_found text at stop k f r e =
    let o : at + 1 ≤ stop = r.pass.ordered in
    record { some = omega arith; token = record { within = r.pass.within; spelt = e; longest = word_longest text at stop f r }; fine = tt; bounded = tt }

-- numbers

start_byte : (text : List ℕ) (at from : ℕ) → IsNumberStart text at from → (is_ascii_digit (slice_index text at) ≡ true) ⊎ (slice_index text at ≡ 45)
start_byte text at from (inl m) = inr m.0
start_byte text at from (inr d) = inl d.0

no_sign_start : (s : Sign) (text : List ℕ) (at : ℕ) → (is_ascii_digit (slice_index text at) ≡ true) ⊎ (slice_index text at ≡ 45) → slice_index text at ≡ sign_first s → ⊥
no_sign_start s text at (inl d) e = clash is_ascii_digit (slice_index text at) (sign_first s) e d (bytes_of_sign s).1
no_sign_start s text at (inr m) e = (bytes_of_sign s).3 (sym e ∙ m)

no_word_start : (text : List ℕ) (at : ℕ) → (is_ascii_digit (slice_index text at) ≡ true) ⊎ (slice_index text at ≡ 45) → is_word_start (slice_index text at) ≡ true → ⊥
no_word_start text at (inl d) w = digit_no_word (slice_index text at) d w
no_word_start text at (inr m) w = clash is_word_start (slice_index text at) 45 m w refl

no_quote_start : (text : List ℕ) (at : ℕ) → (is_ascii_digit (slice_index text at) ≡ true) ⊎ (slice_index text at ≡ 45) → slice_index text at ≡ 34 → ⊥
no_quote_start text at (inl d) q = clash is_ascii_digit (slice_index text at) 34 q d refl
no_quote_start text at (inr m) q = let e : 45 ≡ 34 = sym m ∙ q in omega (arith, e)

number_longest : (text : List ℕ) (at from stop : ℕ) → IsNumberStart text at from → ((end : ℕ) → end ≤ length text → Parts text from end → end ≤ stop) → (x : Lexeme) (end : ℕ) → end ≤ length text → IsSpelt x (slice_range text at end) → end ≤ stop
number_longest text at from stop n b (Identifier name) end w h = absurd (no_word_start text at (start_byte text at from n) (start (Identifier name) text at end w h))
number_longest text at from stop n b (Word k) end w h = absurd (no_word_start text at (start_byte text at from n) (start (Word k) text at end w h))
number_longest text at from stop n b (Number v) end w h = b end w (inl (number_parts v text at from end w n h))
number_longest text at from stop n b Float end w h = b end w (inr (float_parts text at from end w n h))
number_longest text at from stop n b Text end w h = absurd (no_quote_start text at (start_byte text at from n) (text_first text at end w h))
number_longest text at from stop n b (Punct s) end w h = absurd (no_sign_start s text at (start_byte text at from n) (start (Punct s) text at end w h))

starts_before : (text : List ℕ) (at from : ℕ) → IsNumberStart text at from → at ≤ from
starts_before text at from (inl m) = omega (arith, m.1)
starts_before text at from (inr d) = omega (arith, d.1)

pub float_found : (text : List ℕ) (at from whole stop : ℕ) → IsNumberStart text at from → IsRun is_ascii_digit text from whole → from < whole → IsLongest IsTail text whole stop → IsFoundAt text at (record { lexeme = found.Float; stop = stop })
float_found text at from whole stop n r some t =
    let o = starts_before text at from n in
    let l = float_longest text from whole stop whole r t r.pass.within (inl (digits_value 10 (slice_range text from whole), inl (run_digits r some, refl))) in
    record {
      some = omega (arith, o, some, l);
      token = record { within = t.within; spelt = float_is text at from whole stop n r some t; longest = number_longest text at from stop n (λ end w p. float_longest text from whole stop end r t w p) };
      fine = tt;
      bounded = tt;
    }

above : (n : ℕ) → OVER ≤ n → IsWithinLimits (pos n) → ⊥
above n h f = let g = f.1 in omega (arith, ints, g)

below : (n : ℕ) → OVER ≤ n → IsWithinLimits (pos 0 -ℤ pos n) → ⊥
below n h f = let g = f.0 in omega (arith, ints, g)

within_limits : (negative : Bool) (n : ℕ) → n < OVER → IsWithinLimits (signed_of negative n)
within_limits true n h = (omega (arith, ints), omega (arith, ints))
within_limits false n h = (omega (arith, ints), omega (arith, ints))

outside : (negative : Bool) (n : ℕ) → OVER ≤ n → IsWithinLimits (signed_of negative n) → ⊥
outside true n h f = below n h f
outside false n h f = above n h f

-- the natural number that was found, with its sign
pub number_token : (text : List ℕ) (at from n : ℕ) (negative : Bool) (whole run : DigitRun) → IsNumberStart text at from → (negative ≡ true → from ≡ at + 1) → (negative ≡ false → from ≡ at) → IsRun is_ascii_digit text from whole.stop
    → HasNone IsTail text whole.stop → IsNaturalAt text from whole run → from < run.stop → run.stop ≤ length text → IsNatural n (slice_range text from run.stop)
    → IsToken text (record { lexeme = Number (signed_of negative n); at = at }) run.stop
number_token text at from n negative whole run s m d r t nat some w p = record {
  within = w;
  spelt = number_is text at from run.stop n negative some w s m d p;
  longest = number_longest text at from run.stop s (λ end v x. natural_longest text from whole run end r t nat v x);
}

pub large_found : (text : List ℕ) (at from : ℕ) (negative : Bool) (whole run : DigitRun) → IsNumberStart text at from → (negative ≡ true → from ≡ at + 1) → (negative ≡ false → from ≡ at) → IsRun is_ascii_digit text from whole.stop
    → HasNone IsTail text whole.stop → IsNaturalAt text from whole run → (f : NaturalFound text from run) → run.value ≡ OVER → BeginsLargeNumber text at
large_found text at from negative whole run s m d r t nat f v = record {
  value = signed_of negative f.number;
  stop = run.stop;
  token = number_token text at from f.number negative whole run s m d r t nat f.some f.within f.is;
  large = outside negative f.number (let e = f.value in omega (arith, e, v));
}

pub number_found : (text : List ℕ) (at from : ℕ) (negative : Bool) (z : ℤ) (whole run : DigitRun) → IsNumberStart text at from → (negative ≡ true → from ≡ at + 1) → (negative ≡ false → from ≡ at) → IsRun is_ascii_digit text from whole.stop
    → HasNone IsTail text whole.stop → IsNaturalAt text from whole run → (f : NaturalFound text from run) → (run.value ≡ OVER → ⊥) → z ≡ signed_of negative run.value → IsFoundAt text at (record { lexeme = found.Integer z; stop = run.stop })
number_found text at from negative z whole run s m d r t nat f v e =
    let o = starts_before text at from s in
    let q : f.number ≡ run.value = (let g = f.value in omega (arith, g, v)) in
    let b : run.value < OVER = (let g = f.value in omega (arith, g, v)) in
    let p : IsNatural run.value (slice_range text from run.stop) = subst (λ (n : ℕ). IsNatural n (slice_range text from run.stop)) q f.is in
    record {
      some = omega (arith, o, f.some);
      token = subst (λ (x : ℤ). IsToken text (record { lexeme = Number x; at = at }) run.stop) (sym e) (number_token text at from run.value negative whole run s m d r t nat f.some f.within p);
      fine = subst IsWithinLimits (sym e) (within_limits negative run.value b);
      bounded = tt;
    }

no_number_first : (text : List ℕ) (at : ℕ) → slice_index text at ≡ 45 → is_ascii_digit (slice_index text (at + 1)) ≡ false → NumberFirst text at → ⊥
unfolding NumberFirst
no_number_first text at m f (inl d) = clash is_ascii_digit (slice_index text at) 45 m d refl
no_number_first text at m f (inr n) = both_ways (is_ascii_digit (slice_index text (at + 1))) f n.1

lone_minus : (x : Lexeme) (text : List ℕ) (at : ℕ) → slice_index text at ≡ 45 → is_ascii_digit (slice_index text (at + 1)) ≡ false → Start x text at → ⊥
lone_minus (Identifier name) text at m f s = clash is_word_start (slice_index text at) 45 m s refl
lone_minus (Word k) text at m f s = clash is_word_start (slice_index text at) 45 m s refl
lone_minus (Number v) text at m f s = no_number_first text at m f s
lone_minus Float text at m f s = no_number_first text at m f s
lone_minus Text text at m f s = let e : 45 ≡ 34 = sym m ∙ s in omega (arith, e)
lone_minus (Punct sign) text at m f s = (bytes_of_sign sign).3 (sym s ∙ m)

pub no_number : (text : List ℕ) (at from : ℕ) → at < length text → IsNumberStart text at from → is_ascii_digit (slice_index text from) ≡ false → BeginsNoToken text at
no_number text at from w n f = elim n [
  | inr d ↦ absurd (both_ways (is_ascii_digit (slice_index text from)) f (subst (λ (k : ℕ). is_ascii_digit (slice_index text k) ≡ true) (sym d.1) d.0))
  | inl m ↦ record {
    within = w;
    visible = ap is_blank m.0;
    none = λ x end v h. lone_minus x text at m.0 (subst (λ (k : ℕ). is_ascii_digit (slice_index text k) ≡ false) m.1 f) (start x text at end v h);
  }
]

-- strings

no_number_quote : (text : List ℕ) (at : ℕ) → slice_index text at ≡ 34 → NumberFirst text at → ⊥
unfolding NumberFirst
no_number_quote text at q (inl d) = clash is_ascii_digit (slice_index text at) 34 q d refl
no_number_quote text at q (inr m) = let e : 45 ≡ 34 = sym m.0 ∙ q in omega (arith, e)

text_longest : (text : List ℕ) (at stop : ℕ) → slice_index text at ≡ 34 → ((end : ℕ) → end ≤ length text → IsInside (slice_range text (at + 1) end) → end ≤ stop) → (x : Lexeme) (end : ℕ) → end ≤ length text → IsSpelt x (slice_range text at end) → end ≤ stop
text_longest text at stop q b (Identifier name) end w h = absurd (clash is_word_start (slice_index text at) 34 q (start (Identifier name) text at end w h) refl)
text_longest text at stop q b (Word k) end w h = absurd (clash is_word_start (slice_index text at) 34 q (start (Word k) text at end w h) refl)
text_longest text at stop q b (Number v) end w h = absurd (no_number_quote text at q (number_first v text at end w h))
text_longest text at stop q b Float end w h = absurd (no_number_quote text at q (float_begins text at end w h))
text_longest text at stop q b Text end w h = b end w (text_inside text at end w h)
text_longest text at stop q b (Punct s) end w h = absurd ((bytes_of_sign s).4 (sym (start (Punct s) text at end w h) ∙ q))

pub text_found : (text : List ℕ) (at stop : ℕ) → slice_index text at ≡ 34 → at < stop → stop < length text → slice_index text stop ≡ 34
    → ((end : ℕ) → end ≤ length text → IsInside (slice_range text (at + 1) end) → IsInside (slice_range text stop end)) → IsInside (slice_range text (at + 1) (stop + 1)) → IsFoundAt text at (record { lexeme = found.Text; stop = stop + 1 })
text_found text at stop q l w z goes i = record {
  some = omega arith;
  token = record {
    within = omega arith;
    spelt = text_from text at (stop + 1) (omega arith) (omega arith) q i;
    longest = text_longest text at (stop + 1) q (λ end v j. closes_only text stop end v z (goes end v j));
  };
  fine = tt;
  bounded = tt;
}

no_text : (x : Lexeme) (text : List ℕ) (at end : ℕ) → end ≤ length text → slice_index text at ≡ 34 → HasNone IsInside text (at + 1) → IsSpelt x (slice_range text at end) → ⊥
no_text (Identifier name) text at end w q n h = clash is_word_start (slice_index text at) 34 q (start (Identifier name) text at end w h) refl
no_text (Word k) text at end w q n h = clash is_word_start (slice_index text at) 34 q (start (Word k) text at end w h) refl
no_text (Number v) text at end w q n h = no_number_quote text at q (number_first v text at end w h)
no_text Float text at end w q n h = no_number_quote text at q (float_begins text at end w h)
no_text Text text at end w q n h = n end w (text_inside text at end w h)
no_text (Punct s) text at end w q n h = (bytes_of_sign s).4 (sym (start (Punct s) text at end w h) ∙ q)

pub open_text : (text : List ℕ) (at : ℕ) → at < length text → slice_index text at ≡ 34 → HasNone IsInside text (at + 1) → BeginsNoToken text at
open_text text at w q n = record { within = w; visible = ap is_blank q; none = λ x end v h. no_text x text at end v q n h }

-- signs

sign_no_number : (s : Sign) (text : List ℕ) (at : ℕ) → slice_index text at ≡ sign_first s → NumberFirst text at → ⊥
unfolding NumberFirst
sign_no_number s text at e (inl d) = clash is_ascii_digit (slice_index text at) (sign_first s) e d (bytes_of_sign s).1
sign_no_number s text at e (inr m) = (bytes_of_sign s).3 (sym e ∙ m.0)

sign_longest : (s : Sign) (text : List ℕ) (at stop : ℕ) → IsSignAt s text at stop → (s ≡ Colon → slice_index text stop ≢ 58) → (x : Lexeme) (end : ℕ) → end ≤ length text → IsSpelt x (slice_range text at end) → stop < end → ⊥
sign_longest s text at stop h next (Identifier name) end w x l = clash is_word_start (slice_index text at) (sign_first s) (sign_starts s text at stop h).1 (start (Identifier name) text at end w x) (bytes_of_sign s).0
sign_longest s text at stop h next (Word k) end w x l = clash is_word_start (slice_index text at) (sign_first s) (sign_starts s text at stop h).1 (start (Word k) text at end w x) (bytes_of_sign s).0
sign_longest s text at stop h next (Number v) end w x l = sign_no_number s text at (sign_starts s text at stop h).1 (number_first v text at end w x)
sign_longest s text at stop h next Float end w x l = sign_no_number s text at (sign_starts s text at stop h).1 (float_begins text at end w x)
sign_longest s text at stop h next Text end w x l = (bytes_of_sign s).4 (sym (sign_starts s text at stop h).1 ∙ text_first text at end w x)
sign_longest s text at stop h next (Punct t) end w x l = sign_longest_sign s t text at stop end h (sign_at t text at end w x) next l

at_most : (m n : ℕ) → (n < m → ⊥) → m ≤ n
at_most m n h = elim (cases_lt n m) [ inl l ↦ absurd (h l) | inr g ↦ g ]

pub sign_found : (s : Sign) (text : List ℕ) (at : ℕ) → at < length text → FitsSign s (slice_index text at) (slice_index text (at + 1)) → IsFoundAt text at (record { lexeme = found.Sign s; stop = at + sign_length s })
sign_found s text at w h =
    let some : 0 < sign_length s = (bytes_of_sign s).5 in
    let v = sign_within s text at w h in
    let e = sign_stands s text at w h in
    record {
      some = omega arith;
      token = record {
        within = v;
        spelt = e;
        longest = λ x end u y. at_most end (at + sign_length s) (sign_longest s text at (at + sign_length s) (sign_at s text at (at + sign_length s) v e) (colon_alone s text at h.alone) x end u y);
      };
      fine = tt;
      bounded = tt;
    }

no_sign_begins : (s : Sign) (text : List ℕ) (at end : ℕ) → end ≤ length text → FitsNoSign (slice_index text at) (slice_index text (at + 1)) → slice_range text at end ≡ sign_bytes s → ⊥
no_sign_begins s text at end w h x =
    let i = sign_at s text at end w x in
    let e = (sign_starts s text at end i).1 in
    elim (sign_begins s) [
      | inl t ↦ clash begins_sign (sign_first s) (slice_index text at) (sym e) t h.no_sign
      | inr d ↦
          let z : end ≡ at + 2 = i.size ∙ ap (λ y. at + sign_length y) d in
          h.no_dots (e ∙ ap sign_first d) (i.bytes 1 (omega arith) ∙ ap (λ y. slice_index (sign_bytes y) 1) d)
    ]

record IsNoStart (text : List ℕ) (at : ℕ) : Type 0 where
  no_word : is_word_start (slice_index text at) ≡ false
  no_digit : is_ascii_digit (slice_index text at) ≡ false
  no_minus : slice_index text at ≢ 45
  no_quote : slice_index text at ≢ 34
  no_sign : FitsNoSign (slice_index text at) (slice_index text (at + 1))

no_first : (text : List ℕ) (at : ℕ) → IsNoStart text at → NumberFirst text at → ⊥
unfolding NumberFirst
no_first text at n (inl d) = both_ways (is_ascii_digit (slice_index text at)) n.no_digit d
no_first text at n (inr m) = n.no_minus m.0

none_begins : (text : List ℕ) (at : ℕ) → IsNoStart text at → (x : Lexeme) (end : ℕ) → end ≤ length text → IsSpelt x (slice_range text at end) → ⊥
none_begins text at n (Identifier name) end w h = both_ways (is_word_start (slice_index text at)) n.no_word (start (Identifier name) text at end w h)
none_begins text at n (Word k) end w h = both_ways (is_word_start (slice_index text at)) n.no_word (start (Word k) text at end w h)
none_begins text at n (Number v) end w h = no_first text at n (number_first v text at end w h)
none_begins text at n Float end w h = no_first text at n (float_begins text at end w h)
none_begins text at n Text end w h = n.no_quote (text_first text at end w h)
none_begins text at n (Punct s) end w h = no_sign_begins s text at end w n.no_sign h

pub none_found : (text : List ℕ) (at : ℕ) → at < length text → is_blank (slice_index text at) ≡ false → is_word_start (slice_index text at) ≡ false → is_ascii_digit (slice_index text at) ≡ false → slice_index text at ≢ 45 → slice_index text at ≢ 34
    → FitsNoSign (slice_index text at) (slice_index text (at + 1)) → BeginsNoToken text at
none_found text at w v word digit minus quote h = record {
  within = w;
  visible = v;
  none = none_begins text at (record { no_word = word; no_digit = digit; no_minus = minus; no_quote = quote; no_sign = h });
}

-- whether a minus stands there
pub sign_of_start : (text : List ℕ) (at from : ℕ) → IsNumberStart text at from → (negative : Bool) × (negative ≡ true → from ≡ at + 1) × (negative ≡ false → from ≡ at)
sign_of_start text at from (inl m) = (true, λ e. m.1, λ e. absurd (both_ways true e refl))
sign_of_start text at from (inr d) = (false, λ e. absurd (both_ways false refl e), λ e. d.1)

pub differs : (text : List ℕ) (at from : ℕ) → IsNumberStart text at from → not (from == at) ≡ true → from ≡ at + 1
differs text at from (inl m) h = m.1
differs text at from (inr d) h = absurd (both_ways (not (from == at)) (ap not (eq-eqb from at d.1)) h)

pub agrees : (text : List ℕ) (at from : ℕ) → IsNumberStart text at from → not (from == at) ≡ false → from ≡ at
agrees text at from n h = eqb-true from at (not_false (from == at) h)
  where
    not_false : (b : Bool) → not b ≡ false → b ≡ true
    not_false true h = refl
    not_false false h = absurd (both_ways true h refl)
