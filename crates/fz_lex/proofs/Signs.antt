-- Signs at a place.
use Rattle.std.proofs.Common.{◌≡◌, ◌≢◌, ℕ, zero, suc, ◌+◌, ◌<◌, ◌≤◌, ◌⊎◌, true, false, List, length, slice_index, slice_range, get_or, subst, sym, ap, ◌∙◌, refl, inl, inr, arith, add-zero}
use Rattle.std.proofs.lemmas.Bool.{cases_lt}
use Rattle.std.proofs.lemmas.List.{get_or_past, ext_get_or}
use Rattle.std.specs.Char.{is_ascii_digit}
use Rattle.fz_language.specs.declared.sign.Sign.{Sign}
use Rattle.fz_language.specs.declared.sign.Sign.TheVariants.{Semicolon, Colon, DoubleColon, Comma, LeftParenthesis, RightParenthesis, LeftBracket, RightBracket, LeftBrace, RightBrace, Equals, DoubleDot}
use Rattle.fz_language.specs.Tokens.{is_blank, is_word_start, sign_bytes}
use Rattle.fz_language.proofs.Bytes.{slice_at, slice_length}
use Rattle.fz_lex.specs.Steps.{FitsSign, begins_sign}

-- signs, by their first byte and their length

abbrev pub sign_first : Sign → ℕ
sign_first s = slice_index (sign_bytes s) 0

abbrev pub sign_length : Sign → ℕ
sign_length s = length (sign_bytes s)

abbrev pub BytesOfSign : Sign → Type 0
BytesOfSign s = (is_word_start (sign_first s) ≡ false) × (is_ascii_digit (sign_first s) ≡ false) × (is_blank (sign_first s) ≡ false) × (sign_first s ≢ 45) × (sign_first s ≢ 34) × (0 < sign_length s) × (sign_length s ≤ 2)

pub bytes_of_sign : (s : Sign) → BytesOfSign s
bytes_of_sign Semicolon = (refl, refl, refl, omega arith, omega arith, omega arith, omega arith)
bytes_of_sign Colon = (refl, refl, refl, omega arith, omega arith, omega arith, omega arith)
bytes_of_sign DoubleColon = (refl, refl, refl, omega arith, omega arith, omega arith, omega arith)
bytes_of_sign Comma = (refl, refl, refl, omega arith, omega arith, omega arith, omega arith)
bytes_of_sign LeftParenthesis = (refl, refl, refl, omega arith, omega arith, omega arith, omega arith)
bytes_of_sign RightParenthesis = (refl, refl, refl, omega arith, omega arith, omega arith, omega arith)
bytes_of_sign LeftBracket = (refl, refl, refl, omega arith, omega arith, omega arith, omega arith)
bytes_of_sign RightBracket = (refl, refl, refl, omega arith, omega arith, omega arith, omega arith)
bytes_of_sign LeftBrace = (refl, refl, refl, omega arith, omega arith, omega arith, omega arith)
bytes_of_sign RightBrace = (refl, refl, refl, omega arith, omega arith, omega arith, omega arith)
bytes_of_sign Equals = (refl, refl, refl, omega arith, omega arith, omega arith, omega arith)
bytes_of_sign DoubleDot = (refl, refl, refl, omega arith, omega arith, omega arith, omega arith)

-- one byte, but for `::` and `..`
abbrev ShapeOfSign : Sign → Type 0
ShapeOfSign s = ((sign_first s ≢ 58) × (sign_first s ≢ 46) × (sign_length s ≡ 1)) ⊎ ((s ≡ Colon) ⊎ ((s ≡ DoubleColon) ⊎ (s ≡ DoubleDot)))

shape_of_sign : (s : Sign) → ShapeOfSign s
shape_of_sign Semicolon = inl (omega arith, omega arith, refl)
shape_of_sign Colon = inr (inl refl)
shape_of_sign DoubleColon = inr (inr (inl refl))
shape_of_sign Comma = inl (omega arith, omega arith, refl)
shape_of_sign LeftParenthesis = inl (omega arith, omega arith, refl)
shape_of_sign RightParenthesis = inl (omega arith, omega arith, refl)
shape_of_sign LeftBracket = inl (omega arith, omega arith, refl)
shape_of_sign RightBracket = inl (omega arith, omega arith, refl)
shape_of_sign LeftBrace = inl (omega arith, omega arith, refl)
shape_of_sign RightBrace = inl (omega arith, omega arith, refl)
shape_of_sign Equals = inl (omega arith, omega arith, refl)
shape_of_sign DoubleDot = inr (inr (inr refl))

-- the sign's bytes stand in the text
pub record IsSignAt (s : Sign) (text : List ℕ) (start stop : ℕ) : Type 0 where
  pub size : stop ≡ start + sign_length s
  pub bytes : (k : ℕ) → start + k < stop → slice_index text (start + k) ≡ slice_index (sign_bytes s) k

pub sign_at : (s : Sign) (text : List ℕ) (start stop : ℕ) → stop ≤ length text → slice_range text start stop ≡ sign_bytes s → IsSignAt s text start stop
sign_at s text start stop w h =
    let n = slice_length text start stop w in
    let e : length (slice_range text start stop) ≡ sign_length s = ap length h in
    let m : 0 < sign_length s = (bytes_of_sign s).5 in
    record {
      size = omega arith;
      bytes = λ k l. sym (slice_at text start stop k l) ∙ ap (λ xs. get_or xs k 0) h;
    }

pub sign_starts : (s : Sign) (text : List ℕ) (start stop : ℕ) → IsSignAt s text start stop → (start < stop) × (slice_index text start ≡ sign_first s)
sign_starts s text start stop h =
    let m : 0 < sign_length s = (bytes_of_sign s).5 in
    (omega (arith, h.size), sym (ap (λ n. get_or text n 0) (add-zero start)) ∙ h.bytes 0 (omega (arith, h.size)))

-- of signs that begin alike only `:` is shorter than another
longer_sign : (s t : Sign) → sign_first s ≡ sign_first t → (sign_length t ≤ sign_length s) ⊎ ((s ≡ Colon) × (t ≡ DoubleColon))
longer_sign s t e =
    elim (shape_of_sign s) [
      | inl a ↦ elim (shape_of_sign t) [
        | inl b ↦ inl (omega (arith, a.2, b.2))
        | inr b ↦ elim b [
          | inl c ↦ absurd (a.0 (e ∙ ap sign_first c))
          | inr c ↦ elim c [
            | inl d ↦ absurd (a.0 (e ∙ ap sign_first d))
            | inr d ↦ absurd (a.1 (e ∙ ap sign_first d))
          ]
        ]
      ]
      | inr a ↦ elim a [
        | inl b ↦ elim (shape_of_sign t) [
          | inl c ↦ inl (omega (arith, c.2, (bytes_of_sign s).5))
          | inr c ↦ elim c [
            | inl d ↦ inl (omega (arith, ap sign_length d, (bytes_of_sign s).5))
            | inr d ↦ elim d [
              | inl f ↦ inr (b, f)
              | inr f ↦ absurd (let x : 58 ≡ 46 = sym (ap sign_first b) ∙ e ∙ ap sign_first f in omega (arith, x))
            ]
          ]
        ]
        | inr b ↦ elim b [
          | inl c ↦ inl (omega (arith, (bytes_of_sign t).6, ap sign_length c))
          | inr c ↦ inl (omega (arith, (bytes_of_sign t).6, ap sign_length c))
        ]
      ]
    ]

-- the longest sign

pub sign_longest_sign : (s t : Sign) (text : List ℕ) (start stop end : ℕ) → IsSignAt s text start stop → IsSignAt t text start end → (s ≡ Colon → slice_index text stop ≢ 58) → stop < end → ⊥
sign_longest_sign s t text start stop end h i next l =
    let e : sign_first s ≡ sign_first t =
    sym (sign_starts s text start stop h).1 ∙ (sign_starts t text start end i).1 in
    elim (longer_sign s t e) [
      | inl a ↦ omega (arith, h.size, i.size)
      | inr a ↦
          let m : stop ≡ start + 1 = h.size ∙ ap (λ x. start + sign_length x) a.0 in
          next a.0 (ap (λ n. get_or text n 0) m ∙ i.bytes 1 (omega arith) ∙ ap (λ x. slice_index (sign_bytes x) 1) a.1)
    ]

pub sign_begins : (s : Sign) → (begins_sign (sign_first s) ≡ true) ⊎ (s ≡ DoubleDot)
sign_begins Semicolon = inl refl
sign_begins Colon = inl refl
sign_begins DoubleColon = inl refl
sign_begins Comma = inl refl
sign_begins LeftParenthesis = inl refl
sign_begins RightParenthesis = inl refl
sign_begins LeftBracket = inl refl
sign_begins RightBracket = inl refl
sign_begins LeftBrace = inl refl
sign_begins RightBrace = inl refl
sign_begins Equals = inl refl
sign_begins DoubleDot = inr refl

second_is_some : (s : Sign) → 1 < sign_length s → slice_index (sign_bytes s) 1 ≢ 0
second_is_some Semicolon h = absurd (omega arith)
second_is_some Colon h = absurd (omega arith)
second_is_some DoubleColon h = omega arith
second_is_some Comma h = absurd (omega arith)
second_is_some LeftParenthesis h = absurd (omega arith)
second_is_some RightParenthesis h = absurd (omega arith)
second_is_some LeftBracket h = absurd (omega arith)
second_is_some RightBracket h = absurd (omega arith)
second_is_some LeftBrace h = absurd (omega arith)
second_is_some RightBrace h = absurd (omega arith)
second_is_some Equals h = absurd (omega arith)
second_is_some DoubleDot h = omega arith

pub sign_within : (s : Sign) (text : List ℕ) (at : ℕ) → at < length text → FitsSign s (slice_index text at) (slice_index text (at + 1)) → at + sign_length s ≤ length text
sign_within s text at w h =
    let some : 0 < sign_length s = (bytes_of_sign s).5 in
    let few : sign_length s ≤ 2 = (bytes_of_sign s).6 in
    elim (cases_lt 1 (sign_length s)) [
      | inl l ↦ elim (cases_lt (at + 1) (length text)) [
        | inl m ↦ omega arith
        | inr g ↦ absurd (second_is_some s l (sym (h.goes_on l) ∙ get_or_past text (at + 1) 0 g))
      ]
      | inr g ↦ omega arith
    ]

sign_byte : (s : Sign) (text : List ℕ) (at : ℕ) → FitsSign s (slice_index text at) (slice_index text (at + 1)) → (k : ℕ) → k < sign_length s → slice_index text (at + k) ≡ slice_index (sign_bytes s) k
sign_byte s text at h zero l = ap (λ n. get_or text n 0) (add-zero at) ∙ h.begins
sign_byte s text at h (suc zero) l = h.goes_on l
sign_byte s text at h (suc (suc k)) l = absurd (omega (arith, (bytes_of_sign s).6))

pub sign_stands : (s : Sign) (text : List ℕ) (at : ℕ) → at < length text → FitsSign s (slice_index text at) (slice_index text (at + 1)) → slice_range text at (at + sign_length s) ≡ sign_bytes s
sign_stands s text at w h =
    let stop = at + sign_length s in
    let n = slice_length text at stop (sign_within s text at w h) in
    ext_get_or 0 (slice_range text at stop) (sign_bytes s) (omega arith) (λ k l.
    slice_at text at stop k (omega arith) ∙ sign_byte s text at h k (omega arith))

pub colon_alone : (s : Sign) (text : List ℕ) (at : ℕ) → (s ≡ Colon → slice_index text (at + 1) ≢ 58) → s ≡ Colon → slice_index text (at + sign_length s) ≢ 58
colon_alone s text at h e = subst (λ (n : ℕ). slice_index text (at + n) ≢ 58) (sym (ap sign_length e)) (h e)
