-- The number at a place is a token.
use Rattle.std.proofs.Common.{◌≡◌, ◌≢◌, ℕ, ℤ, ◌+◌, ◌<◌, ◌≤◌, ◌⊎◌, min, Bool, true, false, List, [], ◌∷◌, ◌++◌, length, slice_index, slice_range, subst, sym, ap, ◌∙◌, refl, inl, inr, arith}
use Rattle.std.specs.Char.{is_ascii_digit}
use Rattle.std.proofs.lemmas.Bool.{cases_lt}
use Rattle.fz_language.specs.Tokens.{AreDigits, IsTail, IsNatural, IsPlainFloat, IsFloat, IsNumber, digits_value}
use Rattle.fz_language.proofs.Bytes.{head_of, cons_from, split, join, slice_none}
use Rattle.fz_language.proofs.LexemeProofs.{clash}
use Rattle.fz_lex.specs.declared.run.DigitRun.{DigitRun}
use Rattle.fz_lex.specs.declared.run.TheConstants.{OVER}
use Rattle.fz_lex.specs.Steps.{IsRun, IsLongest, HasNone, IsNaturalAt, IsNumberStart, signed_of}
use Rattle.fz_lex.proofs.Runs.{run_bound, run_exact, run_digits}
use Rattle.fz_lex.proofs.Numbers.{first_digit, exponent_at, exponent_some, based_at, one_digit, letter_no_digit}

-- what begins with a digit

pub natural_first : (n : ℕ) (text : List ℕ) (from end : ℕ) → end ≤ length text → IsNatural n (slice_range text from end) → is_ascii_digit (slice_index text from) ≡ true
natural_first n text from end w b = elim b [
  | inl d ↦ (first_digit is_ascii_digit text from end w d.0).1
  | inr o ↦ elim (based_at n text from end w o) [
    | inl y ↦ subst (λ (b : ℕ). is_ascii_digit b ≡ true) (sym y.zero_is) refl
    | inr y ↦ subst (λ (b : ℕ). is_ascii_digit b ≡ true) (sym y.zero_is) refl
  ]
]

-- the digits of a float, and what stands after them
record FloatAt (text : List ℕ) (from end : ℕ) : Type 0 where
  mid : ℕ
  low : from < mid
  high : mid ≤ end
  digits : AreDigits is_ascii_digit (slice_range text from mid)
  tail : IsTail (slice_range text mid end)

no_digits : AreDigits is_ascii_digit [] → ⊥
no_digits d = omega (arith, d.0)

float_ordered : (text : List ℕ) (from end : ℕ) → IsPlainFloat (slice_range text from end) → from ≤ end
float_ordered text from end f = elim (cases_lt end from) [
  | inl l ↦ absurd (no_whole f.0 f.1 f.3 (sym (slice_none text from end (omega arith)) ∙ f.2))
  | inr g ↦ g
]
  where
    no_whole : (whole tail : List ℕ) → AreDigits is_ascii_digit whole → [] ≡ whole ++ tail → ⊥
    no_whole [] tail d e = no_digits d
    no_whole (x ∷ whole) tail d e = cc

float_at : (text : List ℕ) (from end : ℕ) → end ≤ length text → IsPlainFloat (slice_range text from end) → FloatAt text from end
float_at text from end w f =
    let s = split text from end f.0 f.1 (float_ordered text from end f) w f.2 in
    let d : AreDigits is_ascii_digit (slice_range text from s.mid) = subst (AreDigits is_ascii_digit) (sym s.left) f.3 in
    record {
      mid = s.mid;
      low = (first_digit is_ascii_digit text from s.mid (omega (arith, s.high)) d).0;
      high = s.high;
      digits = d;
      tail = subst IsTail (sym s.right) f.4;
    }

pub float_first : (text : List ℕ) (from end : ℕ) → end ≤ length text → IsPlainFloat (slice_range text from end) → is_ascii_digit (slice_index text from) ≡ true
float_first text from end w f = let y = float_at text from end w f in (first_digit is_ascii_digit text from y.mid (omega (arith, y.high)) y.digits).1

-- what begins a tail: no digit, and no letter of another base
record TailFirst (text : List ℕ) (at end : ℕ) : Type 0 where
  some : at < end
  no_digit : is_ascii_digit (slice_index text at) ≡ false
  no_hex : slice_index text at ≢ 120
  no_octal : slice_index text at ≢ 111

letter_first : (b : ℕ) → (b ≡ 101) ⊎ (b ≡ 69) → (b ≢ 120) × (b ≢ 111)
letter_first b (inl e) = (λ q. omega (arith, e, q), λ q. omega (arith, e, q))
letter_first b (inr e) = (λ q. omega (arith, e, q), λ q. omega (arith, e, q))

tail_first : (text : List ℕ) (at end : ℕ) → end ≤ length text → IsTail (slice_range text at end) → TailFirst text at end
tail_first text at end w t = elim t [
  | inl q ↦
      let h = head_of text at end 46 (q.0 ++ q.1) w q.2 in
      record { some = h.some; no_digit = ap is_ascii_digit h.byte; no_hex = λ e. omega (arith, h.byte, e); no_octal = λ e. omega (arith, h.byte, e) }
  | inr x ↦
      let l = (exponent_at text at end w x).letter in
      let n = letter_first (slice_index text at) l in
      record { some = exponent_some text at end w x; no_digit = letter_no_digit (slice_index text at) l; no_hex = n.0; no_octal = n.1 }
]

-- the sign

pub behind_minus : (P : List ℕ → Type 0) (text : List ℕ) (at from end : ℕ) → ((a : ℕ) → P (slice_range text a end) → is_ascii_digit (slice_index text a) ≡ true) → end ≤ length text → IsNumberStart text at from
    → P (slice_range text at end) ⊎ ((ns : List ℕ) × (slice_range text at end ≡ 45 ∷ ns) × P ns) → P (slice_range text from end)
behind_minus P text at from end first w start x = elim start [
  | inl m ↦ elim x [
    | inl p ↦ absurd (clash is_ascii_digit (slice_index text at) 45 m.0 (first at p) refl)
    | inr q ↦ let h = head_of text at end 45 q.0 w q.1 in subst (λ (n : ℕ). P (slice_range text n end)) (sym m.1) (subst P (sym h.others) q.2)
  ]
  | inr d ↦ elim x [
    | inl p ↦ subst (λ (n : ℕ). P (slice_range text n end)) (sym d.1) p
    | inr q ↦ let h = head_of text at end 45 q.0 w q.1 in absurd (clash is_ascii_digit (slice_index text at) 45 h.byte d.0 refl)
  ]
]

pub with_minus : (P : List ℕ → Type 0) (text : List ℕ) (at from stop : ℕ) → from < stop → stop ≤ length text → IsNumberStart text at from → P (slice_range text from stop)
    → P (slice_range text at stop) ⊎ ((ns : List ℕ) × (slice_range text at stop ≡ 45 ∷ ns) × P ns)
with_minus P text at from stop some w start p = elim start [
  | inl m ↦ inr (slice_range text from stop, cons_from text at stop 45 _ (omega (arith, m.1)) w m.0 (ap (λ (n : ℕ). slice_range text n stop) (sym m.1)), p)
  | inr d ↦ inl (subst (λ (n : ℕ). P (slice_range text n stop)) d.1 p)
]

-- a number without its sign: a natural number or a float
abbrev pub Parts : List ℕ → ℕ → ℕ → Type 0
Parts text from end = ((n : ℕ) × IsNatural n (slice_range text from end)) ⊎ IsPlainFloat (slice_range text from end)

pub number_parts : (v : ℤ) (text : List ℕ) (at from end : ℕ) → end ≤ length text → IsNumberStart text at from → IsNumber v (slice_range text at end) → (n : ℕ) × IsNatural n (slice_range text from end)
number_parts v text at from end w start x =
    behind_minus (λ bs. (n : ℕ) × IsNatural n bs) text at from end (λ a p. natural_first p.0 text a end w p.1) w start
    (elim x [ inl p ↦ inl (p.0, p.1) | inr p ↦ inr (p.1, p.2, (p.0, p.3)) ])

pub float_parts : (text : List ℕ) (at from end : ℕ) → end ≤ length text → IsNumberStart text at from → IsFloat (slice_range text at end) → IsPlainFloat (slice_range text from end)
float_parts text at from end w start x = behind_minus IsPlainFloat text at from end (λ a p. float_first text a end w p) w start x

-- where a tail stands after the digits, the float is the longest
pub float_longest : (text : List ℕ) (from whole stop end : ℕ) → IsRun is_ascii_digit text from whole → IsLongest IsTail text whole stop → end ≤ length text → Parts text from end → end ≤ stop
float_longest text from whole stop end r t w x =
    let f = tail_first text whole stop t.within t.is in
    elim x [
      | inl p ↦ elim p.1 [
        | inl d ↦ let b = run_bound end r w d.0.1 in omega (arith, b, f.some)
        | inr o ↦ elim (based_at p.0 text from end w o) [
          | inl y ↦ absurd (f.no_hex (ap (λ (n : ℕ). slice_index text n) (sym (one_digit _ 120 text from whole end r refl y w)) ∙ y.letter_is))
          | inr y ↦ absurd (f.no_octal (ap (λ (n : ℕ). slice_index text n) (sym (one_digit _ 111 text from whole end r refl y w)) ∙ y.letter_is))
        ]
      ]
      | inr p ↦
          let y = float_at text from end w p in
          let g = tail_first text y.mid end w y.tail in
          let e = run_exact y.mid r (omega (arith, y.low)) (omega (arith, y.high)) y.digits.1 g.no_digit in
          t.longest end w (subst (λ (n : ℕ). IsTail (slice_range text n end)) e y.tail)
    ]

-- where none does, the natural number is
pub natural_longest : (text : List ℕ) (from : ℕ) (whole run : DigitRun) (end : ℕ) → IsRun is_ascii_digit text from whole.stop → HasNone IsTail text whole.stop → IsNaturalAt text from whole run → end ≤ length text → Parts text from end → end ≤ run.stop
natural_longest text from whole run end r t nat w x = elim x [
  | inl p ↦ elim p.1 [
    | inl d ↦
        let b = run_bound end r w d.0.1 in
        elim nat [
          | inl o ↦
              let e : from + 1 ≡ whole.stop = elim (based_at o.number text from run.stop o.within o.is) [
                | inl y ↦ one_digit _ 120 text from whole.stop run.stop r refl y o.within
                | inr y ↦ one_digit _ 111 text from whole.stop run.stop r refl y o.within
              ] in
              let m : from + 2 < run.stop = elim (based_at o.number text from run.stop o.within o.is) [
                | inl y ↦ (first_digit _ text (from + 2) run.stop o.within y.digits).0
                | inr y ↦ (first_digit _ text (from + 2) run.stop o.within y.digits).0
              ] in
              omega (arith, b, e, m)
          | inr o ↦ subst (λ (u : DigitRun). end ≤ u.stop) (sym o.0) b
        ]
    | inr o ↦ elim nat [
      | inl q ↦ q.longest p.0 end w o
      | inr q ↦ absurd (q.1 p.0 end w o)
    ]
  ]
  | inr p ↦
      let y = float_at text from end w p in
      let g = tail_first text y.mid end w y.tail in
      let e = run_exact y.mid r (omega (arith, y.low)) (omega (arith, y.high)) y.digits.1 g.no_digit in
      absurd (t end w (subst (λ (n : ℕ). IsTail (slice_range text n end)) e y.tail))
]

-- what is found is a number

pub float_is : (text : List ℕ) (at from whole stop : ℕ) → IsNumberStart text at from → IsRun is_ascii_digit text from whole → from < whole → IsLongest IsTail text whole stop → IsFloat (slice_range text at stop)
float_is text at from whole stop start r some t =
    let f = tail_first text whole stop t.within t.is in
    with_minus IsPlainFloat text at from stop (omega (arith, f.some)) t.within start
    (slice_range text from whole, slice_range text whole stop, sym (join text from whole stop (omega arith) (omega (arith, f.some))), run_digits r some, t.is)

-- a natural number that is found, with its value
pub record NaturalFound (text : List ℕ) (from : ℕ) (run : DigitRun) : Type 0 where
  pub number : ℕ
  pub some : from < run.stop
  pub within : run.stop ≤ length text
  pub is : IsNatural number (slice_range text from run.stop)
  pub value : run.value ≡ min number OVER

pub natural_found : (text : List ℕ) (from : ℕ) (whole run : DigitRun) → IsRun is_ascii_digit text from whole.stop → from < whole.stop → whole.value ≡ min (digits_value 10 (slice_range text from whole.stop)) OVER → IsNaturalAt text from whole run → NaturalFound text from run
natural_found text from whole run r some v nat = elim nat [
  | inl o ↦ record {
    number = o.number;
    some = elim (based_at o.number text from run.stop o.within o.is) [
      | inl y ↦ let m = (first_digit _ text (from + 2) run.stop o.within y.digits).0 in omega (arith, m)
      | inr y ↦ let m = (first_digit _ text (from + 2) run.stop o.within y.digits).0 in omega (arith, m)
    ];
    within = o.within;
    is = inr o.is;
    value = o.value;
  }
  | inr o ↦ subst (NaturalFound text from) (sym o.0) (record {
    number = digits_value 10 (slice_range text from whole.stop);
    some = some;
    within = r.pass.within;
    is = inl (run_digits r some, refl);
    value = v;
  })
]

pub number_is : (text : List ℕ) (at from stop n : ℕ) (negative : Bool) → from < stop → stop ≤ length text → IsNumberStart text at from → (negative ≡ true → from ≡ at + 1) → (negative ≡ false → from ≡ at) → IsNatural n (slice_range text from stop)
    → IsNumber (signed_of negative n) (slice_range text at stop)
number_is text at from stop n true some w start m d p = elim start [
  | inl q ↦ inr (n, slice_range text from stop, cons_from text at stop 45 _ (omega (arith, q.1)) w q.0 (ap (λ (k : ℕ). slice_range text k stop) (sym q.1)), p, refl)
  | inr q ↦ absurd (let e = m refl in omega (arith, e, q.1))
]
number_is text at from stop n false some w start m d p = inl (n, subst (λ (k : ℕ). IsNatural n (slice_range text k stop)) (d refl) p, refl)
