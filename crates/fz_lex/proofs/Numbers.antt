-- Numbers at a place.
use Rattle.std.proofs.Common.{◌≡◌, ◌≢◌, ℕ, ◌+◌, ◌<◌, ◌≤◌, ◌⊎◌, min, Bool, true, false, List, [], ◌∷◌, ◌++◌, length, slice_index, slice_range, subst, sym, ap, ◌∙◌, ◌||◌, ◌==◌, Option, Some, None, MatchOption, eq-eqb, eqb-true, true≢false, refl, inl, inr, arith}
use Rattle.std.specs.List.{list_all}
use Rattle.std.specs.Char.{is_ascii_digit, is_ascii_hexdigit}
use Rattle.std.proofs.lemmas.Bool.{cases_lt, both_ways}
use Rattle.std.proofs.lemmas.List.{get_or_past, append-nil}
use Rattle.fz_language.specs.Tokens.{AreDigits, IsExponent, IsTail, IsBased, is_octal_digit, digits_value}
use Rattle.fz_language.proofs.Bytes.{head_of, cons_from, split, slice_none, slice_length, slice_all_at, join}
use Rattle.fz_language.proofs.LexemeProofs.{clash}
use Rattle.fz_lex.specs.declared.run.DigitRun.{DigitRun}
use Rattle.fz_lex.specs.declared.run.TheConstants.{OVER}
use Rattle.fz_lex.specs.Steps.{IsRun, IsLongest, HasNone, HasNoBased, IsBasedAt, IsBehindSign}
use Rattle.fz_lex.proofs.Runs.{run_bound, run_exact, run_some, run_digits, two}

-- a byte that passes a test that 0 fails is one of the text
pub inside : (p : ℕ → Bool) (text : List ℕ) (at : ℕ) → p 0 ≡ false → p (slice_index text at) ≡ true → at < length text
inside p text at z t = elim (cases_lt at (length text)) [
  | inl l ↦ l
  | inr g ↦ absurd (clash p (slice_index text at) 0 (get_or_past text at 0 g) t z)
]

-- digits that stand somewhere begin with one
pub first_digit : (p : ℕ → Bool) (text : List ℕ) (start stop : ℕ) → stop ≤ length text → AreDigits p (slice_range text start stop) → (start < stop) × (p (slice_index text start) ≡ true)
first_digit p text start stop w d = elim (cases_lt start stop) [
  | inl l ↦ (l, slice_all_at p text start stop start w d.1 (omega arith) l)
  | inr g ↦ let e : length (slice_range text start stop) ≡ 0 = ap length (slice_none text start stop g) in absurd (omega (arith, d.0, e))
]

-- exponents

-- the parts of an exponent that stands at a place
pub record ExponentAt (text : List ℕ) (at end : ℕ) : Type 0 where
  pub letter : (slice_index text at ≡ 101) ⊎ (slice_index text at ≡ 69)
  pub from : ℕ
  pub sign : ((from ≡ at + 1) × (is_ascii_digit (slice_index text (at + 1)) ≡ true)) ⊎ ((from ≡ at + 2) × ((slice_index text (at + 1) ≡ 43) ⊎ (slice_index text (at + 1) ≡ 45)))
  pub digits : AreDigits is_ascii_digit (slice_range text from end)

letter_is : (text : List ℕ) (at e : ℕ) → slice_index text at ≡ e → (e ≡ 101) ⊎ (e ≡ 69) → (slice_index text at ≡ 101) ⊎ (slice_index text at ≡ 69)
letter_is text at e b (inl i) = inl (b ∙ i)
letter_is text at e b (inr i) = inr (b ∙ i)

signed : (text : List ℕ) (at end s e : ℕ) (ds : List ℕ) → end ≤ length text → (e ≡ 101) ⊎ (e ≡ 69) → AreDigits is_ascii_digit ds → (s ≡ 43) ⊎ (s ≡ 45) → slice_range text at end ≡ e ∷ s ∷ ds → ExponentAt text at end
signed text at end s e ds w l d i q =
    let h = head_of text at end e (s ∷ ds) w q in
    let k = head_of text (at + 1) end s ds w h.others in
    record {
      letter = letter_is text at e h.byte l;
      from = at + 2;
      sign = inr (refl, elim i [ inl a ↦ inl (k.byte ∙ a) | inr a ↦ inr (k.byte ∙ a) ]);
      digits = subst (λ (n : ℕ). AreDigits is_ascii_digit (slice_range text n end)) (two at) (subst (AreDigits is_ascii_digit) (sym k.others) d);
    }

pub exponent_at : (text : List ℕ) (at end : ℕ) → end ≤ length text → IsExponent (slice_range text at end) → ExponentAt text at end
exponent_at text at end w x = elim x.4 [
  | inl q ↦
      let h = head_of text at end x.0 x.1 w q in
      let d : AreDigits is_ascii_digit (slice_range text (at + 1) end) = subst (AreDigits is_ascii_digit) (sym h.others) x.3 in
      record { letter = letter_is text at x.0 h.byte x.2; from = at + 1; sign = inl (refl, (first_digit is_ascii_digit text (at + 1) end w d).1); digits = d }
  | inr r ↦ elim r [
    | inl q ↦ signed text at end 43 x.0 x.1 w x.2 x.3 (inl refl) q
    | inr q ↦ signed text at end 45 x.0 x.1 w x.2 x.3 (inr refl) q
  ]
]

-- its digits begin after the sign, if there is one
same_start : (text : List ℕ) (at from end : ℕ) → IsBehindSign text at from → (x : ExponentAt text at end) → x.from ≡ from
same_start text at from end b x = elim b [
  | inl s ↦ elim x.sign [
    | inl d ↦ elim s.0 [
      | inl e ↦ absurd (clash is_ascii_digit (slice_index text (at + 1)) 43 e d.1 refl)
      | inr e ↦ absurd (clash is_ascii_digit (slice_index text (at + 1)) 45 e d.1 refl)
    ]
    | inr d ↦ d.0 ∙ sym s.1
  ]
  | inr s ↦ elim x.sign [
    | inl d ↦ d.0 ∙ sym s.2
    | inr d ↦ elim d.1 [ inl e ↦ absurd (s.0 e) | inr e ↦ absurd (s.1 e) ]
  ]
]

pub no_letter : (text : List ℕ) (at : ℕ) → slice_index text at ≢ 101 → slice_index text at ≢ 69 → HasNone IsExponent text at
no_letter text at m n end w x = elim (exponent_at text at end w x).letter [ inl e ↦ m e | inr e ↦ n e ]

pub no_exponent : (text : List ℕ) (at from : ℕ) → IsBehindSign text at from → is_ascii_digit (slice_index text from) ≡ false → HasNone IsExponent text at
no_exponent text at from b f end w x =
    let y = exponent_at text at end w x in
    let s = same_start text at from end b y in
    let d : AreDigits is_ascii_digit (slice_range text from end) = subst (λ (n : ℕ). AreDigits is_ascii_digit (slice_range text n end)) s y.digits in
    both_ways (is_ascii_digit (slice_index text from)) f (first_digit is_ascii_digit text from end w d).1

pub longest_exponent : (text : List ℕ) (at from stop : ℕ) → (slice_index text at ≡ 101) ⊎ (slice_index text at ≡ 69) → IsBehindSign text at from → is_ascii_digit (slice_index text from) ≡ true → IsRun is_ascii_digit text from stop → IsLongest IsExponent text at stop
longest_exponent text at from stop l b t r =
    let w : from < length text = inside is_ascii_digit text from refl t in
    let some = run_some r w t in
    let d = run_digits r some in
    record {
      within = r.pass.within;
      is = (
        slice_index text at,
        slice_range text from stop,
        l,
        d,
        elim b [
          | inl s ↦ elim s.0 [
            | inl e ↦ inr (inl (cons_from text at stop _ _ (omega (arith, s.1)) r.pass.within refl (cons_from text (at + 1) stop 43 _ (omega (arith, s.1)) r.pass.within e (ap (λ (n : ℕ). slice_range text n stop) (two at ∙ sym s.1)))))
            | inr e ↦ inr (inr (cons_from text at stop _ _ (omega (arith, s.1)) r.pass.within refl (cons_from text (at + 1) stop 45 _ (omega (arith, s.1)) r.pass.within e (ap (λ (n : ℕ). slice_range text n stop) (two at ∙ sym s.1)))))
          ]
          | inr s ↦ inl (cons_from text at stop _ _ (omega (arith, s.2)) r.pass.within refl (ap (λ (n : ℕ). slice_range text n stop) (sym s.2)))
        ],
      );
      longest = λ end e x.
          let y = exponent_at text at end e x in
          run_bound end r e (subst (λ (n : ℕ). list_all is_ascii_digit (slice_range text n end) ≡ true) (same_start text at from end b y) y.digits.1);
    }

-- what stands after the digits of a float

-- a point with its digits, at a place
record PointAt (text : List ℕ) (at end : ℕ) : Type 0 where
  point : slice_index text at ≡ 46
  mid : ℕ
  high : mid ≤ end
  digits : AreDigits is_ascii_digit (slice_range text (at + 1) mid)
  others : (mid ≡ end) ⊎ IsExponent (slice_range text mid end)

no_length : (xs : List ℕ) → xs ≡ [] → length xs ≡ 0
no_length xs e = ap length e

point_at : (text : List ℕ) (at end : ℕ) → end ≤ length text → (part exponent : List ℕ) → slice_range text at end ≡ 46 ∷ (part ++ exponent) → AreDigits is_ascii_digit part → (exponent ≡ []) ⊎ IsExponent exponent → PointAt text at end
point_at text at end w part exponent q d x =
    let h = head_of text at end 46 (part ++ exponent) w q in
    let s = split text (at + 1) end part exponent (omega (arith, h.some)) w h.others in
    record {
      point = h.byte;
      mid = s.mid;
      high = s.high;
      digits = subst (AreDigits is_ascii_digit) (sym s.left) d;
      others = elim x [
        | inl e ↦ inl (let n = slice_length text s.mid end w in let z = no_length _ (s.right ∙ e) in omega (arith, s.high, n, z))
        | inr e ↦ inr (subst IsExponent (sym s.right) e)
      ];
    }

pub letter_no_digit : (b : ℕ) → (b ≡ 101) ⊎ (b ≡ 69) → is_ascii_digit b ≡ false
letter_no_digit b (inl e) = subst (λ (n : ℕ). is_ascii_digit n ≡ false) (sym e) refl
letter_no_digit b (inr e) = subst (λ (n : ℕ). is_ascii_digit n ≡ false) (sym e) refl

letter_no_point : (b : ℕ) → (b ≡ 101) ⊎ (b ≡ 69) → b ≡ 46 → ⊥
letter_no_point b (inl e) q = omega (arith, e, q)
letter_no_point b (inr e) q = omega (arith, e, q)

-- the digits end where the run of digits does, if an exponent follows
point_mid : (text : List ℕ) (at part end : ℕ) → end ≤ length text → IsRun is_ascii_digit text (at + 1) part → (y : PointAt text at end) → IsExponent (slice_range text y.mid end) → y.mid ≡ part
point_mid text at part end w r y x =
    let e = exponent_at text y.mid end w x in
    let d = first_digit is_ascii_digit text (at + 1) y.mid (omega (arith, y.high)) y.digits in
    run_exact y.mid r (omega (arith, d.0)) (omega (arith, y.high)) y.digits.1 (letter_no_digit (slice_index text y.mid) e.letter)

pub exponent_some : (text : List ℕ) (at end : ℕ) → end ≤ length text → IsExponent (slice_range text at end) → at < end
exponent_some text at end w x =
    let e = exponent_at text at end w x in
    let d = first_digit is_ascii_digit text e.from end w e.digits in
    elim e.sign [ inl s ↦ omega (arith, s.0, d.0) | inr s ↦ omega (arith, s.0, d.0) ]

pub point_tail : (text : List ℕ) (at part stop : ℕ) → slice_index text at ≡ 46 → IsRun is_ascii_digit text (at + 1) part → at + 1 < part → IsLongest IsExponent text part stop → IsLongest IsTail text at stop
point_tail text at part stop p r some x =
    let l = exponent_some text part stop x.within x.is in
    record {
      within = x.within;
      is = inl (
        slice_range text (at + 1) part,
        slice_range text part stop,
        cons_from text at stop 46 _ (omega (arith, l)) x.within p (sym (join text (at + 1) part stop (omega arith) (omega (arith, l)))),
        run_digits r some,
        inr x.is,
      );
      longest = λ end w t. elim t [
        | inl q ↦
            let y = point_at text at end w q.0 q.1 q.2 q.3 q.4 in
            elim y.others [
              | inl e ↦ let b = run_bound y.mid r (omega (arith, y.high)) y.digits.1 in omega (arith, b, e, l)
              | inr e ↦ x.longest end w (subst (λ (n : ℕ). IsExponent (slice_range text n end)) (point_mid text at part end w r y e) e)
            ]
        | inr q ↦ absurd (letter_no_point (slice_index text at) (exponent_at text at end w q).letter p)
      ];
    }

pub point_alone : (text : List ℕ) (at part : ℕ) → slice_index text at ≡ 46 → IsRun is_ascii_digit text (at + 1) part → at + 1 < part → HasNone IsExponent text part → IsLongest IsTail text at part
point_alone text at part p r some x = record {
  within = r.pass.within;
  is = inl (
    slice_range text (at + 1) part,
    [],
    cons_from text at part 46 _ (omega arith) r.pass.within p (sym (append-nil (slice_range text (at + 1) part))),
    run_digits r some,
    inl refl,
  );
  longest = λ end w t. elim t [
    | inl q ↦
        let y = point_at text at end w q.0 q.1 q.2 q.3 q.4 in
        elim y.others [
          | inl e ↦ let b = run_bound y.mid r (omega (arith, y.high)) y.digits.1 in omega (arith, b, e)
          | inr e ↦ absurd (x end w (subst (λ (n : ℕ). IsExponent (slice_range text n end)) (point_mid text at part end w r y e) e))
        ]
    | inr q ↦ absurd (letter_no_point (slice_index text at) (exponent_at text at end w q).letter p)
  ];
}

no_point : (text : List ℕ) (at end : ℕ) → end ≤ length text → (slice_index text at ≡ 46 → is_ascii_digit (slice_index text (at + 1)) ≡ false) → PointAt text at end → ⊥
no_point text at end w n y = both_ways (is_ascii_digit (slice_index text (at + 1))) (n y.point) (first_digit is_ascii_digit text (at + 1) y.mid (omega (arith, y.high)) y.digits).1

pub exponent_tail : (text : List ℕ) (at stop : ℕ) → (slice_index text at ≡ 46 → is_ascii_digit (slice_index text (at + 1)) ≡ false) → IsLongest IsExponent text at stop → IsLongest IsTail text at stop
exponent_tail text at stop n x = record {
  within = x.within;
  is = inr x.is;
  longest = λ end w t. elim t [ inl q ↦ absurd (no_point text at end w n (point_at text at end w q.0 q.1 q.2 q.3 q.4)) | inr q ↦ x.longest end w q ];
}

pub no_tail : (text : List ℕ) (at : ℕ) → (slice_index text at ≡ 46 → is_ascii_digit (slice_index text (at + 1)) ≡ false) → HasNone IsExponent text at → HasNone IsTail text at
no_tail text at n x end w t = elim t [ inl q ↦ no_point text at end w n (point_at text at end w q.0 q.1 q.2 q.3 q.4) | inr q ↦ x end w q ]

-- other bases

pub record OtherAt (p : ℕ → Bool) (letter : ℕ) (text : List ℕ) (from end : ℕ) : Type 0 where
  pub zero_is : slice_index text from ≡ 48
  pub letter_is : slice_index text (from + 1) ≡ letter
  pub digits : AreDigits p (slice_range text (from + 2) end)

other_at : (p : ℕ → Bool) (letter : ℕ) (text : List ℕ) (from end : ℕ) (ds : List ℕ) → end ≤ length text → slice_range text from end ≡ 48 ∷ letter ∷ ds → AreDigits p ds → OtherAt p letter text from end
other_at p letter text from end ds w q d =
    let h = head_of text from end 48 (letter ∷ ds) w q in
    let k = head_of text (from + 1) end letter ds w h.others in
    record {
      zero_is = h.byte;
      letter_is = k.byte;
      digits = subst (λ (n : ℕ). AreDigits p (slice_range text n end)) (two from) (subst (AreDigits p) (sym k.others) d);
    }

pub based_at : (n : ℕ) (text : List ℕ) (from end : ℕ) → end ≤ length text → IsBased n (slice_range text from end) → OtherAt is_ascii_hexdigit 120 text from end ⊎ OtherAt is_octal_digit 111 text from end
based_at n text from end w b = elim b [
  | inl q ↦ inl (other_at is_ascii_hexdigit 120 text from end q.0 w q.1 q.2)
  | inr q ↦ inr (other_at is_octal_digit 111 text from end q.0 w q.1 q.2)
]

-- a based number has one decimal digit, a zero
pub one_digit : (p : ℕ → Bool) (letter : ℕ) (text : List ℕ) (from whole end : ℕ) → IsRun is_ascii_digit text from whole → is_ascii_digit letter ≡ false → OtherAt p letter text from end → end ≤ length text → from + 1 ≡ whole
one_digit p letter text from whole end r f y w =
    let d = first_digit p text (from + 2) end w y.digits in
    let s : slice_range text from (from + 1) ≡ 48 ∷ [] = cons_from text from (from + 1) 48 [] (omega arith) (omega (arith, d.0)) y.zero_is (slice_none text (from + 1) (from + 1) (omega arith)) in
    let t : list_all is_ascii_digit (slice_range text from (from + 1)) ≡ true = ap (list_all is_ascii_digit) s in
    run_exact (from + 1) r (omega arith) (omega (arith, d.0)) t (subst (λ (b : ℕ). is_ascii_digit b ≡ false) (sym y.letter_is) f)

pub no_zero : (text : List ℕ) (from whole : ℕ) → IsRun is_ascii_digit text from whole → ((whole ≡ from + 1) → slice_index text from ≡ 48 → ⊥) → HasNoBased text from
no_zero text from whole r none n end w b = elim (based_at n text from end w b) [
  | inl y ↦ none (sym (one_digit is_ascii_hexdigit 120 text from whole end r refl y w)) y.zero_is
  | inr y ↦ none (sym (one_digit is_octal_digit 111 text from whole end r refl y w)) y.zero_is
]

pub no_base_letter : (text : List ℕ) (from : ℕ) → slice_index text (from + 1) ≢ 120 → slice_index text (from + 1) ≢ 111 → HasNoBased text from
no_base_letter text from m o n end w b = elim (based_at n text from end w b) [ inl y ↦ m y.letter_is | inr y ↦ o y.letter_is ]

differ : (b : ℕ) → b ≡ 120 → b ≡ 111 → ⊥
differ b e f = omega (arith, e, f)

pub no_hex : (text : List ℕ) (from : ℕ) → slice_index text (from + 1) ≡ 120 → is_ascii_hexdigit (slice_index text (from + 2)) ≡ false → HasNoBased text from
no_hex text from l f n end w b = elim (based_at n text from end w b) [
  | inl y ↦ both_ways (is_ascii_hexdigit (slice_index text (from + 2))) f (first_digit is_ascii_hexdigit text (from + 2) end w y.digits).1
  | inr y ↦ differ (slice_index text (from + 1)) l y.letter_is
]

pub no_octal : (text : List ℕ) (from : ℕ) → slice_index text (from + 1) ≡ 111 → is_octal_digit (slice_index text (from + 2)) ≡ false → HasNoBased text from
no_octal text from l f n end w b = elim (based_at n text from end w b) [
  | inl y ↦ differ (slice_index text (from + 1)) y.letter_is l
  | inr y ↦ both_ways (is_octal_digit (slice_index text (from + 2))) f (first_digit is_octal_digit text (from + 2) end w y.digits).1
]

prefixed : (letter : ℕ) (text : List ℕ) (from stop : ℕ) → slice_index text from ≡ 48 → slice_index text (from + 1) ≡ letter → from + 2 < stop → stop ≤ length text → slice_range text from stop ≡ 48 ∷ letter ∷ slice_range text (from + 2) stop
prefixed letter text from stop z l s w =
    cons_from text from stop 48 _ (omega arith) w z (cons_from text (from + 1) stop letter _ (omega arith) w l (ap (λ (n : ℕ). slice_range text n stop) (two from)))

pub hex_found : (text : List ℕ) (from : ℕ) (run : DigitRun) → slice_index text from ≡ 48 → slice_index text (from + 1) ≡ 120 → IsRun is_ascii_hexdigit text (from + 2) run.stop
    → is_ascii_hexdigit (slice_index text (from + 2)) ≡ true → run.value ≡ min (digits_value 16 (slice_range text (from + 2) run.stop)) OVER → IsBasedAt text from run
hex_found text from run z l r t v =
    let some = run_some r (inside is_ascii_hexdigit text (from + 2) refl t) t in
    record {
      within = r.pass.within;
      number = digits_value 16 (slice_range text (from + 2) run.stop);
      is = inl (slice_range text (from + 2) run.stop, prefixed 120 text from run.stop z l some r.pass.within, run_digits r some, refl);
      value = v;
      longest = λ n end w b. elim (based_at n text from end w b) [
        | inl y ↦ run_bound end r w y.digits.1
        | inr y ↦ absurd (differ (slice_index text (from + 1)) l y.letter_is)
      ];
    }

pub octal_found : (text : List ℕ) (from : ℕ) (run : DigitRun) → slice_index text from ≡ 48 → slice_index text (from + 1) ≡ 111 → IsRun is_octal_digit text (from + 2) run.stop
    → is_octal_digit (slice_index text (from + 2)) ≡ true → run.value ≡ min (digits_value 8 (slice_range text (from + 2) run.stop)) OVER → IsBasedAt text from run
octal_found text from run z l r t v =
    let some = run_some r (inside is_octal_digit text (from + 2) refl t) t in
    record {
      within = r.pass.within;
      number = digits_value 8 (slice_range text (from + 2) run.stop);
      is = inr (slice_range text (from + 2) run.stop, prefixed 111 text from run.stop z l some r.pass.within, run_digits r some, refl);
      value = v;
      longest = λ n end w b. elim (based_at n text from end w b) [
        | inl y ↦ absurd (differ (slice_index text (from + 1)) y.letter_is l)
        | inr y ↦ run_bound end r w y.digits.1
      ];
    }

-- what a call found, and what it means
pub match_map : {A : Type 0} {N M : Type 0} {P Q : A → Type 0} (r : Option A) → (N → M) → ((x : A) → P x → Q x) → MatchOption r N P → MatchOption r M Q
match_map None f g h = f h
match_map (Some x) f g h = g x h

pub letter_from : (b : ℕ) → ((b == 101) || (b == 69)) ≡ true → (b ≡ 101) ⊎ (b ≡ 69)
letter_from b h = either (b == 101) refl h
  where
    either : (c : Bool) → (b == 101) ≡ c → (c || (b == 69)) ≡ true → (b ≡ 101) ⊎ (b ≡ 69)
    either true e h = inl (eqb-true b 101 e)
    either false e h = inr (eqb-true b 69 h)

pub no_letter_from : (b : ℕ) → ((b == 101) || (b == 69)) ≡ false → (b ≢ 101) × (b ≢ 69)
no_letter_from b h = (λ e. absurd (true≢false (sym (ap (λ (c : Bool). c || (b == 69)) (eq-eqb b 101 e)) ∙ h)), λ e. absurd (true≢false (sym (or_right (b == 101) (b == 69) (eq-eqb b 69 e)) ∙ h)))
  where
    or_right : (c d : Bool) → d ≡ true → (c || d) ≡ true
    or_right true d e = refl
    or_right false d e = e
