-- Runs of bytes that pass a test.
use Rattle.std.proofs.Common.{◌≡◌, ℕ, ◌+◌, ◌*◌, ◌<◌, ◌≤◌, ◌⊎◌, min, Bool, true, false, List, [], ◌∷◌, ◌++◌, length, slice_index, slice_range, subst, sym, ap, ◌∙◌, refl, inl, inr, arith}
use Rattle.std.specs.List.{list_all}
use Rattle.std.proofs.lemmas.Bool.{cases_lt, both_ways}
use Rattle.std.proofs.lemmas.List.Sums.{fold_push}
use Rattle.fz_language.specs.Tokens.{digits_value, digit_value, AreDigits}
use Rattle.fz_language.proofs.Bytes.{slice_more, slice_length, all_of_slice, slice_all_at}
use Rattle.fz_lex.specs.declared.run.Radix.{Radix}
use Rattle.fz_lex.specs.declared.run.Radix.TheVariants.{Decimal, Hexadecimal, Octal}
use Rattle.fz_lex.specs.Steps.{Passes, IsRun, radix_of}

pub two : (at : ℕ) → (at + 1) + 1 ≡ at + 2
two at = omega arith

pub passes_none : (p : ℕ → Bool) (text : List ℕ) (at : ℕ) → at ≤ length text → Passes p text at at
passes_none p text at w = record { ordered = omega arith; within = w; each = λ k a b. absurd (omega arith) }

pub passes_more : (p : ℕ → Bool) (text : List ℕ) (start stop : ℕ) → stop < length text → p (slice_index text stop) ≡ true → Passes p text start stop → Passes p text start (stop + 1)
passes_more p text start stop w t h = record {
  ordered = omega (arith, h.ordered);
  within = omega arith;
  each = λ k a b. elim (cases_lt k stop) [
    | inl l ↦ h.each k a l
    | inr g ↦
        let e : stop ≡ k = omega arith in
        subst (λ (n : ℕ). p (slice_index text n) ≡ true) e t
  ];
}

digits_value_more : (base : ℕ) (ds : List ℕ) (d : ℕ) → digits_value base (ds ++ d ∷ []) ≡ base * digits_value base ds + digit_value d
digits_value_more base ds d = fold_push (λ n x. base * n + digit_value x) 0 ds d

-- the value so far, or the limit where it is greater, with one more digit
capped10 : (n d limit : ℕ) → min (10 * min n limit + d) limit ≡ min (10 * n + d) limit
capped10 n d limit = omega arith

capped16 : (n d limit : ℕ) → min (16 * min n limit + d) limit ≡ min (16 * n + d) limit
capped16 n d limit = omega arith

capped8 : (n d limit : ℕ) → min (8 * min n limit + d) limit ≡ min (8 * n + d) limit
capped8 n d limit = omega arith

pub capped : (base n d limit : ℕ) → (base ≡ 10) ⊎ ((base ≡ 16) ⊎ (base ≡ 8)) → min (base * min n limit + d) limit ≡ min (base * n + d) limit
capped base n d limit (inl e) = subst (λ (b : ℕ). min (b * min n limit + d) limit ≡ min (b * n + d) limit) (sym e) (capped10 n d limit)
capped base n d limit (inr (inl e)) = subst (λ (b : ℕ). min (b * min n limit + d) limit ≡ min (b * n + d) limit) (sym e) (capped16 n d limit)
capped base n d limit (inr (inr e)) = subst (λ (b : ℕ). min (b * min n limit + d) limit ≡ min (b * n + d) limit) (sym e) (capped8 n d limit)

pub value_more : (base : ℕ) (text : List ℕ) (start stop value limit : ℕ) → (base ≡ 10) ⊎ ((base ≡ 16) ⊎ (base ≡ 8)) → start ≤ stop → stop < length text
    → value ≡ min (digits_value base (slice_range text start stop)) limit
    → min (base * value + digit_value (slice_index text stop)) limit ≡ min (digits_value base (slice_range text start (stop + 1))) limit
value_more base text start stop value limit b o w e =
    ap (λ v. min (base * v + digit_value (slice_index text stop)) limit) e
    ∙ capped base (digits_value base (slice_range text start stop)) (digit_value (slice_index text stop)) limit b
    ∙ ap (λ v. min v limit) (sym (digits_value_more base (slice_range text start stop) (slice_index text stop)) ∙ sym (ap (digits_value base) (slice_more text start stop o w)))

-- bytes that all pass reach no further than the run
pub run_bound : {p : ℕ → Bool} {text : List ℕ} {from stop : ℕ} (end : ℕ) → IsRun p text from stop → end ≤ length text → list_all p (slice_range text from end) ≡ true → end ≤ stop
run_bound {p} {text} {from} {stop} end r w h = elim (cases_lt stop end) [
  | inl l ↦ elim r.ends [
    | inl e ↦ absurd (omega (arith, e))
    | inr f ↦ absurd (both_ways (p (slice_index text stop)) f (slice_all_at p text from end stop w h r.pass.ordered l))
  ]
  | inr g ↦ g
]

-- and end where it does if the next byte fails
pub run_exact : {p : ℕ → Bool} {text : List ℕ} {from stop : ℕ} (end : ℕ) → IsRun p text from stop → from ≤ end → end ≤ length text → list_all p (slice_range text from end) ≡ true → p (slice_index text end) ≡ false → end ≡ stop
run_exact {p} {text} {from} {stop} end r o w h f =
    let b = run_bound end r w h in
    elim (cases_lt end stop) [
      | inl l ↦ absurd (both_ways (p (slice_index text end)) f (r.pass.each end o l))
      | inr g ↦ omega arith
    ]

-- the bytes of a run
pub run_all : {p : ℕ → Bool} {text : List ℕ} {from stop : ℕ} → IsRun p text from stop → list_all p (slice_range text from stop) ≡ true
run_all {p} {text} {from} {stop} r = all_of_slice p text from stop r.pass.within r.pass.each

-- a run that begins with a byte that passes has some
pub run_some : {p : ℕ → Bool} {text : List ℕ} {from stop : ℕ} → IsRun p text from stop → from < length text → p (slice_index text from) ≡ true → from < stop
run_some {p} {text} {from} {stop} r w t = elim (cases_lt from stop) [
  | inl l ↦ l
  | inr g ↦
      let e : stop ≡ from = omega (arith, r.pass.ordered) in
      elim r.ends [
        | inl f ↦ absurd (omega (arith, e, f))
        | inr f ↦ absurd (both_ways (p (slice_index text stop)) f (subst (λ (n : ℕ). p (slice_index text n) ≡ true) (sym e) t))
      ]
]

pub run_digits : {p : ℕ → Bool} {text : List ℕ} {from stop : ℕ} → IsRun p text from stop → from < stop → AreDigits p (slice_range text from stop)
run_digits {p} {text} {from} {stop} r l =
    let n = slice_length text from stop r.pass.within in
    (omega arith, run_all r)

pub bases : (r : Radix) → (radix_of r ≡ 10) ⊎ ((radix_of r ≡ 16) ⊎ (radix_of r ≡ 8))
bases Decimal = inl refl
bases Hexadecimal = inr (inl refl)
bases Octal = inr (inr refl)
