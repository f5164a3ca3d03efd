-- What `parse` of a number says, as the definitions say it.
use Rattle.std.proofs.Common.{◌≡◌, ◌≤◌, ◌<◌, ◌^◌, ℕ, Bool, true, false, cond, List, Some, None, refl, arith}
use Rattle.std.specs.Prelude.{ℤ, ◌≤ℤ◌, FitsSigned}
use Rattle.std.specs.Int.{w64}
use Rattle.std.specs.Str.Parse.{IsNumeral, digits_value, signed_digits_value, without_leading_plus, without_leading_sign}
use Rattle.clap.specs.ValueTests.{is_signed_in, is_unsigned_in}
use Rattle.clap.specs.declared.builder.value_parser.ValueParser.TheVariants.{Signed, Unsigned}
use Rattle.clap.proofs.ValueTestLemmas.{accepts-Accepts, Accepts-accepts}
use Rattle.fz_cmd.specs.Meaning.{number_in, signed_in}

none_unless : {X : Type 0} (b : Bool) (x : X) → (b ≡ true → ⊥) → None ≡ cond b (Some x) None
none_unless true x h = absurd (h refl)
none_unless false x h = refl

pub read_within : (least most n : ℕ) (t : List ℕ) → IsNumeral 10 (without_leading_plus t) → n ≡ digits_value 10 (without_leading_plus t)
    → n < 2 ^ 64 → least ≤ n → n ≤ most → Some n ≡ number_in least most t
read_within least most n t numeral value fits low high =
    let passes : is_unsigned_in least most t ≡ true =
    Accepts-accepts false (Unsigned least most) t (numeral, rw (← value) fits, rw (← value) low, rw (← value) high) in
    rw (passes, value) refl

pub unread : (k least most : ℕ) (t : List ℕ) → (IsNumeral 10 (without_leading_plus t) → digits_value 10 (without_leading_plus t) < 2 ^ k → ⊥)
    → most < 2 ^ k → None ≡ number_in least most t
unread k least most t h fits = none_unless (is_unsigned_in least most t) _ (λ yes.
    let a = accepts-Accepts false (Unsigned least most) t yes in
    let low : digits_value 10 (without_leading_plus t) ≤ most = a.3 in
    h a.0 (omega (arith)))

-- ---- the same of a number that may be below 0

pub signed_within : (least most n : ℤ) (t : List ℕ) → IsNumeral 10 (without_leading_sign t) → n ≡ signed_digits_value 10 t → FitsSigned w64 n → least ≤ℤ n → n ≤ℤ most → Some n ≡ signed_in least most t
signed_within least most n t numeral value fits low high =
    let passes : is_signed_in least most t ≡ true =
    Accepts-accepts false (Signed least most) t (numeral, rw (← value) fits, rw (← value) low, rw (← value) high) in
    rw (passes, value) refl

pub signed_unread : (least most : ℤ) (t : List ℕ) → (IsNumeral 10 (without_leading_sign t) → FitsSigned w64 (signed_digits_value 10 t) → least ≤ℤ signed_digits_value 10 t → signed_digits_value 10 t ≤ℤ most → ⊥) → None ≡ signed_in least most t
signed_unread least most t h = none_unless (is_signed_in least most t) _ (λ yes.
    let a = accepts-Accepts false (Signed least most) t yes in h a.0 a.1 a.2 a.3)
