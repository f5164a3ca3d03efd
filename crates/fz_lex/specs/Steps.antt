-- What the steps of the reading say.
use Rattle.std.specs.Prelude.{◌≡◌, ◌≢◌, ℕ, ◌<◌, ◌≤◌, ◌⊎◌, ℤ, pos, ◌-ℤ◌, Bool, true, false, IsTrue, ◌||◌, ◌==◌, ◌+◌, min, if◌then◌else◌, Option, Some, None, List, length, slice_index, slice_range}
use Rattle.std.specs.Char.{is_ascii_digit, is_ascii_hexdigit}
use Rattle.fz_language.specs.declared.sign.Sign.{Sign}
use Rattle.fz_language.specs.declared.sign.Sign.TheVariants.{Colon}
use Rattle.fz_language.specs.declared.keyword.Keyword.{Keyword}
use Rattle.fz_language.specs.declared.keyword.Keyword.TheVariants as keyword
use Rattle.fz_language.specs.Tokens.{is_blank, is_octal_digit, digits_value, sign_bytes, keyword_bytes, IsToken, IsFine, IsBased, IsInside}
use Rattle.fz_lex.specs.Lexed.{lexeme_of, IsBounded}
use Rattle.fz_lex.specs.declared.run.DigitRun.{DigitRun}
use Rattle.fz_lex.specs.declared.run.TheConstants.{OVER}
use Rattle.fz_lex.specs.declared.run.Radix.{Radix}
use Rattle.fz_lex.specs.declared.run.Radix.TheVariants.{Decimal, Hexadecimal, Octal}
use Rattle.fz_lex.specs.declared.reading.Found.{Found}

-- neither white space nor a comment begins there
abbrev pub EndsGap : List ℕ → ℕ → Type 0
EndsGap text at = at < length text → is_blank (slice_index text at) ≡ false

-- all bytes from one place up to another pass a test
pub record Passes (p : ℕ → Bool) (text : List ℕ) (start stop : ℕ) : Type 0 where
  pub ordered : start ≤ stop
  pub within : stop ≤ length text
  pub each : (k : ℕ) → start ≤ k → k < stop → IsTrue (p (slice_index text k))

-- they do, and the next byte, if there is one, fails
pub record IsRun (p : ℕ → Bool) (text : List ℕ) (start stop : ℕ) : Type 0 where
  pub pass : Passes p text start stop
  pub ends : (stop ≡ length text) ⊎ (p (slice_index text stop) ≡ false)

abbrev pub radix_of : Radix → ℕ
radix_of Decimal = 10
radix_of Hexadecimal = 16
radix_of Octal = 8

abbrev pub is_digit_of : Radix → ℕ → Bool
is_digit_of Decimal = is_ascii_digit
is_digit_of Hexadecimal = is_ascii_hexdigit
is_digit_of Octal = is_octal_digit

-- the longest bytes from a place on of which something holds; or none are so
pub record IsLongest (P : List ℕ → Type 0) (text : List ℕ) (at stop : ℕ) : Type 0 where
  pub within : stop ≤ length text
  pub is : P (slice_range text at stop)
  pub longest : (end : ℕ) → end ≤ length text → P (slice_range text at end) → end ≤ stop

abbrev pub HasNone : (List ℕ → Type 0) → List ℕ → ℕ → Type 0
HasNone P text at = (end : ℕ) → end ≤ length text → P (slice_range text at end) → ⊥

-- after the byte at a place, and after the sign that may follow
abbrev pub IsBehindSign : List ℕ → ℕ → ℕ → Type 0
IsBehindSign text at from = (((slice_index text (at + 1) ≡ 43) ⊎ (slice_index text (at + 1) ≡ 45)) × (from ≡ at + 2))
    ⊎ ((slice_index text (at + 1) ≢ 43) × (slice_index text (at + 1) ≢ 45) × (from ≡ at + 1))

abbrev pub HasNoBased : List ℕ → ℕ → Type 0
HasNoBased text from = (n : ℕ) → HasNone (IsBased n) text from

-- the longest number of another base than ten, and its value, or the limit where it is greater
pub record IsBasedAt (text : List ℕ) (from : ℕ) (run : DigitRun) : Type 0 where
  pub within : run.stop ≤ length text
  pub number : ℕ
  pub is : IsBased number (slice_range text from run.stop)
  pub value : run.value ≡ min number OVER
  pub longest : (n end : ℕ) → end ≤ length text → IsBased n (slice_range text from end) → end ≤ run.stop

-- it, or the decimal digits where there is none
abbrev pub IsNaturalAt : List ℕ → ℕ → DigitRun → DigitRun → Type 0
IsNaturalAt text from whole run = IsBasedAt text from run ⊎ ((run ≡ whole) × HasNoBased text from)

-- digits begin there, up to the end of their run
pub record AreDigitsAt (radix : Radix) (text : List ℕ) (at : ℕ) (run : DigitRun) : Type 0 where
  pub within : at < length text
  pub first : is_digit_of radix (slice_index text at) ≡ true
  pub are : IsRun (is_digit_of radix) text at run.stop
  pub value : run.value ≡ min (digits_value (radix_of radix) (slice_range text at run.stop)) OVER

-- a minus and where its digits begin, or a digit
abbrev pub IsNumberStart : List ℕ → ℕ → ℕ → Type 0
IsNumberStart text at from = ((slice_index text at ≡ 45) × (from ≡ at + 1)) ⊎ ((is_ascii_digit (slice_index text at) ≡ true) × (from ≡ at))

abbrev pub signed_of : Bool → ℕ → ℤ
signed_of true n = pos 0 -ℤ pos n
signed_of false n = pos n

-- no point with a digit after it
abbrev pub HasNoPoint : List ℕ → ℕ → Type 0
HasNoPoint text at = slice_index text at ≡ 46 → is_ascii_digit (slice_index text (at + 1)) ≡ false

-- a point and digits, up to the end of their run
pub record IsPointAt (text : List ℕ) (at part : ℕ) : Type 0 where
  pub point : slice_index text at ≡ 46
  pub run : IsRun is_ascii_digit text (at + 1) part
  pub some : at + 1 < part

-- a string that goes on at a place goes on at the next
pub record StepsInside (text : List ℕ) (at next : ℕ) : Type 0 where
  pub some : at < next
  pub within : next ≤ length text
  pub goes : (end : ℕ) → end ≤ length text → IsInside (slice_range text at end) → IsInside (slice_range text next end)
  pub comes : (end : ℕ) → end ≤ length text → IsInside (slice_range text next end) → IsInside (slice_range text at end)

-- no word of the language
abbrev pub IsFree : List ℕ → Type 0
IsFree bytes = (k : Keyword) → bytes ≢ keyword_bytes k

-- The word of the language that these can be the length and the second byte of; no two words share both.
abbrev pub candidate_of : ℕ → ℕ → Option Keyword
candidate_of length second =
    if length == 2 then (if second == 102 then Some keyword.Of else None)
    else if length == 3 then (if second == 97 then Some keyword.Var else if second == 101 then Some keyword.Set else if second == 110 then Some keyword.Int else None)
    else if length == 4 then (if second == 111 then Some keyword.Bool else if second == 114 then Some keyword.True else None)
    else if length == 5 then (if second == 97 then Some keyword.False else if second == 108 then Some keyword.Float else if second == 111 then Some keyword.Solve else if second == 114 then Some keyword.Array else None)
    else if length == 7 then (if second == 97 then Some keyword.Satisfy else None)
    else if length == 8 then (if second == 97 then Some keyword.Maximize else if second == 105 then Some keyword.Minimize else None)
    else if length == 9 then (if second == 114 then Some keyword.Predicate else None)
    else if length == 10 then (if second == 111 then Some keyword.Constraint else None)
    else None

-- the sign has the first byte, and the second if it has two, and is the longest such sign
pub record FitsSign (s : Sign) (first second : ℕ) : Type 0 where
  pub begins : first ≡ slice_index (sign_bytes s) 0
  pub goes_on : 1 < length (sign_bytes s) → second ≡ slice_index (sign_bytes s) 1
  pub alone : s ≡ Colon → second ≢ 58

-- the bytes that begin a sign whatever stands after them
abbrev pub begins_sign : ℕ → Bool
begins_sign b =
    (b == 59) || (b == 58) || (b == 44) || (b == 40) || (b == 41) || (b == 91) || (b == 93) || (b == 123) || (b == 125) || (b == 61)

-- no sign begins with the first byte, or with both
pub record FitsNoSign (first second : ℕ) : Type 0 where
  pub no_sign : begins_sign first ≡ false
  pub no_dots : first ≡ 46 → second ≢ 46

-- the token found at a place, which is within the limits
pub record IsFoundAt (text : List ℕ) (at : ℕ) (found : Found) : Type 0 where
  pub some : at < found.stop
  pub token : IsToken text (record { lexeme = lexeme_of text at found.lexeme; at = at }) found.stop
  pub fine : IsFine (lexeme_of text at found.lexeme)
  pub bounded : IsBounded text at found.lexeme
