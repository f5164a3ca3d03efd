-- The tokens of a text (MiniZinc Handbook, "FlatZinc grammar"; white space and the places of faults are fzn's own rule).
-- A text is a list of bytes, and a byte's place is the count of bytes before it.
use Rattle.std.specs.Prelude.{◌≡◌, ◌≢◌, ℕ, ℤ, pos, ◌-ℤ◌, ◌+◌, ◌*◌, ◌-◌, ◌<◌, ◌≤◌, ◌⊎◌, Bool, false, ◌||◌, ◌&&◌, ◌==◌, nat_lt, if◌then◌else◌, List, [], ◌∷◌, ◌++◌, length, codes, IsTrue, fold, slice_range, slice_index}
use Rattle.std.specs.List.{list_all}
use Rattle.std.specs.Char.{is_ascii_digit, is_ascii_alphabetic, is_ascii_alphanumeric, is_ascii_hexdigit}
use Rattle.fz_language.specs.declared.sign.Sign.{Sign}
use Rattle.fz_language.specs.declared.sign.Sign.TheVariants.{Semicolon, Colon, DoubleColon, Comma, LeftParenthesis, RightParenthesis, LeftBracket, RightBracket, LeftBrace, RightBrace, Equals, DoubleDot}
use Rattle.fz_language.specs.declared.keyword.Keyword.{Keyword}
use Rattle.fz_language.specs.declared.keyword.Keyword.TheVariants as keyword
use Rattle.fz_language.specs.declared.fault.TokenFault.{TokenFault}
use Rattle.fz_language.specs.declared.fault.TokenFault.TheVariants.{UnknownByte, LargeNumber}
use Rattle.fz_sets.specs.Sets.{IsWithinLimits}

-- what a token says
pub data Lexeme : Type 0 where
  Identifier : (name : List ℕ) → Lexeme
  Word : (keyword : Keyword) → Lexeme
  Number : (value : ℤ) → Lexeme
  Float : Lexeme
  Text : Lexeme
  Punct : (sign : Sign) → Lexeme

-- a token: what it says, and the place of its first byte
pub record Token : Type 0 where
  pub lexeme : Lexeme
  pub at : ℕ

-- the place of the first of these tokens, or the end of the text
abbrev pub place_in : List ℕ → List Token → ℕ
place_in text [] = length text
place_in text (t ∷ ts) = t.at

-- space, tab, CR and LF
abbrev pub is_space : ℕ → Bool
is_space b = (b == 32) || (b == 9) || (b == 13) || (b == 10)

-- a letter or an underscore begins a word, and digits may follow
abbrev pub is_word_start : ℕ → Bool
is_word_start b = is_ascii_alphabetic b || (b == 95)

abbrev pub is_word_byte : ℕ → Bool
is_word_byte b = is_ascii_alphanumeric b || (b == 95)

abbrev pub IsWord : List ℕ → Type 0
IsWord [] = ⊥
IsWord (b ∷ bs) = IsTrue (is_word_start b) × IsTrue (list_all is_word_byte bs)

abbrev pub keyword_bytes : Keyword → List ℕ
keyword_bytes keyword.Array = codes "array"
keyword_bytes keyword.Bool = codes "bool"
keyword_bytes keyword.Constraint = codes "constraint"
keyword_bytes keyword.False = codes "false"
keyword_bytes keyword.Float = codes "float"
keyword_bytes keyword.Int = codes "int"
keyword_bytes keyword.Maximize = codes "maximize"
keyword_bytes keyword.Minimize = codes "minimize"
keyword_bytes keyword.Of = codes "of"
keyword_bytes keyword.Predicate = codes "predicate"
keyword_bytes keyword.Satisfy = codes "satisfy"
keyword_bytes keyword.Set = codes "set"
keyword_bytes keyword.Solve = codes "solve"
keyword_bytes keyword.True = codes "true"
keyword_bytes keyword.Var = codes "var"

-- a word that is none of the language's
pub record IsIdentifier (bs : List ℕ) : Type 0 where
  pub word : IsWord bs
  pub free : (k : Keyword) → bs ≢ keyword_bytes k

abbrev pub is_octal_digit : ℕ → Bool
is_octal_digit b = is_ascii_digit b && nat_lt b 56

-- one digit or more, and no other byte
abbrev pub AreDigits : (ℕ → Bool) → List ℕ → Type 0
AreDigits is_digit ds = (0 < length ds) × IsTrue (list_all is_digit ds)

-- 0 to 9, then A to F, then a to f
abbrev pub digit_value : ℕ → ℕ
digit_value d = if nat_lt d 58 then d - 48 else if nat_lt d 71 then d - 55 else d - 87

abbrev pub digits_value : ℕ → List ℕ → ℕ
digits_value base ds = fold (λ n d. base * n + digit_value d) 0 ds

-- `0x` and hexadecimal digits, or `0o` and octal digits
abbrev pub IsBased : ℕ → List ℕ → Type 0
IsBased n bs = ((ds : List ℕ) × (bs ≡ 48 ∷ 120 ∷ ds) × AreDigits is_ascii_hexdigit ds × (n ≡ digits_value 16 ds))
    ⊎ ((ds : List ℕ) × (bs ≡ 48 ∷ 111 ∷ ds) × AreDigits is_octal_digit ds × (n ≡ digits_value 8 ds))

-- decimal digits, or digits of another base
abbrev pub IsNatural : ℕ → List ℕ → Type 0
IsNatural n bs = (AreDigits is_ascii_digit bs × (n ≡ digits_value 10 bs)) ⊎ IsBased n bs

-- a natural number, or a minus and one
abbrev pub IsNumber : ℤ → List ℕ → Type 0
IsNumber v bs = ((n : ℕ) × IsNatural n bs × (v ≡ pos n)) ⊎ ((n : ℕ) × (ns : List ℕ) × (bs ≡ 45 ∷ ns) × IsNatural n ns × (v ≡ pos 0 -ℤ pos n))

-- `e` or `E`, maybe a sign, and digits
abbrev pub IsExponent : List ℕ → Type 0
IsExponent bs = (e : ℕ) × (ds : List ℕ) × ((e ≡ 101) ⊎ (e ≡ 69)) × AreDigits is_ascii_digit ds × ((bs ≡ e ∷ ds) ⊎ ((bs ≡ e ∷ 43 ∷ ds) ⊎ (bs ≡ e ∷ 45 ∷ ds)))

-- a point and digits, and maybe an exponent; or an exponent
abbrev pub IsTail : List ℕ → Type 0
IsTail bs = ((part : List ℕ) × (exponent : List ℕ) × (bs ≡ 46 ∷ (part ++ exponent)) × AreDigits is_ascii_digit part × ((exponent ≡ []) ⊎ IsExponent exponent)) ⊎ IsExponent bs

-- digits, and such a tail
abbrev pub IsPlainFloat : List ℕ → Type 0
IsPlainFloat bs = (whole : List ℕ) × (tail : List ℕ) × (bs ≡ whole ++ tail) × AreDigits is_ascii_digit whole × IsTail tail

abbrev pub IsFloat : List ℕ → Type 0
IsFloat bs = IsPlainFloat bs ⊎ ((fs : List ℕ) × (bs ≡ 45 ∷ fs) × IsPlainFloat fs)

-- what stands in a string up to its end: no quote and no line end, but a backslash takes the next byte with it
pub data IsInside : List ℕ → Type 0 where
  Closes : IsInside (34 ∷ [])
  Goes : (b : ℕ) (bs : List ℕ) → b ≢ 34 → b ≢ 92 → b ≢ 10 → IsInside bs → IsInside (b ∷ bs)
  Takes : (b : ℕ) (bs : List ℕ) → b ≢ 10 → IsInside bs → IsInside (92 ∷ b ∷ bs)

abbrev pub IsText : List ℕ → Type 0
IsText bs = (inside : List ℕ) × (bs ≡ 34 ∷ inside) × IsInside inside

abbrev pub sign_bytes : Sign → List ℕ
sign_bytes Semicolon = codes ";"
sign_bytes Colon = codes ":"
sign_bytes DoubleColon = codes "::"
sign_bytes Comma = codes ","
sign_bytes LeftParenthesis = codes "("
sign_bytes RightParenthesis = codes ")"
sign_bytes LeftBracket = codes "["
sign_bytes RightBracket = codes "]"
sign_bytes LeftBrace = codes "{"
sign_bytes RightBrace = codes "}"
sign_bytes Equals = codes "="
sign_bytes DoubleDot = codes ".."

-- the bytes are a spelling of the lexeme
abbrev pub IsSpelt : Lexeme → List ℕ → Type 0
IsSpelt (Identifier name) bs = IsIdentifier bs × (name ≡ bs)
IsSpelt (Word k) bs = bs ≡ keyword_bytes k
IsSpelt (Number v) bs = IsNumber v bs
IsSpelt Float bs = IsFloat bs
IsSpelt Text bs = IsText bs
IsSpelt (Punct s) bs = bs ≡ sign_bytes s

-- A token is the longest that fits: the bytes up to its end spell its lexeme, and no more bytes from its start spell any.
pub record IsToken (text : List ℕ) (t : Token) (stop : ℕ) : Type 0 where
  pub within : stop ≤ length text
  pub spelt : IsSpelt t.lexeme (slice_range text t.at stop)
  pub longest : (x : Lexeme) (end : ℕ) → end ≤ length text → IsSpelt x (slice_range text t.at end) → end ≤ stop

-- from a percent sign up to the end of its line, or of the text
pub record IsComment (text : List ℕ) (start stop : ℕ) : Type 0 where
  pub some : start < stop
  pub within : stop ≤ length text
  pub first : slice_index text start ≡ 37
  pub inside : (k : ℕ) → start < k → k < stop → slice_index text k ≢ 10
  pub ends : (stop ≡ length text) ⊎ (slice_index text stop ≡ 10)

-- a byte of white space, or a comment
abbrev pub IsBlank : List ℕ → ℕ → ℕ → Type 0
IsBlank text start stop = ((start < length text) × IsTrue (is_space (slice_index text start)) × (stop ≡ start + 1)) ⊎ IsComment text start stop

-- blanks from one place up to another, maybe none
pub data IsGap (text : List ℕ) : ℕ → ℕ → Type 0 where
  Ends : (at : ℕ) → at ≤ length text → IsGap text at at
  Skips : (start mid stop : ℕ) → IsBlank text start mid → IsGap text mid stop → IsGap text start stop

-- white space or a comment begins with this byte
abbrev pub is_blank : ℕ → Bool
is_blank b = is_space b || (b == 37)

-- a byte that is no blank and begins no token
pub record BeginsNoToken (text : List ℕ) (at : ℕ) : Type 0 where
  pub within : at < length text
  pub visible : is_blank (slice_index text at) ≡ false
  pub none : (x : Lexeme) (stop : ℕ) → stop ≤ length text → IsSpelt x (slice_range text at stop) → ⊥

-- a number outside the limits
pub record BeginsLargeNumber (text : List ℕ) (at : ℕ) : Type 0 where
  pub value : ℤ
  pub stop : ℕ
  pub token : IsToken text (record { lexeme = Number value; at = at }) stop
  pub large : IsWithinLimits value → ⊥

abbrev pub IsFault : List ℕ → TokenFault → ℕ → Type 0
IsFault text UnknownByte at = BeginsNoToken text at
IsFault text LargeNumber at = BeginsLargeNumber text at

abbrev pub IsFine : Lexeme → Type 0
IsFine (Identifier name) = Unit {0}
IsFine (Word k) = Unit {0}
IsFine (Number v) = IsWithinLimits v
IsFine Float = Unit {0}
IsFine Text = Unit {0}
IsFine (Punct s) = Unit {0}

-- what stands after tokens: the text's end, or a fault
pub data Ending : Type 0 where
  End : Ending
  Fault : (fault : TokenFault) (at : ℕ) → Ending

abbrev pub EndsIn : List ℕ → ℕ → Ending → Type 0
EndsIn text from End = IsGap text from (length text)
EndsIn text from (Fault fault at) = IsGap text from at × IsFault text fault at

-- From this place on the text is these tokens, with blanks before each, and then this ending.
abbrev pub LeadsTo : List ℕ → ℕ → List Token → Ending → Type 0
LeadsTo text from [] ending = EndsIn text from ending
LeadsTo text from (t ∷ ts) ending = (stop : ℕ) × IsGap text from t.at × IsToken text t stop × IsFine t.lexeme × LeadsTo text stop ts ending

-- the tokens of a text
abbrev pub AreTokensOf : List ℕ → List Token → Type 0
AreTokensOf text ts = LeadsTo text 0 ts End

-- the first fault of a text, which stands after tokens alone
abbrev pub HasFault : List ℕ → TokenFault → ℕ → Type 0
HasFault text fault at = (ts : List Token) × LeadsTo text 0 ts (Fault fault at)
