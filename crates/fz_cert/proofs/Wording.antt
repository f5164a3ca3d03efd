-- Words of a text: the bytes before the first that ends one.
use Rattle.std.proofs.Common.{◌≡◌, ℕ, zero, suc, ◌+◌, ◌%◌, ◌<◌, ◌≤◌, ◌^◌, List, [], ◌∷◌, ◌++◌, refl, sym, ap, subst, ◌∙◌, arith, length, take, drop, get_or}
use Rattle.std.specs.Prelude.{ℤ, pos, negsuc, decimal, Result, Some, FitsSigned, IsUtf8, IsAscii}
use Rattle.std.specs.Result.{result_ok}
use Rattle.std.specs.Int.{w32}
use Rattle.std.specs.Str.Parse.{ParsesUnsigned, ParsesSigned}
use lib.Signed.{mag}
use Rattle.std.specs.Fmt.{signed_decimal}
use Rattle.std.specs.List.{AllByRecursion}
use Rattle.std.proofs.lemmas.Fmt.{decimal_by_steps, parse-decimal, parse-signed_decimal, IsAscii-decimal, IsAscii-signed}
use Rattle.std.proofs.lemmas.Str.{IsUtf8-from_ascii}
use Rattle.std.proofs.lemmas.Int.{ints}
use Rattle.fz_sets.proofs.Lists.{all_both}
use Rattle.fz_refutes.specs.Boxes.{IsWord}
use Rattle.fz_cert.specs.Guesses.{EndsWord, IsInWord}

-- the first byte that ends a word stands after the word
pub ends_here : (text front rest : List ℕ) (i d : ℕ) → AllByRecursion IsInWord front → EndsWord rest → text ≡ front ++ rest → AllByRecursion IsInWord (take i text) → i < length text → get_or text i d ≤ 32
    → i ≡ length front
ends_here text front rest i d all ends is before within here =
    same front rest i all ends (subst (λ (t : List ℕ). AllByRecursion IsInWord (take i t)) is before) (subst (λ (t : List ℕ). i < length t) is within) (subst (λ (t : List ℕ). get_or t i d ≤ 32) is here)
  where
    same : (f r : List ℕ) (k : ℕ) → AllByRecursion IsInWord f → EndsWord r → AllByRecursion IsInWord (take k (f ++ r)) → k < length (f ++ r) → get_or (f ++ r) k d ≤ 32 → k ≡ length f
    same [] [] k all_f ends_r so_far below low = absurd (omega (arith, below))
    same [] (b ∷ bs) zero all_f ends_r so_far below low = refl
    same [] (b ∷ bs) (suc k) all_f ends_r so_far below low = let high = so_far.0 in absurd (omega (arith, high, ends_r))
    same (b ∷ bs) r zero all_f ends_r so_far below low = let high = all_f.0 in absurd (omega (arith, high, low))
    same (b ∷ bs) r (suc k) all_f ends_r so_far below low = ap suc (same bs r k all_f.1 ends_r so_far.1 (omega (arith, below)) low)

pub whole_word : (text front rest : List ℕ) → AllByRecursion IsInWord front → EndsWord rest → text ≡ front ++ rest → AllByRecursion IsInWord text → length text ≡ length front
whole_word text front rest all ends is so_far = ap length is ∙ none front rest (subst (λ (t : List ℕ). AllByRecursion IsInWord t) is so_far) ends
  where
    none : (f r : List ℕ) → AllByRecursion IsInWord (f ++ r) → EndsWord r → length (f ++ r) ≡ length f
    none [] [] all_t ends_r = refl
    none [] (b ∷ bs) all_t ends_r = let high = all_t.0 in absurd (omega (arith, high, ends_r))
    none (b ∷ bs) r all_t ends_r = ap suc (none bs r all_t.1 ends_r)

take_beyond : (xs : List ℕ) (i : ℕ) → length xs ≤ i → take i xs ≡ xs
take_beyond [] zero beyond = refl
take_beyond [] (suc i) beyond = refl
take_beyond (x ∷ xs) zero beyond = absurd (omega (arith, beyond))
take_beyond (x ∷ xs) (suc i) beyond = ap (λ (t : List ℕ). x ∷ t) (take_beyond xs i (omega (arith, beyond)))

pub all_beyond : (text : List ℕ) (i : ℕ) → length text ≤ i → AllByRecursion IsInWord (take i text) → AllByRecursion IsInWord text
all_beyond text i beyond all = subst (λ (t : List ℕ). AllByRecursion IsInWord t) (take_beyond text i beyond) all

pub take_front : (front rest : List ℕ) → take (length front) (front ++ rest) ≡ front
take_front [] rest = refl
take_front (x ∷ xs) rest = ap (λ (t : List ℕ). x ∷ t) (take_front xs rest)

pub drop_front : (front rest : List ℕ) → drop (length front) (front ++ rest) ≡ rest
drop_front [] rest = refl
drop_front (x ∷ xs) rest = drop_front xs rest

pub parted : (text front rest word later : List ℕ) (n : ℕ) → text ≡ front ++ rest → n ≡ length front → word ≡ take n text → later ≡ drop n text → (word ≡ front) × (later ≡ rest)
parted text front rest word later n is count first second = (
  first ∙ ap (λ (k : ℕ). take k text) count ∙ ap (take (length front)) is ∙ take_front front rest,
  second ∙ ap (λ (k : ℕ). drop k text) count ∙ ap (drop (length front)) is ∙ drop_front front rest,
)

-- ---- decimals

-- a digit or a minus
abbrev pub IsOfNumber : ℕ → Type 0
IsOfNumber byte = (44 < byte) × (byte < 58)

digit : (n : ℕ) → n < 10 → IsOfNumber (48 + n)
digit n small = (omega (arith, small), omega (arith, small))

pub decimal_bytes : (n : ℕ) → n < 2 ^ 64 → AllByRecursion IsOfNumber (decimal n)
decimal_bytes n small = decimal_by_steps (λ (k : ℕ) (ds : List ℕ). AllByRecursion IsOfNumber ds) (λ k one. (digit k one, tt))
    (λ k ds more all. all_both IsOfNumber ds ((48 + k % 10) ∷ []) all (digit (k % 10) (omega arith), tt)) n small

pub signed_bytes : (n : ℤ) → IsWord n → AllByRecursion IsOfNumber (signed_decimal n)
signed_bytes (pos n) word = decimal_bytes n (let high = word.1 in omega (arith, ints, high))
signed_bytes (negsuc n) word = ((omega arith, omega arith), decimal_bytes (suc n) (let low = word.0 in omega (arith, ints, low)))

pub all_weaker : (P Q : ℕ → Type 0) (bytes : List ℕ) → ((byte : ℕ) → P byte → Q byte) → AllByRecursion P bytes → AllByRecursion Q bytes
all_weaker P Q [] weaker all = tt
all_weaker P Q (b ∷ bs) weaker all = (weaker b all.0, all_weaker P Q bs weaker all.1)

pub in_word : (bytes : List ℕ) → AllByRecursion IsOfNumber bytes → AllByRecursion IsInWord bytes
in_word bytes all = all_weaker IsOfNumber IsInWord bytes (λ byte is. let low = is.0 in omega (arith, low)) all

pub decimal_word : (n : ℕ) → n < 2 ^ 32 → AllByRecursion IsInWord (decimal n)
decimal_word n small = in_word (decimal n) (decimal_bytes n (omega (arith, small)))

pub signed_word : (n : ℤ) → IsWord n → AllByRecursion IsInWord (signed_decimal n)
signed_word n word = in_word (signed_decimal n) (signed_bytes n word)

-- ---- what is read of a word

pub decimal_text : (n : ℕ) (word : List ℕ) → n < 2 ^ 32 → word ≡ decimal n → IsUtf8 word
decimal_text n word small is = IsUtf8-from_ascii word (subst IsAscii (sym is) (IsAscii-decimal n (omega (arith, small))))

pub decimal_parsed : {E : Type 0} (n : ℕ) (word digits : List ℕ) (r : Result ℕ E) → n < 2 ^ 32 → word ≡ decimal n → digits ≡ word → ParsesUnsigned 32 10 digits r → result_ok r ≡ Some n
decimal_parsed n word digits r small is same parses = ap result_ok (parse-decimal 32 n digits r small (omega (arith, small)) (same ∙ is) parses)

small_mag : (n : ℤ) → IsWord n → mag n < 2 ^ 63
small_mag (pos n) word = let high = word.1 in omega (arith, ints, high)
small_mag (negsuc n) word = let low = word.0 in omega (arith, ints, low)

pub word_fits : (n : ℤ) → IsWord n → FitsSigned w32 n
word_fits (pos n) word = let high = word.1 in record { sfits = omega (arith, ints, high) }
word_fits (negsuc n) word = let low = word.0 in record { sfits = omega (arith, ints, low) }

pub signed_text : (n : ℤ) (word : List ℕ) → IsWord n → word ≡ signed_decimal n → IsUtf8 word
signed_text n word small is = IsUtf8-from_ascii word (subst IsAscii (sym is) (IsAscii-signed n (small_mag n small)))

pub signed_parsed : {E : Type 0} (n : ℤ) (word digits : List ℕ) (r : Result ℤ E) → IsWord n → word ≡ signed_decimal n → digits ≡ word → ParsesSigned w32 10 digits r → result_ok r ≡ Some n
signed_parsed n word digits r small is same parses = ap result_ok (parse-signed_decimal w32 n digits r (word_fits n small) (small_mag n small) (same ∙ is) parses)
