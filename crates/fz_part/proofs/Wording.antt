-- The numbers of a text: the bytes before the first that isn't of one, and what is read of them.
use Rattle.std.proofs.Common.{◌≡◌, ℕ, zero, suc, ◌+◌, ◌%◌, ◌<◌, ◌≤◌, ◌^◌, List, [], ◌∷◌, ◌++◌, refl, sym, ap, subst, ◌∙◌, arith, length, take, drop, get_or}
use Rattle.std.specs.Prelude.{ℤ, pos, negsuc, decimal, Result, Some, FitsSigned, IsUtf8, IsAscii}
use Rattle.std.specs.Result.{result_ok}
use Rattle.std.specs.Int.{w32}
use Rattle.std.specs.Str.Parse.{ParsesUnsigned, ParsesSigned}
use lib.Signed.{mag}
use Rattle.std.specs.Fmt.{signed_decimal}
use Rattle.std.specs.List.{AllByRecursion}
use Rattle.std.proofs.lemmas.Fmt.{decimal_by_steps, parse-decimal, parse-signed_decimal, IsAscii-decimal, IsAscii-signed}
use Rattle.std.proofs.lemmas.Str.{IsUtf8-from_ascii}
use Rattle.std.proofs.lemmas.Int.{ints}
use Rattle.std.proofs.lemmas.List.{take_all, take_at, drop_at}
use Rattle.fz_sets.proofs.Lists.{all_both}
use Rattle.fz_part.specs.Words.{IsWord, IsOfNumber, EndsNumber}

-- ---- where the number ends

-- the first byte that isn't of a number stands after the number
pub ends_here : (text front rest : List ℕ) (i d : ℕ) → AllByRecursion IsOfNumber front → EndsNumber rest → text ≡ front ++ rest → AllByRecursion IsOfNumber (take i text) → i < length text → (IsOfNumber (get_or text i d) → ⊥)
    → i ≡ length front
ends_here text front rest i d all ends is before within here =
    same front rest i all ends (subst (λ (t : List ℕ). AllByRecursion IsOfNumber (take i t)) is before) (subst (λ (t : List ℕ). i < length t) is within) (subst (λ (t : List ℕ). IsOfNumber (get_or t i d) → ⊥) is here)
  where
    same : (f r : List ℕ) (k : ℕ) → AllByRecursion IsOfNumber f → EndsNumber r → AllByRecursion IsOfNumber (take k (f ++ r)) → k < length (f ++ r) → (IsOfNumber (get_or (f ++ r) k d) → ⊥) → k ≡ length f
    same [] [] k all_f ends_r so_far below other = absurd (omega (arith, below))
    same [] (b ∷ bs) zero all_f ends_r so_far below other = refl
    same [] (b ∷ bs) (suc k) all_f ends_r so_far below other = absurd (ends_r so_far.0)
    same (b ∷ bs) r zero all_f ends_r so_far below other = absurd (other all_f.0)
    same (b ∷ bs) r (suc k) all_f ends_r so_far below other = ap suc (same bs r k all_f.1 ends_r so_far.1 (omega (arith, below)) other)

pub whole_number : (text front rest : List ℕ) (i : ℕ) → AllByRecursion IsOfNumber front → EndsNumber rest → text ≡ front ++ rest → length text ≤ i → AllByRecursion IsOfNumber (take i text) → length text ≡ length front
whole_number text front rest i all ends is beyond so_far =
    ap length is ∙ none front rest (subst (λ (t : List ℕ). AllByRecursion IsOfNumber t) (take_all i text beyond ∙ is) so_far) ends
  where
    none : (f r : List ℕ) → AllByRecursion IsOfNumber (f ++ r) → EndsNumber r → length (f ++ r) ≡ length f
    none [] [] all_t ends_r = refl
    none [] (b ∷ bs) all_t ends_r = absurd (ends_r all_t.0)
    none (b ∷ bs) r all_t ends_r = ap suc (none bs r all_t.1 ends_r)

pub parted : (text front rest number later : List ℕ) (n : ℕ) → text ≡ front ++ rest → n ≡ length front → number ≡ take n text → later ≡ drop n text → (number ≡ front) × (later ≡ rest)
parted text front rest number later n is count first second = (
  first ∙ ap (take n) is ∙ take_at front rest n (sym count),
  second ∙ ap (drop n) is ∙ drop_at front rest n (sym count),
)

-- ---- decimals

digit : (n : ℕ) → n < 10 → IsOfNumber (48 + n)
digit n small = (omega (arith, small), omega (arith, small))

pub decimal_bytes : (n : ℕ) → n < 2 ^ 64 → AllByRecursion IsOfNumber (decimal n)
decimal_bytes n small = decimal_by_steps (λ (k : ℕ) (ds : List ℕ). AllByRecursion IsOfNumber ds) (λ k one. (digit k one, tt))
    (λ k ds more all. all_both IsOfNumber ds ((48 + k % 10) ∷ []) all (digit (k % 10) (omega arith), tt)) n small

pub signed_bytes : (n : ℤ) → IsWord n → AllByRecursion IsOfNumber (signed_decimal n)
signed_bytes (pos n) word = decimal_bytes n (let high = word.1 in omega (arith, ints, high))
signed_bytes (negsuc n) word = ((omega arith, omega arith), decimal_bytes (suc n) (let low = word.0 in omega (arith, ints, low)))

-- ---- what is read of a word

pub decimal_text : (n : ℕ) (word : List ℕ) → n < 2 ^ 32 → word ≡ decimal n → IsUtf8 word
decimal_text n word small is = IsUtf8-from_ascii word (subst IsAscii (sym is) (IsAscii-decimal n (omega (arith, small))))

pub decimal_parsed : {E : Type 0} (n : ℕ) (word digits : List ℕ) (r : Result ℕ E) → n < 2 ^ 32 → word ≡ decimal n → digits ≡ word → ParsesUnsigned 32 10 digits r → result_ok r ≡ Some n
decimal_parsed n word digits r small is same parses = ap result_ok (parse-decimal 32 n digits r small (omega (arith, small)) (same ∙ is) parses)

small_mag : (n : ℤ) → IsWord n → mag n < 2 ^ 63
small_mag (pos n) word = let high = word.1 in omega (arith, ints, high)
small_mag (negsuc n) word = let low = word.0 in omega (arith, ints, low)

word_fits : (n : ℤ) → IsWord n → FitsSigned w32 n
word_fits (pos n) word = let high = word.1 in record { sfits = omega (arith, ints, high) }
word_fits (negsuc n) word = let low = word.0 in record { sfits = omega (arith, ints, low) }

pub signed_text : (n : ℤ) (word : List ℕ) → IsWord n → word ≡ signed_decimal n → IsUtf8 word
signed_text n word small is = IsUtf8-from_ascii word (subst IsAscii (sym is) (IsAscii-signed n (small_mag n small)))

pub signed_parsed : {E : Type 0} (n : ℤ) (word digits : List ℕ) (r : Result ℤ E) → IsWord n → word ≡ signed_decimal n → digits ≡ word → ParsesSigned w32 10 digits r → result_ok r ≡ Some n
signed_parsed n word digits r small is same parses = ap result_ok (parse-signed_decimal w32 n digits r (word_fits n small) (small_mag n small) (same ∙ is) parses)
