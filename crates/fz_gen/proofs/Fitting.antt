-- The pieces of a knapsack fit: each token ends where its bytes do.
use Rattle.std.proofs.Common.{◌≡◌, ℕ, zero, suc, ℤ, pos, negsuc, ◌+◌, ◌*◌, ◌/◌, ◌%◌, ◌^◌, ◌<◌, ◌≤◌, inl, inr, ◌==◌, Bool, true, false, List, [], ◌∷◌, ◌++◌, length, codes, map, refl, sym, ap, ◌∙◌, arith, length-append}
use Rattle.std.specs.Prelude.{decimal, sum_by}
use Rattle.std.specs.List.{range_with_len, list_all}
use Rattle.std.specs.Char.{is_ascii_digit}
use Rattle.std.proofs.lemmas.Bool.{and_parts, and_from, both_ways}
use Rattle.std.proofs.lemmas.Bool.Decides.{nat_tests}
use Rattle.std.proofs.lemmas.Int.{ints}
use Rattle.std.proofs.lemmas.List.Sums.{fold_push, sum_by-cons}
use Rattle.std.proofs.lemmas.List.Folds.{list_all-append}
use Rattle.std.proofs.lemmas.List.FromFn.{length-map-range_with_len}
use Rattle.std.proofs.lemmas.Fmt.{decimal_by_steps, length-decimal-le}
use Rattle.fz_language.specs.declared.sign.Sign.{Sign}
use Rattle.fz_language.specs.declared.sign.Sign.TheVariants.{Semicolon, Colon, DoubleColon, Comma, LeftParenthesis, RightParenthesis, LeftBracket, RightBracket, DoubleDot}
use Rattle.fz_language.specs.declared.keyword.Keyword.{Keyword}
use Rattle.fz_language.specs.declared.keyword.Keyword.TheVariants as keyword
use Rattle.fz_language.specs.Tokens.{Identifier, Word, Number, Punct, AreDigits, digits_value, digit_value, is_word_byte, keyword_bytes, sign_bytes, AreTokensOf}
use Rattle.fz_language.proofs.Decisions.{lexeme, spelt_of}
use Rattle.fz_spec.specs.declared.limits.TheConstants.{TEXT_LIMIT}
use Rattle.fz_gen.specs.declared.text.Measure.{Measure}
use Rattle.fz_gen.specs.declared.text.Measure.TheVariants.{Weight, Value}
use Rattle.fz_gen.specs.Knapsack.{measure_of, total, knapsack}
use Rattle.fz_gen.proofs.Cuts.{digit_class}
use Rattle.fz_gen.proofs.Spelling.{Piece, bytes, tokens, IsSaid, Fits, is_cut, Begins, leads, short}
use Rattle.fz_gen.proofs.Texts.{Entry, Written, Known, lexeme_in, bytes_in, entry, sign, number, nought, minus_one, name_of, goal_name, further, listed, line, choice, choices, goal, sum, solve, measures, names, weights, values, whole}
use Rattle.fz_gen.proofs.Written.{whole_bytes}

-- ---- numbers

-- these digits are the number's
abbrev AreOf : ℕ → List ℕ → Type 0
AreOf n ds = AreDigits is_ascii_digit ds × (n ≡ digits_value 10 ds)

some_length : (ds : List ℕ) (d : ℕ) → 0 < length (ds ++ d ∷ [])
some_length ds d = let n = length-append ds (d ∷ []) in omega (arith, n)

digit_is : (d : ℕ) → d < 10 → is_ascii_digit (48 + d) ≡ true
digit_is d l = grind (arith, nat_tests)

digit_value_is : (d : ℕ) → d < 10 → digit_value (48 + d) ≡ d
digit_value_is d l = grind (arith, nat_tests)

one_digit : (n : ℕ) → n < 10 → AreOf n ((48 + n) ∷ [])
one_digit n l = ((omega arith, and_from (is_ascii_digit (48 + n)) true (digit_is n l) refl), (let v = digit_value_is n l in omega (arith, v)))

more_digits : (n : ℕ) (ds : List ℕ) → 10 ≤ n → AreOf (n / 10) ds → AreOf n (ds ++ ((48 + n % 10) ∷ []))
more_digits n ds l h =
    let small : n % 10 < 10 = omega arith in
    let v = digit_value_is (n % 10) small in
    let e : digits_value 10 (ds ++ (48 + n % 10) ∷ []) ≡ 10 * digits_value 10 ds + digit_value (48 + n % 10) = fold_push (λ a x. 10 * a + digit_value x) 0 ds (48 + n % 10) in (
      (some_length ds (48 + n % 10), list_all-append is_ascii_digit ds ((48 + n % 10) ∷ []) ∙ and_from (list_all is_ascii_digit ds) (list_all is_ascii_digit ((48 + n % 10) ∷ [])) h.0.1 (and_from (is_ascii_digit (48 + n % 10)) true (digit_is (n % 10) small) refl)),
      (let w = h.1 in omega (arith, e, v, w)),
    )

small_fits : (n : ℕ) → n < 10000 → n < 2 ^ 64
small_fits n l = omega arith

decimal_is : (n : ℕ) → n < 10000 → AreOf n (decimal n)
decimal_is n l = decimal_by_steps AreOf one_digit more_digits n (small_fits n l)

begins_number : (v : ℤ) (ds : List ℕ) → AreDigits is_ascii_digit ds → Begins (Number v) ds
begins_number v [] d = absurd (omega (arith, d.0))
begins_number v (b ∷ bs) d = (b, bs, refl, digit_class b (and_parts (is_ascii_digit b) (list_all is_ascii_digit bs) d.1).0)

number_said : (n : ℕ) → n < 10000 → IsSaid (Number (pos n)) (decimal n)
number_said n l =
    let d = decimal_is n l in
    let k : length (decimal n) ≤ 4 = length-decimal-le 4 n (omega arith) (omega arith) (small_fits n l) in
    record {
      spelt = inl (n, inl d, refl);
      begins = begins_number (pos n) (decimal n) d.0;
      fine = (omega (arith, ints), omega (arith, ints, l));
      few = omega (arith, k);
    }

nought_said : IsSaid (Number (pos 0)) (codes "0")
nought_said = record { spelt = inl (0, inl ((omega arith, refl), refl), refl); begins = (48, [], refl, refl); fine = (omega (arith, ints), omega (arith, ints)); few = omega arith }

one_said : IsSaid (Number (pos 1)) (codes "1")
one_said = record { spelt = inl (1, inl ((omega arith, refl), refl), refl); begins = (49, [], refl, refl); fine = (omega (arith, ints), omega (arith, ints)); few = omega arith }

minus_one_said : IsSaid (Number (negsuc 0)) (codes "-1")
minus_one_said = record {
  spelt = inr (1, codes "1", refl, inl ((omega arith, refl), refl), refl);
  begins = (45, codes "1", refl, refl);
  fine = (omega (arith, ints), omega (arith, ints));
  few = omega arith;
}

-- ---- words and signs

digit_in_word : (b : ℕ) → is_ascii_digit b ≡ true → is_word_byte b ≡ true
digit_in_word b h = grind (arith, nat_tests)

digits_in_word : (ds : List ℕ) → list_all is_ascii_digit ds ≡ true → list_all is_word_byte ds ≡ true
digits_in_word [] h = refl
digits_in_word (d ∷ ds) h =
    let a = and_parts (is_ascii_digit d) (list_all is_ascii_digit ds) h in
    and_from (is_word_byte d) (list_all is_word_byte ds) (digit_in_word d a.0) (digits_in_word ds a.1)

abbrev begins_x : List ℕ → Bool
begins_x [] = false
begins_x (b ∷ bs) = b == 120

no_keyword : (k : Keyword) → begins_x (keyword_bytes k) ≡ false
no_keyword keyword.Array = refl
no_keyword _ = refl

name_said : (i : ℕ) → i < 10000 → IsSaid (Identifier (name_of i)) (name_of i)
name_said i l =
    let d = decimal_is i l in
    let k : length (decimal i) ≤ 4 = length-decimal-le 4 i (omega arith) (omega arith) (small_fits i l) in
    record {
      spelt = (record { word = (refl, digits_in_word (decimal i) d.0.1); free = λ w e. both_ways (begins_x (keyword_bytes w)) (no_keyword w) (sym (ap begins_x e)) }, refl);
      begins = (120, decimal i, refl, refl);
      fine = tt;
      few = omega (arith, k);
    }

word_said : (k : Keyword) → IsSaid (Word k) (keyword_bytes k)
word_said keyword.Array = record { spelt = refl; begins = (_, _, refl, refl); fine = tt; few = omega arith }
word_said _ = record { spelt = refl; begins = (_, _, refl, refl); fine = tt; few = omega arith }

sign_said : (s : Sign) → IsSaid (Punct s) (sign_bytes s)
sign_said Semicolon = record { spelt = refl; begins = refl; fine = tt; few = omega arith }
sign_said _ = record { spelt = refl; begins = refl; fine = tt; few = omega arith }

z_said : IsSaid (Identifier (codes "z")) (codes "z")
z_said = record { spelt = spelt_of (Identifier (codes "z")) (lexeme (codes "z")) refl; begins = (_, _, refl, refl); fine = tt; few = omega arith }

output_said : IsSaid (Identifier (codes "output_var")) (codes "output_var")
output_said = record { spelt = spelt_of (Identifier (codes "output_var")) (lexeme (codes "output_var")) refl; begins = (_, _, refl, refl); fine = tt; few = omega arith }

at_most_said : IsSaid (Identifier (codes "int_lin_le")) (codes "int_lin_le")
at_most_said = record { spelt = spelt_of (Identifier (codes "int_lin_le")) (lexeme (codes "int_lin_le")) refl; begins = (_, _, refl, refl); fine = tt; few = omega arith }

equal_said : IsSaid (Identifier (codes "int_lin_eq")) (codes "int_lin_eq")
equal_said = record { spelt = spelt_of (Identifier (codes "int_lin_eq")) (lexeme (codes "int_lin_eq")) refl; begins = (_, _, refl, refl); fine = tt; few = omega arith }

-- ---- lists

abbrev EntrySaid : Entry → Type 0
EntrySaid e = IsSaid (lexeme_in e) (bytes_in e)

abbrev AllSaid : List Entry → Type 0
AllSaid [] = Unit {0}
AllSaid (e ∷ es) = EntrySaid e × AllSaid es

cut_at_further : (e : Entry) (es : List Entry) (ps : List Piece) → is_cut (lexeme_in e) (bytes (further es ps)) ≡ true
cut_at_further (Written value digits) [] ps = refl
cut_at_further (Written value digits) (f ∷ es) ps = refl
cut_at_further (Known name) [] ps = refl
cut_at_further (Known name) (f ∷ es) ps = refl

further_fits : (es : List Entry) (ps : List Piece) → AllSaid es → Fits ps → Fits (further es ps)
further_fits [] ps g f = (sign_said RightBracket, refl, f)
further_fits (e ∷ es) ps g f = (sign_said Comma, refl, (g.0, cut_at_further e es ps, further_fits es ps g.1 f))

listed_fits : (es : List Entry) (ps : List Piece) → AllSaid es → Fits ps → Fits (listed es ps)
listed_fits [] ps g f = (sign_said LeftBracket, refl, (sign_said RightBracket, refl, f))
listed_fits (e ∷ es) ps g f = (sign_said LeftBracket, refl, (g.0, cut_at_further e es ps, further_fits es ps g.1 f))

-- ---- items

choice_fits : (i : ℕ) (ps : List Piece) → i < 10000 → Fits ps → Fits (choice i ps)
choice_fits i ps l f = (
  word_said keyword.Var,
  refl,
  (refl, (nought_said, refl, (sign_said DoubleDot, refl, (one_said, refl, (sign_said Colon, refl, (refl, (name_said i l, refl, (sign_said Semicolon, refl, (refl, f))))))))),
)

choices_fit : (i k : ℕ) (ps : List Piece) → i + k ≤ 10000 → Fits ps → Fits (choices i k ps)
choices_fit i zero ps l f = f
choices_fit i (suc k) ps l f = choice_fits i (choices (i + 1) k ps) (omega arith) (choices_fit (i + 1) k ps (omega arith) f)

goal_fits : (most : ℕ) (ps : List Piece) → most < 10000 → Fits ps → Fits (goal most ps)
goal_fits most ps l f = (
  word_said keyword.Var,
  refl,
  (refl, (nought_said, refl, (sign_said DoubleDot, refl, (number_said most l, refl, (sign_said Colon, refl, (refl, (z_said, refl, (refl, (sign_said DoubleColon, refl, (refl, (output_said, refl, (sign_said Semicolon, refl, (refl, f))))))))))))),
)

sum_fits : (name : List ℕ) (factors terms : List Entry) (bound : Entry) (ps : List Piece) → IsSaid (Identifier name) name → AllSaid factors → AllSaid terms → EntrySaid bound → ((cs : List ℕ) → is_cut (lexeme_in bound) (41 ∷ cs) ≡ true) → Fits ps
    → Fits (sum name factors terms bound ps)
sum_fits name factors terms bound ps n a b c cut f = (
  word_said keyword.Constraint,
  refl,
  (
    refl,
    (
      n,
      refl,
      (
        sign_said LeftParenthesis,
        refl,
        listed_fits factors _ a (sign_said Comma, refl, listed_fits terms _ b (sign_said Comma, refl, (c, cut _, (sign_said RightParenthesis, refl, (sign_said Semicolon, refl, (refl, f)))))),
      ),
    ),
  ),
)

solve_fits : Fits solve
solve_fits = (word_said keyword.Solve, refl, (refl, (word_said keyword.Maximize, refl, (refl, (z_said, refl, (sign_said Semicolon, refl, (refl, tt)))))))

-- ---- the whole

measure_small : (m : Measure) (i : ℕ) → measure_of m i ≤ 9
measure_small Weight i = omega arith
measure_small Value i = omega arith

total_small : (m : Measure) (i n : ℕ) → sum_by (measure_of m) (range_with_len i n) ≤ 9 * n
total_small m i zero = omega arith
total_small m i (suc n) =
    let h = total_small m (i + 1) n in
    let s = measure_small m i in
    let e = sum_by-cons (measure_of m) i (range_with_len (i + 1) n) in
    omega (arith, h, s, e)

measures_said : (m : Measure) (i n : ℕ) → AllSaid (map (λ j. number (measure_of m j)) (range_with_len i n))
measures_said m i zero = tt
measures_said m i (suc n) = (number_said (measure_of m i) (let s = measure_small m i in omega (arith, s)), measures_said m (i + 1) n)

names_said : (i n : ℕ) → i + n ≤ 10000 → AllSaid (map (λ j. Known (name_of j)) (range_with_len i n))
names_said i zero l = tt
names_said i (suc n) l = (name_said i (omega arith), names_said (i + 1) n (omega arith))

with_last : (es : List Entry) (e : Entry) → AllSaid es → EntrySaid e → AllSaid (es ++ e ∷ [])
with_last [] e h g = (g, tt)
with_last (x ∷ es) e h g = (h.0, with_last es e h.1 g)

whole_fits : (n : ℕ) → n ≤ 1000 → Fits (whole n)
whole_fits n l =
    let v = total_small Value 1 n in
    let w = total_small Weight 1 n in
    choices_fit 1 n (goal (total Value n) (weights n (values n solve))) (omega (arith, l))
    (goal_fits (total Value n) (weights n (values n solve)) (omega (arith, l, v))
    (sum_fits _ (measures Weight n) (names n) (number (total Weight n / 2)) (values n solve) at_most_said (measures_said Weight 1 n) (names_said 1 n (omega (arith, l))) (number_said (total Weight n / 2) (omega (arith, l, w))) (λ cs. refl)
    (sum_fits _ (measures Value n ++ minus_one ∷ []) (names n ++ Known goal_name ∷ []) nought solve equal_said (with_last (measures Value n) minus_one (measures_said Value 1 n) minus_one_said) (with_last (names n) (Known goal_name) (names_said 1 n (omega (arith, l))) z_said) nought_said (λ cs. refl) solve_fits)))

-- how many pieces there are

further_count : (es : List Entry) (ps : List Piece) → length (further es ps) ≡ 2 * length es + 1 + length ps
further_count [] ps = omega arith
further_count (e ∷ es) ps = let h = further_count es ps in omega (arith, h)

listed_count : (es : List Entry) (ps : List Piece) → length (listed es ps) ≤ 2 * length es + 2 + length ps
listed_count [] ps = omega arith
listed_count (e ∷ es) ps = let h = further_count es ps in omega (arith, h)

choices_count : (i k : ℕ) (ps : List Piece) → length (choices i k ps) ≡ 10 * k + length ps
choices_count i zero ps = omega arith
choices_count i (suc k) ps = let h = choices_count (i + 1) k ps in omega (arith, h)

length_mapped : (f : ℕ → Entry) (i n : ℕ) → length (map f (range_with_len i n)) ≡ n
length_mapped f i n = length-map-range_with_len f i n

one_longer : (es : List Entry) (e : Entry) → length (es ++ e ∷ []) ≡ length es + 1
one_longer es e = length-append es (e ∷ [])

sum_count : (name : List ℕ) (factors terms : List Entry) (bound : Entry) (ps : List Piece) → length (sum name factors terms bound ps) ≤ 2 * length factors + 2 * length terms + 20 + length ps
sum_count name factors terms bound ps =
    let a = listed_count factors (sign Comma ∷ listed terms (sign Comma ∷ entry bound ∷ sign RightParenthesis ∷ sign Semicolon ∷ line ∷ ps)) in
    let b = listed_count terms (sign Comma ∷ entry bound ∷ sign RightParenthesis ∷ sign Semicolon ∷ line ∷ ps) in
    omega (arith, a, b)

whole_count : (n : ℕ) → length (whole n) ≤ 18 * n + 100
whole_count n =
    let a = choices_count 1 n (goal (total Value n) (weights n (values n solve))) in
    let b = sum_count (codes "int_lin_le") (measures Weight n) (names n) (number (total Weight n / 2)) (values n solve) in
    let c = sum_count (codes "int_lin_eq") (measures Value n ++ minus_one ∷ []) (names n ++ Known goal_name ∷ []) nought solve in
    let d = length_mapped (λ i. number (measure_of Weight i)) 1 n in
    let e = length_mapped (λ i. number (measure_of Value i)) 1 n in
    let f = length_mapped (λ i. Known (name_of i)) 1 n in
    let g = one_longer (measures Value n) minus_one in
    let h = one_longer (names n) (Known goal_name) in
    omega (arith, a, b, c, d, e, f, g, h)

pub is_short : (n : ℕ) → 1 ≤ n → n ≤ 1000 → length (knapsack n) ≤ TEXT_LIMIT
is_short n some few =
    let c = whole_count n in
    let s = short (whole n) (whole_fits n few) in
    let e = ap (λ (xs : List ℕ). length xs) (whole_bytes n some) in
    omega (arith, few, c, s, e)

pub are_tokens : (n : ℕ) → 1 ≤ n → n ≤ 1000 → AreTokensOf (knapsack n) (tokens 0 (whole n))
are_tokens n some few = leads (knapsack n) [] 0 (whole n) (sym (whole_bytes n some)) refl (whole_fits n few)
