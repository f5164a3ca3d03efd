-- Where a lexeme can't go on: a byte after its own with which no longer lexeme goes on.
use Rattle.std.proofs.Common.{◌≡◌, ℕ, ℤ, ◌⊎◌, inl, inr, ◌==◌, ◌||◌, Bool, true, false, cond, List, [], ◌∷◌, ◌++◌, codes, if◌then◌else◌, refl, sym, ap, ◌∙◌, subst, arith, eqb-true}
use Rattle.std.specs.List.{list_all}
use Rattle.std.specs.Char.{is_ascii_digit, is_ascii_hexdigit, is_ascii_alphanumeric}
use Rattle.std.proofs.lemmas.Bool.{both_ways, and_parts, and_from}
use Rattle.std.proofs.lemmas.Bool.Decides.{nat_tests}
use Rattle.fz_grammar.proofs.Lists.{heads, tails, none_is_no_cons}
use Rattle.fz_language.specs.declared.sign.Sign.{Sign}
use Rattle.fz_language.specs.declared.sign.Sign.TheVariants.{Semicolon, Colon, DoubleColon, Comma, LeftParenthesis, RightParenthesis, LeftBracket, RightBracket, LeftBrace, RightBrace, Equals, DoubleDot}
use Rattle.fz_language.specs.declared.keyword.Keyword.{Keyword}
use Rattle.fz_language.specs.Tokens.{Lexeme, Identifier, Word, Number, Float, Text, Punct, IsSpelt, IsWord, is_word_start, is_word_byte, keyword_bytes, is_octal_digit, AreDigits, IsNatural, IsNumber, IsExponent, IsTail, IsPlainFloat, IsFloat, sign_bytes}
use Rattle.fz_language.proofs.LexemeProofs.{keyword_word, sign_of, sign_back}

-- ---- the bytes of numbers and floats

-- what stands in a number or a float, but for the point
abbrev pub is_plain : ℕ → Bool
is_plain b = is_ascii_alphanumeric b || ((b == 43) || (b == 45))

abbrev BeginsDigit : List ℕ → Type 0
BeginsDigit [] = ⊥
BeginsDigit (b ∷ bs) = is_ascii_digit b ≡ true

-- and a digit stands after each point
abbrev Goes : List ℕ → Type 0
Goes [] = Unit {0}
Goes (b ∷ bs) = ((is_plain b ≡ true) ⊎ ((b ≡ 46) × BeginsDigit bs)) × Goes bs

each_passes : (p q : ℕ → Bool) → ((b : ℕ) → p b ≡ true → q b ≡ true) → (bs : List ℕ) → list_all p bs ≡ true → list_all q bs ≡ true
each_passes p q imply [] h = refl
each_passes p q imply (b ∷ bs) h =
    let a = and_parts (p b) (list_all p bs) h in
    and_from (q b) (list_all q bs) (imply b a.0) (each_passes p q imply bs a.1)

digit_plain : (b : ℕ) → is_ascii_digit b ≡ true → is_plain b ≡ true
digit_plain b h = grind (arith, nat_tests)

hex_plain : (b : ℕ) → is_ascii_hexdigit b ≡ true → is_plain b ≡ true
hex_plain b h = grind (arith, nat_tests)

octal_plain : (b : ℕ) → is_octal_digit b ≡ true → is_plain b ≡ true
octal_plain b h = digit_plain b (and_parts (is_ascii_digit b) _ h).0

plain_goes : (xs ys : List ℕ) → list_all is_plain xs ≡ true → Goes ys → Goes (xs ++ ys)
plain_goes [] ys h g = g
plain_goes (x ∷ xs) ys h g =
    let a = and_parts (is_plain x) (list_all is_plain xs) h in
    (inl a.0, plain_goes xs ys a.1 g)

digits_go : (xs ys : List ℕ) → AreDigits is_ascii_digit xs → Goes ys → Goes (xs ++ ys)
digits_go xs ys d g = plain_goes xs ys (each_passes is_ascii_digit is_plain digit_plain xs d.1) g

letter_plain : (e : ℕ) → (e ≡ 101) ⊎ (e ≡ 69) → is_plain e ≡ true
letter_plain e (inl q) = ap is_plain q
letter_plain e (inr q) = ap is_plain q

nothing_more : (xs : List ℕ) → xs ++ [] ≡ xs
nothing_more [] = refl
nothing_more (x ∷ xs) = ap (λ (ys : List ℕ). x ∷ ys) (nothing_more xs)

alone : (p : ℕ → Bool) → ((b : ℕ) → p b ≡ true → is_plain b ≡ true) → (xs : List ℕ) → list_all p xs ≡ true → Goes xs
alone p imply xs h = subst Goes (nothing_more xs) (plain_goes xs [] (each_passes p is_plain imply xs h) tt)

exponent_goes : (bs : List ℕ) → IsExponent bs → Goes bs
exponent_goes bs x =
    let d = alone is_ascii_digit digit_plain x.1 x.3.1 in
    let l = letter_plain x.0 x.2 in
    elim x.4 [
      | inl q ↦ subst Goes (sym q) (inl l, d)
      | inr r ↦ elim r [
        | inl q ↦ subst Goes (sym q) (inl l, (inl refl, d))
        | inr q ↦ subst Goes (sym q) (inl l, (inl refl, d))
      ]
    ]

begins_digit : (xs ys : List ℕ) → AreDigits is_ascii_digit xs → BeginsDigit (xs ++ ys)
begins_digit [] ys d = absurd (omega (arith, d.0))
begins_digit (x ∷ xs) ys d = (and_parts (is_ascii_digit x) (list_all is_ascii_digit xs) d.1).0

maybe_exponent_goes : (bs : List ℕ) → (bs ≡ []) ⊎ IsExponent bs → Goes bs
maybe_exponent_goes bs (inl e) = subst Goes (sym e) tt
maybe_exponent_goes bs (inr x) = exponent_goes bs x

tail_goes : (bs : List ℕ) → IsTail bs → Goes bs
tail_goes bs (inl t) = subst Goes (sym t.2) (inr (refl, begins_digit t.0 t.1 t.3), digits_go t.0 t.1 t.3 (maybe_exponent_goes t.1 t.4))
tail_goes bs (inr x) = exponent_goes bs x

plain_float_goes : (bs : List ℕ) → IsPlainFloat bs → Goes bs
plain_float_goes bs f = subst Goes (sym f.2) (digits_go f.0 f.1 f.3 (tail_goes f.1 f.4))

natural_goes : (n : ℕ) (bs : List ℕ) → IsNatural n bs → Goes bs
natural_goes n bs (inl d) = alone is_ascii_digit digit_plain bs d.0.1
natural_goes n bs (inr (inl o)) = subst Goes (sym o.1) (inl refl, (inl refl, alone is_ascii_hexdigit hex_plain o.0 o.2.1))
natural_goes n bs (inr (inr o)) = subst Goes (sym o.1) (inl refl, (inl refl, alone is_octal_digit octal_plain o.0 o.2.1))

number_goes : (v : ℤ) (bs : List ℕ) → IsNumber v bs → Goes bs
number_goes v bs (inl p) = natural_goes p.0 bs p.1
number_goes v bs (inr p) = subst Goes (sym p.2) (inl refl, natural_goes p.0 p.1 p.3)

float_goes : (bs : List ℕ) → IsFloat bs → Goes bs
float_goes bs (inl p) = plain_float_goes bs p
float_goes bs (inr p) = subst Goes (sym p.1) (inl refl, plain_float_goes p.0 p.2)

goes_behind : (xs ys : List ℕ) → Goes (xs ++ ys) → Goes ys
goes_behind [] ys g = g
goes_behind (x ∷ xs) ys g = goes_behind xs ys g.1

-- ---- the first byte tells what a lexeme is

-- of a word, of a number, of a string, or of a sign
abbrev pub class : ℕ → ℕ
class b = if is_word_start b then 1 else if is_ascii_digit b || (b == 45) then 2 else if b == 34 then 3 else 4

abbrev class_of : Lexeme → ℕ
class_of (Identifier name) = 1
class_of (Word k) = 1
class_of (Number v) = 2
class_of Float = 2
class_of Text = 3
class_of (Punct s) = 4

word_class : (b : ℕ) → is_word_start b ≡ true → class b ≡ 1
word_class b h = ap (λ (t : Bool). cond t 1 (if is_ascii_digit b || (b == 45) then 2 else if b == 34 then 3 else 4)) h

pub digit_class : (b : ℕ) → is_ascii_digit b ≡ true → class b ≡ 2
digit_class b h = grind (arith, nat_tests)

of_word : (b : ℕ) (bs : List ℕ) → IsWord (b ∷ bs) → class b ≡ 1
of_word b bs w = word_class b w.0

keyword_is_word : (k : Keyword) (bs : List ℕ) → bs ≡ keyword_bytes k → IsWord bs
keyword_is_word k bs e = subst IsWord (sym e) (keyword_word k)

of_digits : (b : ℕ) (bs : List ℕ) → AreDigits is_ascii_digit (b ∷ bs) → class b ≡ 2
of_digits b bs d = digit_class b (and_parts (is_ascii_digit b) (list_all is_ascii_digit bs) d.1).0

of_natural : (n b : ℕ) (bs : List ℕ) → IsNatural n (b ∷ bs) → class b ≡ 2
of_natural n b bs (inl d) = of_digits b bs d.0
of_natural n b bs (inr (inl o)) = ap class (heads b 48 bs (120 ∷ o.0) o.1)
of_natural n b bs (inr (inr o)) = ap class (heads b 48 bs (111 ∷ o.0) o.1)

of_number : (v : ℤ) (b : ℕ) (bs : List ℕ) → IsNumber v (b ∷ bs) → class b ≡ 2
of_number v b bs (inl p) = of_natural p.0 b bs p.1
of_number v b bs (inr p) = ap class (heads b 45 bs p.1 p.2)

of_whole : (whole tail : List ℕ) (b : ℕ) (bs : List ℕ) → b ∷ bs ≡ whole ++ tail → AreDigits is_ascii_digit whole → class b ≡ 2
of_whole [] tail b bs e d = absurd (omega (arith, d.0))
of_whole (w ∷ whole) tail b bs e d = ap class (heads b w bs (whole ++ tail) e) ∙ of_digits w whole d

of_float : (b : ℕ) (bs : List ℕ) → IsFloat (b ∷ bs) → class b ≡ 2
of_float b bs (inl f) = of_whole f.0 f.1 b bs f.2 f.3
of_float b bs (inr f) = ap class (heads b 45 bs f.0 f.1)

abbrev first_of : List ℕ → ℕ
first_of [] = 0
first_of (b ∷ bs) = b

of_sign : (s : Sign) (b : ℕ) (bs : List ℕ) → b ∷ bs ≡ sign_bytes s → class b ≡ 4
of_sign s b bs e = ap (λ (xs : List ℕ). class (first_of xs)) e ∙ by_sign s
  where
    by_sign : (s : Sign) → class (first_of (sign_bytes s)) ≡ 4
    by_sign Semicolon = refl
    by_sign _ = refl

class_is : (x : Lexeme) (b : ℕ) (bs : List ℕ) → IsSpelt x (b ∷ bs) → class b ≡ class_of x
class_is (Identifier name) b bs h = of_word b bs h.0.word
class_is (Word k) b bs h = of_word b bs (keyword_is_word k (b ∷ bs) h)
class_is (Number v) b bs h = of_number v b bs h
class_is Float b bs h = of_float b bs h
class_is Text b bs h = ap class (heads b 34 bs h.0 h.1)
class_is (Punct s) b bs h = of_sign s b bs h

-- ---- where no lexeme goes on

-- after these bytes none goes on with the first of those
abbrev pub Stops : List ℕ → List ℕ → Type 0
Stops bs rest = (x : Lexeme) (c : ℕ) (more behind : List ℕ) → rest ≡ c ∷ (more ++ behind) → IsSpelt x (bs ++ c ∷ more) → ⊥

other_class : (x : Lexeme) (b k l : ℕ) (bs : List ℕ) → class b ≡ k → class_of x ≡ l → (k ≡ l → ⊥) → IsSpelt x (b ∷ bs) → ⊥
other_class x b k l bs e f n h = n (sym e ∙ class_is x b bs h ∙ f)

all_behind : (p : ℕ → Bool) (xs : List ℕ) (c : ℕ) (more : List ℕ) → list_all p (xs ++ c ∷ more) ≡ true → p c ≡ true
all_behind p [] c more h = (and_parts (p c) (list_all p more) h).0
all_behind p (x ∷ xs) c more h = all_behind p xs c more (and_parts (p x) (list_all p (xs ++ c ∷ more)) h).1

word_goes : (x : Lexeme) (b : ℕ) (bs : List ℕ) → class b ≡ 1 → IsSpelt x (b ∷ bs) → list_all is_word_byte bs ≡ true
word_goes (Identifier name) b bs e h = h.0.word.1
word_goes (Word k) b bs e h = (keyword_is_word k (b ∷ bs) h).1
word_goes (Number v) b bs e h = absurd (other_class (Number v) b 1 2 bs e refl (λ q. omega (arith, q)) h)
word_goes Float b bs e h = absurd (other_class Float b 1 2 bs e refl (λ q. omega (arith, q)) h)
word_goes Text b bs e h = absurd (other_class Text b 1 3 bs e refl (λ q. omega (arith, q)) h)
word_goes (Punct s) b bs e h = absurd (other_class (Punct s) b 1 4 bs e refl (λ q. omega (arith, q)) h)

-- a word, at a byte that is none of a word
pub word_stops : (b : ℕ) (bs : List ℕ) (c : ℕ) (cs : List ℕ) → class b ≡ 1 → is_word_byte c ≡ false → Stops (b ∷ bs) (c ∷ cs)
word_stops b bs c cs e f x d more behind r h =
    let g = all_behind is_word_byte bs d more (word_goes x b (bs ++ d ∷ more) e h) in
    both_ways (is_word_byte d) (ap is_word_byte (sym (heads c d cs (more ++ behind) r)) ∙ f) g

number_lexeme : (x : Lexeme) (b : ℕ) (bs : List ℕ) → class b ≡ 2 → IsSpelt x (b ∷ bs) → Goes (b ∷ bs)
number_lexeme (Identifier name) b bs e h = absurd (other_class (Identifier name) b 2 1 bs e refl (λ q. omega (arith, q)) h)
number_lexeme (Word k) b bs e h = absurd (other_class (Word k) b 2 1 bs e refl (λ q. omega (arith, q)) h)
number_lexeme (Number v) b bs e h = number_goes v (b ∷ bs) h
number_lexeme Float b bs e h = float_goes (b ∷ bs) h
number_lexeme Text b bs e h = absurd (other_class Text b 2 3 bs e refl (λ q. omega (arith, q)) h)
number_lexeme (Punct s) b bs e h = absurd (other_class (Punct s) b 2 4 bs e refl (λ q. omega (arith, q)) h)

goes_from : (b : ℕ) (bs : List ℕ) (d : ℕ) (more : List ℕ) (x : Lexeme) → class b ≡ 2 → IsSpelt x ((b ∷ bs) ++ d ∷ more) → Goes (d ∷ more)
goes_from b bs d more x e h = goes_behind (b ∷ bs) (d ∷ more) (number_lexeme x b (bs ++ d ∷ more) e h)

-- a number, at a byte that is none of a number
pub number_stops : (b : ℕ) (bs : List ℕ) (c : ℕ) (cs : List ℕ) → class b ≡ 2 → is_plain c ≡ false → (c ≡ 46 → ⊥) → Stops (b ∷ bs) (c ∷ cs)
number_stops b bs c cs e f n x d more behind r h =
    let s : d ≡ c = sym (heads c d cs (more ++ behind) r) in
    elim (goes_from b bs d more x e h).0 [
      | inl p ↦ both_ways (is_plain d) (ap is_plain s ∙ f) p
      | inr p ↦ n (sym s ∙ p.0)
    ]

no_two_points : (more behind cs : List ℕ) → 46 ∷ cs ≡ more ++ behind → BeginsDigit more → ⊥
no_two_points [] behind cs e d = d
no_two_points (m ∷ more) behind cs e d = both_ways (is_ascii_digit m) (ap is_ascii_digit (sym (heads 46 m cs (more ++ behind) e))) d

-- or at two points
pub number_stops_at_points : (b : ℕ) (bs cs : List ℕ) → class b ≡ 2 → Stops (b ∷ bs) (46 ∷ 46 ∷ cs)
number_stops_at_points b bs cs e x d more behind r h =
    let s : d ≡ 46 = sym (heads 46 d (46 ∷ cs) (more ++ behind) r) in
    elim (goes_from b bs d more x e h).0 [
      | inl p ↦ both_ways (is_plain d) (ap is_plain s) p
      | inr p ↦ no_two_points more behind cs (tails 46 d (46 ∷ cs) (more ++ behind) r) p.1
    ]

-- the sign alone, where a colon has a space after it
abbrev pub stands_alone : Sign → ℕ → Bool
stands_alone Semicolon c = true
stands_alone Colon c = c == 32
stands_alone DoubleColon c = true
stands_alone Comma c = true
stands_alone LeftParenthesis c = true
stands_alone RightParenthesis c = true
stands_alone LeftBracket c = true
stands_alone RightBracket c = true
stands_alone LeftBrace c = true
stands_alone RightBrace c = true
stands_alone Equals c = true
stands_alone DoubleDot c = true

-- no sign has these bytes
abbrev IsNoSign : List ℕ → Type 0
IsNoSign bs = (s : Sign) → bs ≡ sign_bytes s → ⊥

no_sign : (bs : List ℕ) → sign_of bs ≡ DoubleDot → (bs ≡ codes ".." → ⊥) → IsNoSign bs
no_sign bs e n s h = n (h ∙ ap sign_bytes (sym (sign_back s) ∙ ap sign_of (sym h) ∙ e))

-- nor has those of two points with more after them
no_points : (b : ℕ) (bs : List ℕ) → (b ≡ 46 → ⊥) → b ∷ bs ≡ codes ".." → ⊥
no_points b bs n e = n (heads b 46 bs (46 ∷ []) e)

no_more_points : (c : ℕ) (more : List ℕ) → 46 ∷ 46 ∷ c ∷ more ≡ codes ".." → ⊥
no_more_points c more e = none_is_no_cons c more (sym (tails 46 46 (c ∷ more) [] (tails 46 46 (46 ∷ c ∷ more) (46 ∷ []) e)))

no_longer_sign : (t : Sign) (c : ℕ) (more : List ℕ) → stands_alone t c ≡ true → IsNoSign (sign_bytes t ++ c ∷ more)
no_longer_sign Semicolon c more a = no_sign _ refl (no_points _ _ (λ e. omega (arith, e)))
no_longer_sign Colon c more a = subst (λ (d : ℕ). IsNoSign (58 ∷ d ∷ more)) (sym (eqb-true c 32 a)) (no_sign (58 ∷ 32 ∷ more) refl (no_points _ _ (λ e. omega (arith, e))))
no_longer_sign DoubleColon c more a = no_sign _ refl (no_points _ _ (λ e. omega (arith, e)))
no_longer_sign Comma c more a = no_sign _ refl (no_points _ _ (λ e. omega (arith, e)))
no_longer_sign LeftParenthesis c more a = no_sign _ refl (no_points _ _ (λ e. omega (arith, e)))
no_longer_sign RightParenthesis c more a = no_sign _ refl (no_points _ _ (λ e. omega (arith, e)))
no_longer_sign LeftBracket c more a = no_sign _ refl (no_points _ _ (λ e. omega (arith, e)))
no_longer_sign RightBracket c more a = no_sign _ refl (no_points _ _ (λ e. omega (arith, e)))
no_longer_sign LeftBrace c more a = no_sign _ refl (no_points _ _ (λ e. omega (arith, e)))
no_longer_sign RightBrace c more a = no_sign _ refl (no_points _ _ (λ e. omega (arith, e)))
no_longer_sign Equals c more a = no_sign _ refl (no_points _ _ (λ e. omega (arith, e)))
no_longer_sign DoubleDot c more a = no_sign _ refl (no_more_points c more)

sign_lexeme : (x : Lexeme) (b : ℕ) (bs : List ℕ) → class b ≡ 4 → IsSpelt x (b ∷ bs) → (s : Sign) × (b ∷ bs ≡ sign_bytes s)
sign_lexeme (Identifier name) b bs e h = absurd (other_class (Identifier name) b 4 1 bs e refl (λ q. omega (arith, q)) h)
sign_lexeme (Word k) b bs e h = absurd (other_class (Word k) b 4 1 bs e refl (λ q. omega (arith, q)) h)
sign_lexeme (Number v) b bs e h = absurd (other_class (Number v) b 4 2 bs e refl (λ q. omega (arith, q)) h)
sign_lexeme Float b bs e h = absurd (other_class Float b 4 2 bs e refl (λ q. omega (arith, q)) h)
sign_lexeme Text b bs e h = absurd (other_class Text b 4 3 bs e refl (λ q. omega (arith, q)) h)
sign_lexeme (Punct s) b bs e h = (s, h)

sign_goes : (t : Sign) (x : Lexeme) (more : List ℕ) → IsSpelt x (sign_bytes t ++ more) → (s : Sign) × (sign_bytes t ++ more ≡ sign_bytes s)
sign_goes Semicolon x more h = sign_lexeme x _ _ refl h
sign_goes _ x more h = sign_lexeme x _ _ refl h

pub sign_stops : (t : Sign) (c : ℕ) (cs : List ℕ) → stands_alone t c ≡ true → Stops (sign_bytes t) (c ∷ cs)
sign_stops t c cs a x d more behind r h =
    let g = sign_goes t x (d ∷ more) h in
    no_longer_sign t d more (ap (stands_alone t) (sym (heads c d cs (more ++ behind) r)) ∙ a) g.0 g.1

-- nothing goes on at the end
pub end_stops : (bs : List ℕ) → Stops bs []
end_stops bs x d more behind r h = cc
