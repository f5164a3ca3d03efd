-- Bytes spell one lexeme at most, and the first of them is no blank.
use Rattle.std.proofs.Common.{◌≡◌, ◌≢◌, ℕ, ℤ, pos, ◌-ℤ◌, ◌⊎◌, inl, inr, Bool, true, false, cond, List, [], ◌∷◌, ◌++◌, codes, bytes_eq, refl, sym, ap, ◌∙◌, subst, arith}
use Rattle.std.specs.List.{list_all}
use Rattle.std.specs.Char.{is_ascii_digit}
use Rattle.std.proofs.lemmas.Bool.{both_ways, and_parts}
use Rattle.std.proofs.lemmas.Bool.Decides.{nat_tests}
use Rattle.fz_grammar.proofs.Lists.{heads, tails}
use Rattle.fz_language.specs.declared.sign.Sign.{Sign}
use Rattle.fz_language.specs.declared.sign.Sign.TheVariants.{Semicolon, Colon, DoubleColon, Comma, LeftParenthesis, RightParenthesis, LeftBracket, RightBracket, LeftBrace, RightBrace, Equals, DoubleDot}
use Rattle.fz_language.specs.declared.keyword.Keyword.{Keyword}
use Rattle.fz_language.specs.declared.keyword.Keyword.TheVariants as keyword
use Rattle.fz_language.specs.Tokens.{Lexeme, Identifier, Word, Number, Float, Text, Punct, IsSpelt, IsWord, keyword_bytes, AreDigits, digits_value, IsNatural, IsNumber, IsExponent, IsTail, IsPlainFloat, IsFloat, IsText, sign_bytes, is_blank, is_word_start}

pub clash : (p : ℕ → Bool) (x y : ℕ) → x ≡ y → p x ≡ true → p y ≡ false → ⊥
clash p x y e t f = both_ways (p y) f (subst (λ (n : ℕ). p n ≡ true) e t)

-- the first byte of bytes, of which something holds
record First (P : ℕ → Type 0) (bs : List ℕ) : Type 0 where
  head : ℕ
  more : List ℕ
  are : bs ≡ head ∷ more
  holds : P head

same_head : {P Q : ℕ → Type 0} (bs : List ℕ) → First P bs → First Q bs → ((b : ℕ) → P b → Q b → ⊥) → ⊥
same_head {P} {Q} bs f g no_one = no_one f.head f.holds (subst Q (heads g.head f.head g.more f.more (sym g.are ∙ f.are)) g.holds)

-- what each kind begins with

IsStart : ℕ → Type 0
IsStart b = is_word_start b ≡ true

abbrev IsDigitOrMinus : ℕ → Type 0
IsDigitOrMinus b = (is_ascii_digit b ≡ true) ⊎ (b ≡ 45)

abbrev IsOfSign : ℕ → Type 0
IsOfSign b = (is_word_start b ≡ false) × (is_ascii_digit b ≡ false) × (b ≢ 45) × (b ≢ 34) × (is_blank b ≡ false)

word_first : (bs : List ℕ) → IsWord bs → First (λ b. is_word_start b ≡ true) bs
word_first [] w = absurd w
word_first (b ∷ bs) w = record { head = b; more = bs; are = refl; holds = w.0 }

pub keyword_word : (k : Keyword) → IsWord (keyword_bytes k)
keyword_word keyword.Array = (refl, refl)
keyword_word _ = (refl, refl)

keyword_first : (k : Keyword) (bs : List ℕ) → bs ≡ keyword_bytes k → First (λ b. is_word_start b ≡ true) bs
keyword_first k bs e = word_first bs (subst IsWord (sym e) (keyword_word k))

digits_first : (p : ℕ → Bool) (ds : List ℕ) → AreDigits p ds → First (λ b. p b ≡ true) ds
digits_first p [] d = absurd (omega (arith, d.0))
digits_first p (b ∷ bs) d = record { head = b; more = bs; are = refl; holds = (and_parts (p b) (list_all p bs) d.1).0 }

natural_first : (n : ℕ) (bs : List ℕ) → IsNatural n bs → First (λ b. is_ascii_digit b ≡ true) bs
natural_first n bs (inl d) = digits_first is_ascii_digit bs d.0
natural_first n bs (inr (inl o)) = record { head = 48; more = 120 ∷ o.0; are = o.1; holds = refl }
natural_first n bs (inr (inr o)) = record { head = 48; more = 111 ∷ o.0; are = o.1; holds = refl }

joined_first : {P : ℕ → Type 0} (xs ys bs : List ℕ) → bs ≡ xs ++ ys → First P xs → First P bs
joined_first xs ys bs e f = record { head = f.head; more = f.more ++ ys; are = e ∙ ap (λ (zs : List ℕ). zs ++ ys) f.are; holds = f.holds }

float_first : (bs : List ℕ) → IsPlainFloat bs → First (λ b. is_ascii_digit b ≡ true) bs
float_first bs f = joined_first f.0 f.1 bs f.2 (digits_first is_ascii_digit f.0 f.3)

number_first : (v : ℤ) (bs : List ℕ) → IsNumber v bs → First IsDigitOrMinus bs
number_first v bs (inl p) = let f = natural_first p.0 bs p.1 in record { head = f.head; more = f.more; are = f.are; holds = inl f.holds }
number_first v bs (inr p) = record { head = 45; more = p.1; are = p.2; holds = inr refl }

signed_float_first : (bs : List ℕ) → IsFloat bs → First IsDigitOrMinus bs
signed_float_first bs (inl p) = let f = float_first bs p in record { head = f.head; more = f.more; are = f.are; holds = inl f.holds }
signed_float_first bs (inr p) = record { head = 45; more = p.0; are = p.1; holds = inr refl }

text_first : (bs : List ℕ) → IsText bs → First (λ b. b ≡ 34) bs
text_first bs t = record { head = 34; more = t.0; are = t.1; holds = refl }

sign_of_bytes : (s : Sign) → First IsOfSign (sign_bytes s)
sign_of_bytes Semicolon = record { head = _; more = _; are = refl; holds = (refl, refl, omega arith, omega arith, refl) }
sign_of_bytes _ = record { head = _; more = _; are = refl; holds = (refl, refl, omega arith, omega arith, refl) }

sign_first : (s : Sign) (bs : List ℕ) → bs ≡ sign_bytes s → First IsOfSign bs
sign_first s bs e = subst (First IsOfSign) (sym e) (sign_of_bytes s)

-- no two kinds begin alike

pub digit_no_word : (b : ℕ) → is_ascii_digit b ≡ true → is_word_start b ≡ true → ⊥
digit_no_word b d w = grind (arith, nat_tests)

word_number : (b : ℕ) → is_word_start b ≡ true → IsDigitOrMinus b → ⊥
word_number b w (inl d) = digit_no_word b d w
word_number b w (inr m) = clash is_word_start b 45 m w refl

word_quote : (b : ℕ) → is_word_start b ≡ true → b ≡ 34 → ⊥
word_quote b w q = clash is_word_start b 34 q w refl

word_sign : (b : ℕ) → is_word_start b ≡ true → IsOfSign b → ⊥
word_sign b w s = both_ways (is_word_start b) s.0 w

number_quote : (b : ℕ) → IsDigitOrMinus b → b ≡ 34 → ⊥
number_quote b (inl d) q = clash is_ascii_digit b 34 q d refl
number_quote b (inr m) q = let e : 45 ≡ 34 = sym m ∙ q in omega (arith, e)

number_sign : (b : ℕ) → IsDigitOrMinus b → IsOfSign b → ⊥
number_sign b (inl d) s = both_ways (is_ascii_digit b) s.1 d
number_sign b (inr m) s = s.2 m

quote_sign : (b : ℕ) → b ≡ 34 → IsOfSign b → ⊥
quote_sign b q s = s.3 q

-- a number has one value

no_letter : (p : ℕ → Bool) (l : ℕ) (bs ds : List ℕ) → p l ≡ false → AreDigits p bs → bs ≡ 48 ∷ l ∷ ds → ⊥
no_letter p l bs ds f d e =
    let h : list_all p (48 ∷ l ∷ ds) ≡ true = subst (λ (xs : List ℕ). list_all p xs ≡ true) e d.1 in
    let t = (and_parts (p 48) (list_all p (l ∷ ds)) h).1 in
    both_ways (p l) f (and_parts (p l) (list_all p ds) t).0

same_digits : (l m : ℕ) (bs ds es : List ℕ) → bs ≡ 48 ∷ l ∷ ds → bs ≡ 48 ∷ m ∷ es → (l ≡ m) × (ds ≡ es)
same_digits l m bs ds es e f =
    let t = tails 48 48 (l ∷ ds) (m ∷ es) (sym e ∙ f) in
    (heads l m ds es t, tails l m ds es t)

one_natural : (n m : ℕ) (bs : List ℕ) → IsNatural n bs → IsNatural m bs → n ≡ m
one_natural n m bs (inl d) (inl e) = d.1 ∙ sym e.1
one_natural n m bs (inl d) (inr (inl o)) = absurd (no_letter is_ascii_digit 120 bs o.0 refl d.0 o.1)
one_natural n m bs (inl d) (inr (inr o)) = absurd (no_letter is_ascii_digit 111 bs o.0 refl d.0 o.1)
one_natural n m bs (inr (inl o)) (inl e) = absurd (no_letter is_ascii_digit 120 bs o.0 refl e.0 o.1)
one_natural n m bs (inr (inr o)) (inl e) = absurd (no_letter is_ascii_digit 111 bs o.0 refl e.0 o.1)
one_natural n m bs (inr (inl o)) (inr (inl q)) = o.3 ∙ ap (digits_value 16) (same_digits 120 120 bs o.0 q.0 o.1 q.1).1 ∙ sym q.3
one_natural n m bs (inr (inr o)) (inr (inr q)) = o.3 ∙ ap (digits_value 8) (same_digits 111 111 bs o.0 q.0 o.1 q.1).1 ∙ sym q.3
one_natural n m bs (inr (inl o)) (inr (inr q)) = absurd (let e : 120 ≡ 111 = (same_digits 120 111 bs o.0 q.0 o.1 q.1).0 in omega (arith, e))
one_natural n m bs (inr (inr o)) (inr (inl q)) = absurd (let e : 111 ≡ 120 = (same_digits 111 120 bs o.0 q.0 o.1 q.1).0 in omega (arith, e))

minus_no_digit : (bs ns : List ℕ) → bs ≡ 45 ∷ ns → First (λ b. is_ascii_digit b ≡ true) bs → ⊥
minus_no_digit bs ns e f = clash is_ascii_digit f.head 45 (heads f.head 45 f.more ns (sym f.are ∙ e)) f.holds refl

one_number : (v w : ℤ) (bs : List ℕ) → IsNumber v bs → IsNumber w bs → v ≡ w
one_number v w bs (inl p) (inl q) = p.2 ∙ ap pos (one_natural p.0 q.0 bs p.1 q.1) ∙ sym q.2
one_number v w bs (inl p) (inr q) = absurd (minus_no_digit bs q.1 q.2 (natural_first p.0 bs p.1))
one_number v w bs (inr p) (inl q) = absurd (minus_no_digit bs p.1 p.2 (natural_first q.0 bs q.1))
one_number v w bs (inr p) (inr q) =
    let e : q.1 ≡ p.1 = tails 45 45 q.1 p.1 (sym q.2 ∙ p.2) in
    p.4 ∙ ap (λ (n : ℕ). pos 0 -ℤ pos n) (one_natural p.0 q.0 p.1 p.3 (subst (IsNatural q.0) e q.3)) ∙ sym q.4

-- no number is a float

abbrev IsOfTail : ℕ → Type 0
IsOfTail b = (is_ascii_digit b ≡ false) × (b ≢ 120) × (b ≢ 111)

letter_of_tail : (b : ℕ) → (b ≡ 101) ⊎ (b ≡ 69) → IsOfTail b
letter_of_tail b (inl e) = (ap is_ascii_digit e, λ q. omega (arith, e, q), λ q. omega (arith, e, q))
letter_of_tail b (inr e) = (ap is_ascii_digit e, λ q. omega (arith, e, q), λ q. omega (arith, e, q))

exponent_first : (bs : List ℕ) → IsExponent bs → First IsOfTail bs
exponent_first bs x = elim x.4 [
  | inl e ↦ record { head = x.0; more = x.1; are = e; holds = letter_of_tail x.0 x.2 }
  | inr r ↦ elim r [
    | inl e ↦ record { head = x.0; more = 43 ∷ x.1; are = e; holds = letter_of_tail x.0 x.2 }
    | inr e ↦ record { head = x.0; more = 45 ∷ x.1; are = e; holds = letter_of_tail x.0 x.2 }
  ]
]

tail_first : (bs : List ℕ) → IsTail bs → First IsOfTail bs
tail_first bs (inl t) = record { head = 46; more = t.0 ++ t.1; are = t.2; holds = (refl, omega arith, omega arith) }
tail_first bs (inr x) = exponent_first bs x

no_digit_between : (whole more : List ℕ) (t : ℕ) → list_all is_ascii_digit (whole ++ t ∷ more) ≡ true → is_ascii_digit t ≡ false → ⊥
no_digit_between [] more t h f = both_ways (is_ascii_digit t) f (and_parts (is_ascii_digit t) (list_all is_ascii_digit more) h).0
no_digit_between (x ∷ whole) more t h f = no_digit_between whole more t (and_parts (is_ascii_digit x) (list_all is_ascii_digit (whole ++ t ∷ more)) h).1 f

no_base : (whole more ds : List ℕ) (t l : ℕ) → AreDigits is_ascii_digit whole → IsOfTail t → is_ascii_digit l ≡ false → (t ≡ l → ⊥) → whole ++ t ∷ more ≡ 48 ∷ l ∷ ds → ⊥
no_base [] more ds t l d h f n e = omega (arith, d.0)
no_base (x ∷ []) more ds t l d h f n e = n (heads t l more ds (tails x 48 (t ∷ more) (l ∷ ds) e))
no_base (x ∷ y ∷ whole) more ds t l d h f n e =
    let q : y ≡ l = heads y l (whole ++ t ∷ more) ds (tails x 48 (y ∷ (whole ++ t ∷ more)) (l ∷ ds) e) in
    let a = (and_parts (is_ascii_digit x) (list_all is_ascii_digit (y ∷ whole)) d.1).1 in
    clash is_ascii_digit y l q (and_parts (is_ascii_digit y) (list_all is_ascii_digit whole) a).0 f

natural_no_float : (n : ℕ) (bs : List ℕ) → IsNatural n bs → IsPlainFloat bs → ⊥
natural_no_float n bs x f =
    let t = tail_first f.1 f.4 in
    let e : bs ≡ f.0 ++ t.head ∷ t.more = f.2 ∙ ap (λ (xs : List ℕ). f.0 ++ xs) t.are in
    elim x [
      | inl d ↦ no_digit_between f.0 t.more t.head (subst (λ (xs : List ℕ). list_all is_ascii_digit xs ≡ true) e d.0.1) t.holds.0
      | inr o ↦ elim o [
        | inl q ↦ no_base f.0 t.more q.0 t.head 120 f.3 t.holds refl t.holds.1 (sym e ∙ q.1)
        | inr q ↦ no_base f.0 t.more q.0 t.head 111 f.3 t.holds refl t.holds.2 (sym e ∙ q.1)
      ]
    ]

number_no_float : (v : ℤ) (bs : List ℕ) → IsNumber v bs → IsFloat bs → ⊥
number_no_float v bs (inl p) (inl f) = natural_no_float p.0 bs p.1 f
number_no_float v bs (inl p) (inr f) = minus_no_digit bs f.0 f.1 (natural_first p.0 bs p.1)
number_no_float v bs (inr p) (inl f) = minus_no_digit bs p.1 p.2 (float_first bs f)
number_no_float v bs (inr p) (inr f) = natural_no_float p.0 p.1 p.3 (subst IsPlainFloat (tails 45 45 f.0 p.1 (sym f.1 ∙ p.2)) f.2)

-- the sign and the word of these bytes

abbrev pub sign_of : List ℕ → Sign
sign_of bs = cond (bytes_eq bs (codes ";")) Semicolon (cond (bytes_eq bs (codes ":")) Colon (cond (bytes_eq bs (codes "::")) DoubleColon
    (cond (bytes_eq bs (codes ",")) Comma (cond (bytes_eq bs (codes "(")) LeftParenthesis (cond (bytes_eq bs (codes ")")) RightParenthesis
    (cond (bytes_eq bs (codes "[")) LeftBracket (cond (bytes_eq bs (codes "]")) RightBracket (cond (bytes_eq bs (codes "{")) LeftBrace
    (cond (bytes_eq bs (codes "}")) RightBrace (cond (bytes_eq bs (codes "=")) Equals DoubleDot))))))))))

pub sign_back : (s : Sign) → sign_of (sign_bytes s) ≡ s
sign_back Semicolon = refl
sign_back _ = refl

abbrev pub keyword_in : List ℕ → List Keyword → Keyword
keyword_in bs [] = keyword.Var
keyword_in bs (k ∷ ks) = cond (bytes_eq bs (keyword_bytes k)) k (keyword_in bs ks)

abbrev pub keyword_of : List ℕ → Keyword
keyword_of bs = keyword_in bs (keyword.Array ∷ keyword.Bool ∷ keyword.Constraint ∷ keyword.False ∷ keyword.Float ∷ keyword.Int ∷ keyword.Maximize
    ∷ keyword.Minimize ∷ keyword.Of ∷ keyword.Predicate ∷ keyword.Satisfy ∷ keyword.Set ∷ keyword.Solve ∷ keyword.True ∷ [])

pub keyword_back : (k : Keyword) → keyword_of (keyword_bytes k) ≡ k
keyword_back keyword.Array = refl
keyword_back _ = refl

pub one_lexeme : (x y : Lexeme) (bs : List ℕ) → IsSpelt x bs → IsSpelt y bs → x ≡ y
one_lexeme (Identifier m) (Identifier n) bs h k = ap Identifier (h.1 ∙ sym k.1)
one_lexeme (Identifier m) (Word n) bs h k = absurd (h.0.free n k)
one_lexeme (Word m) (Identifier n) bs h k = absurd (k.0.free m h)
one_lexeme (Word m) (Word n) bs h k = ap Word (sym (keyword_back m) ∙ ap keyword_of (sym h ∙ k) ∙ keyword_back n)
one_lexeme (Identifier m) (Number w) bs h k = absurd (same_head bs (word_first bs h.0.word) (number_first w bs k) word_number)
one_lexeme (Identifier m) Float bs h k = absurd (same_head bs (word_first bs h.0.word) (signed_float_first bs k) word_number)
one_lexeme (Identifier m) Text bs h k = absurd (same_head bs (word_first bs h.0.word) (text_first bs k) word_quote)
one_lexeme (Identifier m) (Punct t) bs h k = absurd (same_head bs (word_first bs h.0.word) (sign_first t bs k) word_sign)
one_lexeme (Word m) (Number w) bs h k = absurd (same_head bs (keyword_first m bs h) (number_first w bs k) word_number)
one_lexeme (Word m) Float bs h k = absurd (same_head bs (keyword_first m bs h) (signed_float_first bs k) word_number)
one_lexeme (Word m) Text bs h k = absurd (same_head bs (keyword_first m bs h) (text_first bs k) word_quote)
one_lexeme (Word m) (Punct t) bs h k = absurd (same_head bs (keyword_first m bs h) (sign_first t bs k) word_sign)
one_lexeme (Number v) (Identifier n) bs h k = absurd (same_head bs (word_first bs k.0.word) (number_first v bs h) word_number)
one_lexeme (Number v) (Word n) bs h k = absurd (same_head bs (keyword_first n bs k) (number_first v bs h) word_number)
one_lexeme (Number v) (Number w) bs h k = ap Number (one_number v w bs h k)
one_lexeme (Number v) Float bs h k = absurd (number_no_float v bs h k)
one_lexeme (Number v) Text bs h k = absurd (same_head bs (number_first v bs h) (text_first bs k) number_quote)
one_lexeme (Number v) (Punct t) bs h k = absurd (same_head bs (number_first v bs h) (sign_first t bs k) number_sign)
one_lexeme Float (Identifier n) bs h k = absurd (same_head bs (word_first bs k.0.word) (signed_float_first bs h) word_number)
one_lexeme Float (Word n) bs h k = absurd (same_head bs (keyword_first n bs k) (signed_float_first bs h) word_number)
one_lexeme Float (Number w) bs h k = absurd (number_no_float w bs k h)
one_lexeme Float Float bs h k = refl
one_lexeme Float Text bs h k = absurd (same_head bs (signed_float_first bs h) (text_first bs k) number_quote)
one_lexeme Float (Punct t) bs h k = absurd (same_head bs (signed_float_first bs h) (sign_first t bs k) number_sign)
one_lexeme Text (Identifier n) bs h k = absurd (same_head bs (word_first bs k.0.word) (text_first bs h) word_quote)
one_lexeme Text (Word n) bs h k = absurd (same_head bs (keyword_first n bs k) (text_first bs h) word_quote)
one_lexeme Text (Number w) bs h k = absurd (same_head bs (number_first w bs k) (text_first bs h) number_quote)
one_lexeme Text Float bs h k = absurd (same_head bs (signed_float_first bs k) (text_first bs h) number_quote)
one_lexeme Text Text bs h k = refl
one_lexeme Text (Punct t) bs h k = absurd (same_head bs (text_first bs h) (sign_first t bs k) quote_sign)
one_lexeme (Punct s) (Identifier n) bs h k = absurd (same_head bs (word_first bs k.0.word) (sign_first s bs h) word_sign)
one_lexeme (Punct s) (Word n) bs h k = absurd (same_head bs (keyword_first n bs k) (sign_first s bs h) word_sign)
one_lexeme (Punct s) (Number w) bs h k = absurd (same_head bs (number_first w bs k) (sign_first s bs h) number_sign)
one_lexeme (Punct s) Float bs h k = absurd (same_head bs (signed_float_first bs k) (sign_first s bs h) number_sign)
one_lexeme (Punct s) Text bs h k = absurd (same_head bs (text_first bs k) (sign_first s bs h) quote_sign)
one_lexeme (Punct s) (Punct t) bs h k = ap Punct (sym (sign_back s) ∙ ap sign_of (sym h ∙ k) ∙ sign_back t)

-- the first byte is no blank

word_visible : (b : ℕ) → is_word_start b ≡ true → is_blank b ≡ false
word_visible b h = grind (arith, nat_tests)

digit_visible : (b : ℕ) → IsDigitOrMinus b → is_blank b ≡ false
digit_visible b (inl h) = grind (arith, nat_tests)
digit_visible b (inr h) = ap is_blank h

seen : {P : ℕ → Type 0} (bs : List ℕ) → First P bs → ((b : ℕ) → P b → is_blank b ≡ false) → (b : ℕ) × (more : List ℕ) × (bs ≡ b ∷ more) × (is_blank b ≡ false)
seen bs f g = (f.head, f.more, f.are, g f.head f.holds)

pub begins_visible : (x : Lexeme) (bs : List ℕ) → IsSpelt x bs → (b : ℕ) × (more : List ℕ) × (bs ≡ b ∷ more) × (is_blank b ≡ false)
begins_visible (Identifier name) bs h = seen bs (word_first bs h.0.word) word_visible
begins_visible (Word k) bs h = seen bs (keyword_first k bs h) word_visible
begins_visible (Number v) bs h = seen bs (number_first v bs h) digit_visible
begins_visible Float bs h = seen bs (signed_float_first bs h) digit_visible
begins_visible Text bs h = seen bs (text_first bs h) (λ b q. ap is_blank q)
begins_visible (Punct s) bs h = seen bs (sign_first s bs h) (λ b o. o.4)
