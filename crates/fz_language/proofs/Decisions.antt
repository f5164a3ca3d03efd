-- Whether bytes spell a lexeme can be decided.
use Rattle.std.proofs.Common.{◌≡◌, ◌≢◌, ℕ, ℤ, pos, ◌-ℤ◌, ◌<◌, ◌⊎◌, inl, inr, Bool, true, false, IsTrue, List, [], ◌∷◌, ◌++◌, length, Option, Some, None, refl, sym, ap, ◌∙◌, subst, arith}
use Rattle.std.specs.List.{list_all}
use Rattle.std.specs.Char.{is_ascii_digit, is_ascii_hexdigit}
use Rattle.std.proofs.lemmas.Bool.{true≢false}
use Rattle.std.proofs.lemmas.Slice.Eq.{bytes_eq-Decides}
use Rattle.std.proofs.lemmas.Bool.Decides.{Decides-eqb}
use Rattle.std.specs.Bool.{Decides}
use Rattle.fz_grammar.proofs.Lists.{heads, tails, none_is_no_cons}
use Rattle.fz_language.specs.declared.sign.Sign.{Sign}
use Rattle.fz_language.specs.declared.keyword.Keyword.{Keyword}
use Rattle.fz_language.specs.Tokens.{Lexeme, Identifier, Word, Number, Float, Text, Punct, IsSpelt, IsWord, is_word_start, is_word_byte, keyword_bytes, is_octal_digit, AreDigits, digits_value, IsNatural, IsNumber, IsExponent, IsTail, IsPlainFloat, IsFloat, IsInside, Closes, Goes, Takes, IsText, sign_bytes}
use Rattle.fz_language.proofs.LexemeProofs.{keyword_word, sign_of, sign_back, keyword_of, keyword_back}

-- it holds, or it doesn't
abbrev pub Decided : Type 0 → Type 0
Decided P = P ⊎ (P → ⊥)

abbrev pub by : {P Q : Type 0} → (P → Q) → (Q → P) → Decided P → Decided Q
by to from (inl p) = inl (to p)
by to from (inr n) = inr (λ q. n (from q))

abbrev pub both : {P Q : Type 0} → Decided P → Decided Q → Decided (P × Q)
both (inl p) (inl q) = inl (p, q)
both (inl p) (inr n) = inr (λ h. n h.1)
both (inr n) _ = inr (λ h. n h.0)

abbrev either : {P Q : Type 0} → Decided P → Decided Q → Decided (P ⊎ Q)
either (inl p) _ = inl (inl p)
either (inr n) (inl q) = inl (inr q)
either {P} {Q} (inr n) (inr m) = inr (λ h. elim h [ inl p ↦ n p | inr q ↦ m q ])

abbrev pub from_test : {P : Type 0} → (b : Bool) → Decides b P → Decided P
from_test true d = inl (d.0 refl)
from_test false d = inr (λ p. true≢false (sym (d.1 p)))

abbrev is_true : (b : Bool) → Decided (IsTrue b)
is_true true = inl refl
is_true false = inr (λ e. true≢false (sym e))

abbrev same_byte : (a b : ℕ) → Decided (a ≡ b)
same_byte a b = from_test _ (Decides-eqb a b)

abbrev same_bytes : (xs ys : List ℕ) → Decided (xs ≡ ys)
same_bytes xs ys = from_test _ (bytes_eq-Decides xs ys)

-- after certain bytes stand bytes of which something holds
abbrev Behind : List ℕ → (List ℕ → Type 0) → List ℕ → Type 0
Behind front P bs = (rest : List ℕ) × (bs ≡ front ++ rest) × P rest

abbrev behind : (P : List ℕ → Type 0) → ((xs : List ℕ) → Decided (P xs)) → (front bs : List ℕ) → Decided (Behind front P bs)
behind P decide [] bs = by (λ p. (bs, refl, p)) (λ h. subst P (sym h.1) h.2) (decide bs)
behind P decide (x ∷ front) [] = inr (λ h. none_is_no_cons x (front ++ h.0) h.1)
behind P decide (x ∷ front) (b ∷ bs) = by
    (λ h. (h.1.0, (λ i. h.0 i ∷ h.1.1 i), h.1.2))
    (λ h. (heads b x bs (front ++ h.0) h.1, (h.0, tails b x bs (front ++ h.0) h.1, h.2)))
    (both (same_byte b x) (behind P decide front bs))

-- bytes are two parts, of which something holds
abbrev Parts : (P Q : List ℕ → Type 0) → List ℕ → Type 0
Parts P Q bs = (xs : List ℕ) × (ys : List ℕ) × (bs ≡ xs ++ ys) × P xs × Q ys

abbrev parts_of_none : (P Q : List ℕ → Type 0) → Parts P Q [] → P [] × Q []
parts_of_none P Q ([], ys, e, p, q) = (p, subst Q (sym e) q)
parts_of_none P Q (x ∷ xs, ys, e, p, q) = absurd (none_is_no_cons x (xs ++ ys) e)

-- the first part is empty, or it has the first byte
abbrev parts_to : (P Q : List ℕ → Type 0) (b : ℕ) (bs : List ℕ) → (P [] × Q (b ∷ bs)) ⊎ Parts (λ xs. P (b ∷ xs)) Q bs → Parts P Q (b ∷ bs)
parts_to P Q b bs (inl h) = ([], b ∷ bs, refl, h.0, h.1)
parts_to P Q b bs (inr h) = (b ∷ h.0, h.1, ap (λ (zs : List ℕ). b ∷ zs) h.2, h.3, h.4)

abbrev parts_from : (P Q : List ℕ → Type 0) (b : ℕ) (bs : List ℕ) → Parts P Q (b ∷ bs) → (P [] × Q (b ∷ bs)) ⊎ Parts (λ xs. P (b ∷ xs)) Q bs
parts_from P Q b bs ([], ys, e, p, q) = inl (p, subst Q (sym e) q)
parts_from P Q b bs (x ∷ xs, ys, e, p, q) =
    inr (xs, ys, tails b x bs (xs ++ ys) e, subst (λ (n : ℕ). P (n ∷ xs)) (sym (heads b x bs (xs ++ ys) e)) p, q)

abbrev parts : (P Q : List ℕ → Type 0) → ((xs : List ℕ) → Decided (P xs)) → ((ys : List ℕ) → Decided (Q ys)) → (bs : List ℕ) → Decided (Parts P Q bs)
parts P Q p q [] = by (λ h. ([], [], refl, h.0, h.1)) (parts_of_none P Q) (both (p []) (q []))
parts P Q p q (b ∷ bs) = by (parts_to P Q b bs) (parts_from P Q b bs)
    (either (both (p []) (q (b ∷ bs))) (parts (λ xs. P (b ∷ xs)) Q (λ xs. p (b ∷ xs)) q bs))

-- digits

pub none_of_no_length : 0 < length {A = ℕ} [] → ⊥
none_of_no_length l = omega (arith, l)

pub one_at_least : (b : ℕ) (bs : List ℕ) → 0 < length (b ∷ bs)
one_at_least b bs = omega arith

abbrev some : (bs : List ℕ) → Decided (0 < length bs)
some [] = inr none_of_no_length
some (b ∷ bs) = inl (one_at_least b bs)

abbrev digits : (p : ℕ → Bool) (ds : List ℕ) → Decided (AreDigits p ds)
digits p ds = both (some ds) (is_true (list_all p ds))

-- words

abbrev word : (bs : List ℕ) → Decided (IsWord bs)
word [] = inr (λ w. w)
word (b ∷ bs) = both (is_true (is_word_start b)) (is_true (list_all is_word_byte bs))

abbrev IsAnyWord : List ℕ → Type 0
IsAnyWord bs = (k : Keyword) × (bs ≡ keyword_bytes k)

abbrev any_word : (bs : List ℕ) → Decided (IsAnyWord bs)
any_word bs = by (λ e. (keyword_of bs, e)) (λ h. h.1 ∙ ap keyword_bytes (sym (ap keyword_of h.1 ∙ keyword_back h.0)))
    (same_bytes bs (keyword_bytes (keyword_of bs)))

-- signs

abbrev IsAnySign : List ℕ → Type 0
IsAnySign bs = (s : Sign) × (bs ≡ sign_bytes s)

abbrev any_sign : (bs : List ℕ) → Decided (IsAnySign bs)
any_sign bs = by (λ e. (sign_of bs, e)) (λ h. h.1 ∙ ap sign_bytes (sym (ap sign_of h.1 ∙ sign_back h.0)))
    (same_bytes bs (sign_bytes (sign_of bs)))

-- numbers

abbrev IsAnyNatural : List ℕ → Type 0
IsAnyNatural bs = (n : ℕ) × IsNatural n bs

abbrev NaturalForms : List ℕ → Type 0
NaturalForms bs = AreDigits is_ascii_digit bs ⊎ (Behind (48 ∷ 120 ∷ []) (AreDigits is_ascii_hexdigit) bs ⊎ Behind (48 ∷ 111 ∷ []) (AreDigits is_octal_digit) bs)

abbrev natural_to : (bs : List ℕ) → NaturalForms bs → IsAnyNatural bs
natural_to bs (inl d) = (digits_value 10 bs, inl (d, refl))
natural_to bs (inr (inl h)) = (digits_value 16 h.0, inr (inl (h.0, h.1, h.2, refl)))
natural_to bs (inr (inr h)) = (digits_value 8 h.0, inr (inr (h.0, h.1, h.2, refl)))

abbrev natural_from : (bs : List ℕ) → IsAnyNatural bs → NaturalForms bs
natural_from bs (n, inl d) = inl d.0
natural_from bs (n, inr (inl h)) = inr (inl (h.0, h.1, h.2))
natural_from bs (n, inr (inr h)) = inr (inr (h.0, h.1, h.2))

abbrev natural : (bs : List ℕ) → Decided (IsAnyNatural bs)
natural bs = by (natural_to bs) (natural_from bs)
    (either (digits is_ascii_digit bs) (either (behind _ (digits is_ascii_hexdigit) (48 ∷ 120 ∷ []) bs) (behind _ (digits is_octal_digit) (48 ∷ 111 ∷ []) bs)))

abbrev IsAnyNumber : List ℕ → Type 0
IsAnyNumber bs = (v : ℤ) × IsNumber v bs

abbrev number_to : (bs : List ℕ) → IsAnyNatural bs ⊎ Behind (45 ∷ []) IsAnyNatural bs → IsAnyNumber bs
number_to bs (inl h) = (pos h.0, inl (h.0, h.1, refl))
number_to bs (inr h) = (pos 0 -ℤ pos h.2.0, inr (h.2.0, h.0, h.1, h.2.1, refl))

abbrev number_from : (bs : List ℕ) → IsAnyNumber bs → IsAnyNatural bs ⊎ Behind (45 ∷ []) IsAnyNatural bs
number_from bs (v, inl h) = inl (h.0, h.1)
number_from bs (v, inr h) = inr (h.1, h.2, (h.0, h.3))

abbrev number : (bs : List ℕ) → Decided (IsAnyNumber bs)
number bs = by (number_to bs) (number_from bs) (either (natural bs) (behind _ natural (45 ∷ []) bs))

-- floats

abbrev ExponentOf : ℕ → List ℕ → Type 0
ExponentOf e bs = Behind (e ∷ []) (AreDigits is_ascii_digit) bs ⊎ (Behind (e ∷ 43 ∷ []) (AreDigits is_ascii_digit) bs ⊎ Behind (e ∷ 45 ∷ []) (AreDigits is_ascii_digit) bs)

abbrev exponent_of : (e : ℕ) (bs : List ℕ) → Decided (ExponentOf e bs)
exponent_of e bs = either (behind _ (digits is_ascii_digit) (e ∷ []) bs)
    (either (behind _ (digits is_ascii_digit) (e ∷ 43 ∷ []) bs) (behind _ (digits is_ascii_digit) (e ∷ 45 ∷ []) bs))

abbrev exponent_with : (e : ℕ) (bs : List ℕ) → (e ≡ 101) ⊎ (e ≡ 69) → ExponentOf e bs → IsExponent bs
exponent_with e bs k (inl h) = (e, h.0, k, h.2, inl h.1)
exponent_with e bs k (inr (inl h)) = (e, h.0, k, h.2, inr (inl h.1))
exponent_with e bs k (inr (inr h)) = (e, h.0, k, h.2, inr (inr h.1))

abbrev exponent_to : (bs : List ℕ) → ExponentOf 101 bs ⊎ ExponentOf 69 bs → IsExponent bs
exponent_to bs (inl h) = exponent_with 101 bs (inl refl) h
exponent_to bs (inr h) = exponent_with 69 bs (inr refl) h

abbrev exponent_form : (bs : List ℕ) (h : IsExponent bs) → ExponentOf h.0 bs
exponent_form bs (e, ds, k, d, inl q) = inl (ds, q, d)
exponent_form bs (e, ds, k, d, inr (inl q)) = inr (inl (ds, q, d))
exponent_form bs (e, ds, k, d, inr (inr q)) = inr (inr (ds, q, d))

abbrev exponent_from : (bs : List ℕ) → IsExponent bs → ExponentOf 101 bs ⊎ ExponentOf 69 bs
exponent_from bs h = elim h.2 [
  | inl k ↦ inl (subst (λ (e : ℕ). ExponentOf e bs) k (exponent_form bs h))
  | inr k ↦ inr (subst (λ (e : ℕ). ExponentOf e bs) k (exponent_form bs h))
]

abbrev exponent : (bs : List ℕ) → Decided (IsExponent bs)
exponent bs = by (exponent_to bs) (exponent_from bs) (either (exponent_of 101 bs) (exponent_of 69 bs))

abbrev IsMaybeExponent : List ℕ → Type 0
IsMaybeExponent bs = (bs ≡ []) ⊎ IsExponent bs

abbrev TailForms : List ℕ → Type 0
TailForms bs = Behind (46 ∷ []) (Parts (AreDigits is_ascii_digit) IsMaybeExponent) bs ⊎ IsExponent bs

abbrev tail_to : (bs : List ℕ) → TailForms bs → IsTail bs
tail_to bs (inl h) = inl (h.2.0, h.2.1, h.1 ∙ ap (λ (zs : List ℕ). 46 ∷ zs) h.2.2, h.2.3, h.2.4)
tail_to bs (inr h) = inr h

abbrev tail_from : (bs : List ℕ) → IsTail bs → TailForms bs
tail_from bs (inl h) = inl (h.0 ++ h.1, h.2, (h.0, h.1, refl, h.3, h.4))
tail_from bs (inr h) = inr h

abbrev tail : (bs : List ℕ) → Decided (IsTail bs)
tail bs = by (tail_to bs) (tail_from bs)
    (either (behind _ (parts _ _ (digits is_ascii_digit) (λ zs. either (same_bytes zs []) (exponent zs))) (46 ∷ []) bs) (exponent bs))

abbrev plain_float : (bs : List ℕ) → Decided (IsPlainFloat bs)
plain_float bs = parts _ _ (digits is_ascii_digit) tail bs

abbrev float : (bs : List ℕ) → Decided (IsFloat bs)
float bs = either (plain_float bs) (behind _ plain_float (45 ∷ []) bs)

-- strings

-- how a string goes on from a byte
abbrev Goes_on : ℕ → List ℕ → Type 0
Goes_on b [] = b ≡ 34
Goes_on b (c ∷ cs) = ((b ≢ 34) × ((b ≢ 92) × ((b ≢ 10) × IsInside (c ∷ cs)))) ⊎ ((b ≡ 92) × ((c ≢ 10) × IsInside cs))

abbrev Inside : List ℕ → Type 0
Inside [] = ⊥
Inside (b ∷ bs) = Goes_on b bs

abbrev inside_empty : (b : ℕ) → (b ≡ 34) → IsInside (b ∷ [])
inside_empty b e = subst (λ (n : ℕ). IsInside (n ∷ [])) (sym e) Closes

abbrev inside_to : (bs : List ℕ) → Inside bs → IsInside bs
inside_to [] h = absurd h
inside_to (b ∷ []) h = inside_empty b h
inside_to (b ∷ c ∷ cs) (inl h) = Goes b (c ∷ cs) h.0 h.1.0 h.1.1.0 h.1.1.1
inside_to (b ∷ c ∷ cs) (inr h) = subst (λ (n : ℕ). IsInside (n ∷ c ∷ cs)) (sym h.0) (Takes c cs h.1.0 h.1.1)

pub no_empty : IsInside [] → ⊥
no_empty h = none_of [] h refl
  where
    none_of : (bs : List ℕ) → IsInside bs → bs ≡ [] → ⊥
    none_of bs Closes e = none_is_no_cons 34 [] (sym e)
    none_of bs (Goes b rest q n l i) e = none_is_no_cons b rest (sym e)
    none_of bs (Takes b rest l i) e = none_is_no_cons 92 (b ∷ rest) (sym e)

abbrev inside_from : (bs : List ℕ) → IsInside bs → Inside bs
inside_from bs Closes = refl
inside_from bs (Goes b [] q n l i) = absurd (no_empty i)
inside_from bs (Goes b (c ∷ cs) q n l i) = inl (q, (n, (l, i)))
inside_from bs (Takes b rest l i) = inr (refl, (l, i))

abbrev other : (a b : ℕ) → Decided (a ≢ b)
other a b = elim (same_byte a b) [ inl e ↦ inr (λ n. n e) | inr n ↦ inl n ]

abbrev inside : (bs : List ℕ) → Decided (IsInside bs)
inside [] = inr no_empty
inside (b ∷ []) = by (inside_to (b ∷ [])) (inside_from (b ∷ [])) (same_byte b 34)
inside (b ∷ c ∷ cs) = by (inside_to (b ∷ c ∷ cs)) (inside_from (b ∷ c ∷ cs))
    (either (both (other b 34) (both (other b 92) (both (other b 10) (inside (c ∷ cs))))) (both (same_byte b 92) (both (other c 10) (inside cs))))

abbrev text : (bs : List ℕ) → Decided (IsText bs)
text bs = behind _ inside (34 ∷ []) bs

-- lexemes

abbrev pub IsLexeme : List ℕ → Type 0
IsLexeme bs = (x : Lexeme) × IsSpelt x bs

abbrev LexemeForms : List ℕ → Type 0
LexemeForms bs = IsWord bs ⊎ (IsAnyNumber bs ⊎ (IsFloat bs ⊎ (IsText bs ⊎ IsAnySign bs)))

abbrev word_lexeme : (bs : List ℕ) → IsWord bs → Decided (IsAnyWord bs) → IsLexeme bs
word_lexeme bs w (inl k) = (Word k.0, k.1)
word_lexeme bs w (inr n) = (Identifier bs, (record { word = w; free = λ k e. n (k, e) }, refl))

abbrev lexeme_to : (bs : List ℕ) → LexemeForms bs → IsLexeme bs
lexeme_to bs (inl w) = word_lexeme bs w (any_word bs)
lexeme_to bs (inr (inl h)) = (Number h.0, h.1)
lexeme_to bs (inr (inr (inl h))) = (Float, h)
lexeme_to bs (inr (inr (inr (inl h)))) = (Text, h)
lexeme_to bs (inr (inr (inr (inr h)))) = (Punct h.0, h.1)

abbrev lexeme_from : (bs : List ℕ) → IsLexeme bs → LexemeForms bs
lexeme_from bs (Identifier n, h) = inl h.0.word
lexeme_from bs (Word k, h) = inl (subst IsWord (sym h) (keyword_word k))
lexeme_from bs (Number v, h) = inr (inl (v, h))
lexeme_from bs (Float, h) = inr (inr (inl h))
lexeme_from bs (Text, h) = inr (inr (inr (inl h)))
lexeme_from bs (Punct s, h) = inr (inr (inr (inr (s, h))))

abbrev pub lexeme : (bs : List ℕ) → Decided (IsLexeme bs)
lexeme bs = by (lexeme_to bs) (lexeme_from bs) (either (word bs) (either (number bs) (either (float bs) (either (text bs) (any_sign bs)))))

-- ---- tests that compute

abbrev pub is_no : {P : Type 0} → Decided P → Bool
is_no (inl p) = false
is_no (inr n) = true

pub refuted : {P : Type 0} → (d : Decided P) → is_no d ≡ true → P → ⊥
refuted (inl p) e = absurd (true≢false (sym e))
refuted (inr n) e = n

-- the lexeme that bytes spell, if they spell one
abbrev pub lexeme_of : {bs : List ℕ} → Decided (IsLexeme bs) → Option Lexeme
lexeme_of (inl p) = Some p.0
lexeme_of (inr n) = None

some_is_one : (x y : Lexeme) → Some x ≡ Some y → x ≡ y
some_is_one x y e = cc

none_is_no_some : (x : Lexeme) → ◌≡◌ {A = Option Lexeme} None (Some x) → ⊥
none_is_no_some x e = cc

pub spelt_of : {bs : List ℕ} (x : Lexeme) (d : Decided (IsLexeme bs)) → lexeme_of d ≡ Some x → IsSpelt x bs
spelt_of {bs} x (inl p) e = subst (λ (y : Lexeme). IsSpelt y bs) (some_is_one p.0 x e) p.1
spelt_of {bs} x (inr n) e = absurd (none_is_no_some x e)
