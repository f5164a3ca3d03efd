-- Texts as pieces, blanks and tokens: such a text leads to its tokens.
use Rattle.std.proofs.Common.{◌≡◌, ℕ, suc, ◌+◌, ◌-◌, ◌*◌, ◌≤◌, inl, inr, ◌==◌, ◌||◌, ◌&&◌, not, Bool, true, false, List, [], ◌∷◌, ◌++◌, length, take, drop, slice_range, slice_index, refl, sym, ap, ◌∙◌, subst, arith, eqb-true, eq-eqb, append_assoc, length-append}
use Rattle.std.proofs.lemmas.Bool.{cases_lt, and_parts, or_cases, both_ways}
use Rattle.std.proofs.lemmas.List.{take-append-drop}
use Rattle.std.proofs.Math.Seq.{drop-append_seam, take-append_seam, take-append-add}
use Rattle.fz_language.specs.declared.sign.Sign.{Sign}
use Rattle.fz_language.specs.declared.sign.Sign.TheVariants.{Semicolon, Colon, DoubleColon, Comma, LeftParenthesis, RightParenthesis, LeftBracket, RightBracket, LeftBrace, RightBrace, Equals, DoubleDot}
use Rattle.fz_language.specs.Tokens.{Lexeme, Identifier, Word, Number, Float, Text, Punct, Token, IsSpelt, IsToken, is_word_byte, is_space, IsFine, IsBlank, IsGap, Ends, Skips, End, LeadsTo, sign_bytes}
use Rattle.fz_gen.proofs.Cuts.{class, is_plain, stands_alone, Stops, word_stops, number_stops, number_stops_at_points, sign_stops, end_stops}

-- a byte of white space, or a token with its bytes
pub data Piece : Type 0 where
  Blank : (byte : ℕ) → Piece
  Said : (lexeme : Lexeme) (bytes : List ℕ) → Piece

abbrev pub bytes : List Piece → List ℕ
bytes [] = []
bytes (Blank b ∷ ps) = b ∷ bytes ps
bytes (Said x bs ∷ ps) = bs ++ bytes ps

-- the tokens, from a place on
abbrev pub tokens : ℕ → List Piece → List Token
tokens at [] = []
tokens at (Blank b ∷ ps) = tokens (at + 1) ps
tokens at (Said x bs ∷ ps) = record { lexeme = x; at = at } ∷ tokens (at + length bs) ps

-- a word, a number or a sign goes on with none of these bytes
abbrev pub word_cut : List ℕ → Bool
word_cut [] = true
word_cut (c ∷ cs) = not (is_word_byte c)

abbrev pub begins_point : List ℕ → Bool
begins_point [] = false
begins_point (c ∷ cs) = c == 46

abbrev pub number_cut : List ℕ → Bool
number_cut [] = true
number_cut (c ∷ cs) = (not (is_plain c) && not (c == 46)) || ((c == 46) && begins_point cs)

abbrev pub colon_cut : List ℕ → Bool
colon_cut [] = true
colon_cut (c ∷ cs) = c == 32

abbrev pub sign_cut : Sign → List ℕ → Bool
sign_cut Colon cs = colon_cut cs
sign_cut Semicolon cs = true
sign_cut DoubleColon cs = true
sign_cut Comma cs = true
sign_cut LeftParenthesis cs = true
sign_cut RightParenthesis cs = true
sign_cut LeftBracket cs = true
sign_cut RightBracket cs = true
sign_cut LeftBrace cs = true
sign_cut RightBrace cs = true
sign_cut Equals cs = true
sign_cut DoubleDot cs = true

abbrev pub is_cut : Lexeme → List ℕ → Bool
is_cut (Identifier name) cs = word_cut cs
is_cut (Word k) cs = word_cut cs
is_cut (Number v) cs = number_cut cs
is_cut Float cs = false
is_cut Text cs = false
is_cut (Punct s) cs = sign_cut s cs

-- bytes of a word begin like one, those of a number like a number
abbrev pub Begins : Lexeme → List ℕ → Type 0
Begins (Identifier name) bs = (b : ℕ) × (more : List ℕ) × (bs ≡ b ∷ more) × (class b ≡ 1)
Begins (Word k) bs = (b : ℕ) × (more : List ℕ) × (bs ≡ b ∷ more) × (class b ≡ 1)
Begins (Number v) bs = (b : ℕ) × (more : List ℕ) × (bs ≡ b ∷ more) × (class b ≡ 2)
Begins Float bs = ⊥
Begins Text bs = ⊥
Begins (Punct s) bs = bs ≡ sign_bytes s

-- the bytes spell the lexeme, and are few
pub record IsSaid (x : Lexeme) (bs : List ℕ) : Type 0 where
  pub spelt : IsSpelt x bs
  pub begins : Begins x bs
  pub fine : IsFine x
  pub few : length bs ≤ 10

-- each token ends where its bytes do
abbrev pub Fits : List Piece → Type 0
Fits [] = Unit {0}
Fits (Blank b ∷ ps) = (is_space b ≡ true) × Fits ps
Fits (Said x bs ∷ ps) = IsSaid x bs × (is_cut x (bytes ps) ≡ true) × Fits ps

-- ---- a token stops at its end

is_not : (b : Bool) → not b ≡ true → b ≡ false
is_not false e = refl
is_not true e = let f : false ≡ true = e in cc

not_the : (c : ℕ) → not (c == 46) ≡ true → c ≡ 46 → ⊥
not_the c n e = both_ways (c == 46) (is_not (c == 46) n) (eq-eqb c 46 e)

number_at : (b : ℕ) (bs rest : List ℕ) → class b ≡ 2 → number_cut rest ≡ true → Stops (b ∷ bs) rest
number_at b bs [] k e = end_stops (b ∷ bs)
number_at b bs (c ∷ cs) k e = elim (or_cases (not (is_plain c) && not (c == 46)) ((c == 46) && begins_point cs) e) [
  | inl f ↦
      let a = and_parts (not (is_plain c)) (not (c == 46)) f in
      number_stops b bs c cs k (is_not (is_plain c) a.0) (not_the c a.1)
  | inr f ↦
      let a = and_parts (c == 46) (begins_point cs) f in
      subst (λ (d : ℕ). Stops (b ∷ bs) (d ∷ cs)) (sym (eqb-true c 46 a.0)) (at_points cs a.1)
]
  where
    at_points : (cs : List ℕ) → begins_point cs ≡ true → Stops (b ∷ bs) (46 ∷ cs)
    at_points [] e = let f : false ≡ true = e in cc
    at_points (d ∷ ds) e = subst (λ (c : ℕ). Stops (b ∷ bs) (46 ∷ c ∷ ds)) (sym (eqb-true d 46 e)) (number_stops_at_points b bs ds k)

word_at : (b : ℕ) (bs rest : List ℕ) → class b ≡ 1 → word_cut rest ≡ true → Stops (b ∷ bs) rest
word_at b bs [] k e = end_stops (b ∷ bs)
word_at b bs (c ∷ cs) k e = word_stops b bs c cs k (is_not (is_word_byte c) e)

sign_at : (s : Sign) (rest : List ℕ) → sign_cut s rest ≡ true → Stops (sign_bytes s) rest
sign_at s [] e = end_stops (sign_bytes s)
sign_at s (c ∷ cs) e = sign_stops s c cs (by_sign s e)
  where
    by_sign : (s : Sign) → sign_cut s (c ∷ cs) ≡ true → stands_alone s c ≡ true
    by_sign Colon e = e
    by_sign _ e = refl

stops_by : (x : Lexeme) (bs rest : List ℕ) → Begins x bs → is_cut x rest ≡ true → Stops bs rest
stops_by (Identifier name) bs rest g e = subst (λ (xs : List ℕ). Stops xs rest) (sym g.2) (word_at g.0 g.1 rest g.3 e)
stops_by (Word k) bs rest g e = subst (λ (xs : List ℕ). Stops xs rest) (sym g.2) (word_at g.0 g.1 rest g.3 e)
stops_by (Number v) bs rest g e = subst (λ (xs : List ℕ). Stops xs rest) (sym g.2) (number_at g.0 g.1 rest g.3 e)
stops_by Float bs rest g e = absurd g
stops_by Text bs rest g e = absurd g
stops_by (Punct s) bs rest g e = subst (λ (xs : List ℕ). Stops xs rest) (sym g) (sign_at s rest e)

-- ---- the token at its place

part_from : (pre ys : List ℕ) (end : ℕ) → slice_range (pre ++ ys) (length pre) end ≡ take (end - length pre) ys
part_from pre ys end = ap (take (end - length pre)) (drop-append_seam pre ys)

-- the bytes after them, of which there are that many
record Behind (rest : List ℕ) (k : ℕ) : Type 0 where
  first : ℕ
  more : List ℕ
  others : List ℕ
  are : rest ≡ first ∷ (more ++ others)
  taken : take (suc k) rest ≡ first ∷ more

behind : (rest : List ℕ) (k : ℕ) → suc k ≤ length rest → Behind rest k
behind [] k l = absurd (omega (arith, l))
behind (c ∷ cs) k l = record { first = c; more = take k cs; others = drop k cs; are = ap (λ (xs : List ℕ). c ∷ xs) (sym (take-append-drop k cs)); taken = refl }

goes_past : (bs rest : List ℕ) (x : Lexeme) (k : ℕ) → suc k ≤ length rest → Stops bs rest → IsSpelt x (take (length bs + suc k) (bs ++ rest)) → ⊥
goes_past bs rest x k l s h =
    let b = behind rest k l in
    s x b.first b.more b.others b.are (subst (IsSpelt x) (take-append-add bs rest (suc k) ∙ ap (λ (xs : List ℕ). bs ++ xs) b.taken) h)

token_at : (pre bs rest : List ℕ) (x : Lexeme) → IsSpelt x bs → Stops bs rest → IsToken (pre ++ (bs ++ rest)) (record { lexeme = x; at = length pre }) (length pre + length bs)
token_at pre bs rest x h s =
    let n : length (pre ++ (bs ++ rest)) ≡ length pre + (length bs + length rest) = length-append pre (bs ++ rest) ∙ ap (λ (k : ℕ). length pre + k) (length-append bs rest) in
    record {
      within = omega (arith, n);
      spelt =
          let e : (length pre + length bs) - length pre ≡ length bs = omega arith in
          subst (IsSpelt x) (sym (part_from pre (bs ++ rest) (length pre + length bs) ∙ ap (λ (k : ℕ). take k (bs ++ rest)) e ∙ take-append_seam bs rest)) h;
      longest = λ y end w g. elim (cases_lt (length pre + length bs) end) [
        | inl l ↦
            let k = end - (length pre + length bs) - 1 in
            let e : end - length pre ≡ length bs + suc k = omega (arith, l) in
            absurd (goes_past bs rest y k (omega (arith, n, w, l)) s (subst (IsSpelt y) (part_from pre (bs ++ rest) end ∙ ap (λ (m : ℕ). take m (bs ++ rest)) e) g))
        | inr o ↦ o
      ];
    }

-- ---- the whole text

more_blank : (text : List ℕ) (from mid : ℕ) (ts : List Token) → IsBlank text from mid → LeadsTo text mid ts End → LeadsTo text from ts End
more_blank text from mid [] b g = Skips from mid (length text) b g
more_blank text from mid (t ∷ ts) b g = (g.0, Skips from mid t.at b g.1, g.2, g.3, g.4)

byte_at : (pre : List ℕ) (b : ℕ) (rest : List ℕ) → slice_index (pre ++ b ∷ rest) (length pre) ≡ b
byte_at [] b rest = refl
byte_at (x ∷ pre) b rest = byte_at pre b rest

blank_at : (text pre : List ℕ) (at b : ℕ) (rest : List ℕ) → text ≡ pre ++ b ∷ rest → at ≡ length pre → is_space b ≡ true → IsBlank text at (at + 1)
blank_at text pre at b rest e f s =
    let n : length text ≡ length pre + suc (length rest) = ap length e ∙ length-append pre (b ∷ rest) in
    let c : slice_index text at ≡ b = ap (λ (xs : List ℕ). slice_index xs at) e ∙ ap (λ (k : ℕ). slice_index (pre ++ b ∷ rest) k) f ∙ byte_at pre b rest in
    inl (omega (arith, n, f), ap is_space c ∙ s, refl)

pub leads : (text pre : List ℕ) (at : ℕ) (ps : List Piece) → text ≡ pre ++ bytes ps → at ≡ length pre → Fits ps → LeadsTo text at (tokens at ps) End
leads text pre at [] e f g =
    let n : length text ≡ length pre + 0 = ap length e ∙ length-append pre [] in
    let m : at ≡ length text = omega (arith, n, f) in
    subst (λ (k : ℕ). IsGap text at k) m (Ends at (omega (arith, m)))
leads text pre at (Blank b ∷ ps) e f g =
    more_blank text at (at + 1) (tokens (at + 1) ps) (blank_at text pre at b (bytes ps) e f g.0)
    (leads text (pre ++ b ∷ []) (at + 1) ps (e ∙ sym (append_assoc pre (b ∷ []) (bytes ps))) (let n = length-append pre (b ∷ []) in omega (arith, f, n)) g.1)
leads text pre at (Said x bs ∷ ps) e f g =
    let token = token_at pre bs (bytes ps) x g.0.spelt (stops_by x bs (bytes ps) g.0.begins g.1) in
    let n : length text ≡ length pre + (length bs + length (bytes ps)) = ap length e ∙ length-append pre (bs ++ bytes ps) ∙ ap (λ (k : ℕ). length pre + k) (length-append bs (bytes ps)) in (
      at + length bs,
      Ends at (omega (arith, n, f)),
      subst (λ (k : ℕ). IsToken text (record { lexeme = x; at = k }) (k + length bs)) (sym f) (subst (λ (t : List ℕ). IsToken t (record { lexeme = x; at = length pre }) (length pre + length bs)) (sym e) token),
      g.0.fine,
      leads text (pre ++ bs) (at + length bs) ps (e ∙ sym (append_assoc pre bs (bytes ps))) (let n = length-append pre bs in omega (arith, f, n)) g.2,
    )

-- a text of few pieces is short
pub short : (ps : List Piece) → Fits ps → length (bytes ps) ≤ 10 * length ps
short [] g = omega arith
short (Blank b ∷ ps) g = let h = short ps g.1 in omega (arith, h)
short (Said x bs ∷ ps) g = let h = short ps g.2 in let n = length-append bs (bytes ps) in omega (arith, h, n, g.0.few)
