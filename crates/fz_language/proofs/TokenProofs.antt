-- A text has one list of tokens at most, with one ending.
use Rattle.std.proofs.Common.{◌≡◌, ℕ, ◌≤◌, ◌<◌, ◌⊎◌, ◌||◌, ◌==◌, Bool, true, false, inl, inr, List, [], ◌∷◌, length, slice_range, slice_index, refl, sym, ap, ap₂, ◌∙◌, subst, eq-eqb, arith}
use Rattle.std.proofs.lemmas.Bool.{both_ways}
use Rattle.fz_language.specs.declared.fault.TokenFault.{TokenFault}
use Rattle.fz_language.specs.declared.fault.TokenFault.TheVariants.{UnknownByte, LargeNumber}
use Rattle.fz_language.specs.Tokens.{Token, Number, IsSpelt, is_space, is_blank, IsToken, IsComment, IsBlank, IsGap, Ends, Skips, IsFault, IsFine, Ending, End, Fault, EndsIn, LeadsTo}
use Rattle.fz_language.specs.TokenLaws.{TokensAreOne, TokenFaultIsOne, TokensOrFault}
use Rattle.fz_language.proofs.Bytes.{head_of}
use Rattle.fz_language.proofs.LexemeProofs.{one_lexeme, begins_visible}

-- no blank begins there
abbrev Stops : List ℕ → ℕ → Type 0
Stops text at = at < length text → is_blank (slice_index text at) ≡ false

three_ways : (a b : ℕ) → (a < b) ⊎ ((a ≡ b) ⊎ (b < a))
three_ways a b = grind arith

or_left : (a b : Bool) → a ≡ true → (a || b) ≡ true
or_left a b e = ap (λ (x : Bool). x || b) e

or_right : (a b : Bool) → b ≡ true → (a || b) ≡ true
or_right true b e = refl
or_right false b e = e

blank_is : (text : List ℕ) (at next : ℕ) → IsBlank text at next → (at < length text) × (is_blank (slice_index text at) ≡ true)
blank_is text at next (inl s) = (s.0, or_left (is_space (slice_index text at)) (slice_index text at == 37) s.1)
blank_is text at next (inr c) = (omega (arith, c.some, c.within), or_right (is_space (slice_index text at)) (slice_index text at == 37) (eq-eqb (slice_index text at) 37 c.first))

-- comments end at one place
no_longer : (text : List ℕ) (at a b : ℕ) → IsComment text at a → IsComment text at b → a < b → ⊥
no_longer text at a b c d l = elim c.ends [
  | inl e ↦ omega (arith, e, l, d.within)
  | inr e ↦ d.inside a c.some l e
]

one_blank : (text : List ℕ) (at a b : ℕ) → IsBlank text at a → IsBlank text at b → a ≡ b
one_blank text at a b (inl s) (inl t) = s.2 ∙ sym t.2
one_blank text at a b (inl s) (inr d) = absurd (space_no_percent (slice_index text at) s.1 d.first)
  where
    space_no_percent : (x : ℕ) → is_space x ≡ true → x ≡ 37 → ⊥
    space_no_percent x s e = both_ways (is_space x) (ap is_space e) s
one_blank text at a b (inr c) (inl t) = absurd (both_ways (is_space (slice_index text at)) (ap is_space c.first) t.1)
one_blank text at a b (inr c) (inr d) = elim (three_ways a b) [
  | inl l ↦ absurd (no_longer text at a b c d l)
  | inr r ↦ elim r [ inl e ↦ e | inr l ↦ absurd (no_longer text at b a d c l) ]
]

one_place : (text : List ℕ) (from a b : ℕ) → IsGap text from a → IsGap text from b → Stops text a → Stops text b → a ≡ b
one_place text from a b (Ends _ w) (Ends _ v) s t = refl
one_place text from a b (Ends _ w) (Skips _ mid _ c g) s t = absurd (let h = blank_is text from mid c in both_ways (is_blank (slice_index text from)) (s h.0) h.1)
one_place text from a b (Skips _ mid _ c g) (Ends _ v) s t = absurd (let h = blank_is text from mid c in both_ways (is_blank (slice_index text from)) (t h.0) h.1)
one_place text from a b (Skips _ mid _ c g) (Skips _ other _ d k) s t =
    one_place text mid a b g (subst (λ (n : ℕ). IsGap text n b) (one_blank text from other mid d c) k) s t

-- where a token or a fault stands, no blank begins

spelt_stops : (text : List ℕ) (t : Token) (stop : ℕ) → IsToken text t stop → (t.at < length text) × (is_blank (slice_index text t.at) ≡ false)
spelt_stops text t stop h =
    let b = begins_visible t.lexeme (slice_range text t.at stop) h.spelt in
    let k = head_of text t.at stop b.0 b.1 h.within b.2 in
    (omega (arith, k.some, h.within), ap is_blank k.byte ∙ b.3)

fault_stops : (text : List ℕ) (f : TokenFault) (at : ℕ) → IsFault text f at → (at < length text) × (is_blank (slice_index text at) ≡ false)
fault_stops text UnknownByte at f = (f.within, f.visible)
fault_stops text LargeNumber at f = spelt_stops text (record { lexeme = Number f.value; at = at }) f.stop f.token

end_stops : (text : List ℕ) → Stops text (length text)
end_stops text l = absurd (omega arith)

pub one_token : (text : List ℕ) (t u : Token) (s r : ℕ) → IsToken text t s → IsToken text u r → t.at ≡ u.at → (t ≡ u) × (s ≡ r)
one_token text t u s r h k e =
    let up : s ≤ r = k.longest t.lexeme s h.within (subst (λ (a : ℕ). IsSpelt t.lexeme (slice_range text a s)) e h.spelt) in
    let down : r ≤ s = h.longest u.lexeme r k.within (subst (λ (a : ℕ). IsSpelt u.lexeme (slice_range text a r)) (sym e) k.spelt) in
    let stop : s ≡ r = omega arith in
    let here : IsSpelt t.lexeme (slice_range text u.at r) = subst (λ (a : ℕ). IsSpelt t.lexeme (slice_range text u.at a)) stop (subst (λ (a : ℕ). IsSpelt t.lexeme (slice_range text a s)) e h.spelt) in
    let same = one_lexeme t.lexeme u.lexeme (slice_range text u.at r) here k.spelt in
    (λ i. record { lexeme = same i; at = e i }, stop)

-- no fine token begins at a fault
fault_no_token : (text : List ℕ) (f : TokenFault) (t : Token) (s : ℕ) → IsFault text f t.at → IsToken text t s → IsFine t.lexeme → ⊥
fault_no_token text UnknownByte t s f h fine = f.none t.lexeme s h.within h.spelt
fault_no_token text LargeNumber t s f h fine =
    let same = (one_token text (record { lexeme = Number f.value; at = t.at }) t f.stop s f.token h refl).0 in
    f.large (subst (λ (u : Token). IsFine u.lexeme) (sym same) fine)

one_cause : (text : List ℕ) (f g : TokenFault) (at : ℕ) → IsFault text f at → IsFault text g at → f ≡ g
one_cause text UnknownByte UnknownByte at f g = refl
one_cause text UnknownByte LargeNumber at f g = absurd (f.none (Number g.value) g.stop g.token.within g.token.spelt)
one_cause text LargeNumber UnknownByte at f g = absurd (g.none (Number f.value) f.stop f.token.within f.token.spelt)
one_cause text LargeNumber LargeNumber at f g = refl

one_ending : (text : List ℕ) (from : ℕ) (e f : Ending) → EndsIn text from e → EndsIn text from f → e ≡ f
one_ending text from End End h k = refl
one_ending text from End (Fault d b) h k =
    let s = fault_stops text d b k.1 in
    absurd (let e = one_place text from (length text) b h k.0 (end_stops text) (λ l. s.1) in omega (arith, e, s.0))
one_ending text from (Fault c a) End h k =
    let s = fault_stops text c a h.1 in
    absurd (let e = one_place text from a (length text) h.0 k (λ l. s.1) (end_stops text) in omega (arith, e, s.0))
one_ending text from (Fault c a) (Fault d b) h k =
    let place = one_place text from a b h.0 k.0 (λ l. (fault_stops text c a h.1).1) (λ l. (fault_stops text d b k.1).1) in
    ap₂ Fault (one_cause text c d b (subst (IsFault text c) place h.1) k.1) place

no_token : (text : List ℕ) (from s : ℕ) (e : Ending) (t : Token) → EndsIn text from e → IsGap text from t.at → IsToken text t s → IsFine t.lexeme → ⊥
no_token text from s End t h g k fine =
    let v = spelt_stops text t s k in
    let e = one_place text from (length text) t.at h g (end_stops text) (λ l. v.1) in
    omega (arith, e, v.0)
no_token text from s (Fault c a) t h g k fine =
    let v = spelt_stops text t s k in
    let place = one_place text from a t.at h.0 g (λ l. (fault_stops text c a h.1).1) (λ l. v.1) in
    fault_no_token text c t s (subst (IsFault text c) place h.1) k fine

pub one_lexing : (text : List ℕ) (from : ℕ) (ts us : List Token) (e f : Ending) → LeadsTo text from ts e → LeadsTo text from us f → (ts ≡ us) × (e ≡ f)
one_lexing text from [] [] e f h k = (refl, one_ending text from e f h k)
one_lexing text from [] (u ∷ us) e f h k = absurd (no_token text from k.0 e u h k.1 k.2 k.3)
one_lexing text from (t ∷ ts) [] e f h k = absurd (no_token text from h.0 f t k h.1 h.2 h.3)
one_lexing text from (t ∷ ts) (u ∷ us) e f h k =
    let place = one_place text from t.at u.at h.1 k.1 (λ l. (spelt_stops text t h.0 h.2).1) (λ l. (spelt_stops text u k.0 k.2).1) in
    let same = one_token text t u h.0 k.0 h.2 k.2 place in
    let rest = one_lexing text k.0 ts us e f (subst (λ (n : ℕ). LeadsTo text n ts e) same.1 h.4) k.4 in
    (ap₂ (λ v vs. v ∷ vs) same.0 rest.0, rest.1)

pub tokens_are_one : TokensAreOne
tokens_are_one text ts us h k = (one_lexing text 0 ts us End End h k).0

end_no_fault : (f : TokenFault) (a : ℕ) → End ≡ Fault f a → ⊥
end_no_fault f a e = cc

pub token_fault_is_one : TokenFaultIsOne
token_fault_is_one text f g a b h k =
    let e = (one_lexing text 0 h.0 k.0 (Fault f a) (Fault g b) h.1 k.1).1 in
    (cause_is f g a b e, place_is f g a b e)
  where
    cause_is : (f g : TokenFault) (a b : ℕ) → Fault f a ≡ Fault g b → f ≡ g
    cause_is f g a b e = cc

    place_is : (f g : TokenFault) (a b : ℕ) → Fault f a ≡ Fault g b → a ≡ b
    place_is f g a b e = cc

pub tokens_or_fault : TokensOrFault
tokens_or_fault text ts f a h k = end_no_fault f a (one_lexing text 0 ts k.0 End (Fault f a) h k.1).1
