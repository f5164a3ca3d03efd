-- One token that is taken, or missed.
use Rattle.std.proofs.Common.{◌≡◌, ℕ, suc, ◌<◌, List, [], ◌∷◌, Bool, true, false, ◌||◌, ◌==◌, drop, length, refl, sym, ap, subst, ◌∙◌, eq-eqb, eqb-true, true≢false, arith}
use Rattle.fz_language.specs.declared.fault.SyntaxFault.TheVariants.{Unexpected}
use Rattle.fz_language.specs.declared.token_kind.TokenKind.{TokenKind}
use Rattle.fz_language.specs.declared.token_kind.TokenKind.TheVariants as kind
use Rattle.fz_language.specs.Tokens.{Token, Lexeme, Identifier, Word, Number, Float, Text, Punct}
use Rattle.fz_language.specs.declared.sign.Sign.{Sign}
use Rattle.fz_language.specs.declared.sign.Sign.TheVariants.{Semicolon}
use Rattle.fz_language.specs.declared.keyword.Keyword.{Keyword}
use Rattle.fz_language.specs.declared.keyword.Keyword.TheVariants.{Array}
use Rattle.fz_language.specs.Kinds.{number, sign_number, keyword_number, kind_of}
use Rattle.fz_language.proofs.KindLaws.{same_kind}
use Rattle.fz_language.specs.Grammar.{flatzinc, level_limit}
use Rattle.fz_grammar.specs.Grammar.{Leaf}
use Rattle.fz_grammar.specs.Reading.{TookIn, DoneIn, HereIn, allowed, head, has}
use Rattle.fz_lex.specs.Ahead.{Source, head_kind, place_of}
use Rattle.fz_parse.specs.declared.stop.Stop.TheVariants as stop
use Rattle.fz_parse.specs.Steps.{Read, Halts, IsMark, mark}

marks : (x : Lexeme) (at : ℕ) → IsMark (kind_of x) → record { lexeme = x; at = at } ≡ mark (kind_of x) at
marks (Identifier name) at h = absurd h
marks (Word k) at h = refl
marks (Number v) at h = absurd h
marks Float at h = refl
marks Text at h = refl
marks (Punct s) at h = refl

pub mark_is : (k : TokenKind) (t : Token) → IsMark k → number (kind_of t.lexeme) ≡ number k → t ≡ mark k t.at
mark_is k t h e =
    let same : kind_of t.lexeme ≡ k = same_kind (kind_of t.lexeme) k e in
    marks t.lexeme t.at (subst IsMark (sym same) h) ∙ ap (λ (x : TokenKind). mark x t.at) same

has_one : (k h : ℕ) → ((k == h) || false) ≡ true → h ≡ k
has_one k h e = sym (eqb-true k h (first (k == h) e))
  where
    first : (b : Bool) → (b || false) ≡ true → b ≡ true
    first true e = refl
    first false e = e

pub has_kind : (b : Bool) (k h : ℕ) → b ≡ ((k == h) || false) → b ≡ true → h ≡ k
has_kind b k h e f = has_one k h (sym e ∙ f)

pub has_other : (b : Bool) (k h : ℕ) → b ≡ ((k == h) || false) → b ≡ false → h ≡ k → ⊥
has_other b k h e f g = true≢false (sym (ap (λ (x : Bool). x || false) (eq-eqb k h (sym g))) ∙ sym e ∙ f)

pub missed : (k : ℕ) (ts : List Token) → (head flatzinc ts ≡ k → ⊥) → (l : ℕ) → Halts l (Leaf k ∷ []) ts ts (stop.Fault Unexpected)
missed k ts h l = record { is = HereIn l k [] ts h }

pub took : (k l : ℕ) (t : Token) (old new : List Token) → old ≡ t ∷ new → number (kind_of t.lexeme) ≡ k → allowed flatzinc level_limit k l ≡ true → Read l (Leaf k ∷ []) (t, tt) old new
took k l t old new e f a = subst (λ (ts : List Token). Read l (Leaf k ∷ []) (t, tt) ts new) (sym e) (TookIn l k [] t new new tt f a (DoneIn _ new))

pub took_mark : (k : TokenKind) (source : Source) (ts new : List Token) (at : ℕ) → IsMark k → head flatzinc ts ≡ number k → 0 < number k → at ≡ place_of source ts → new ≡ drop 1 ts
    → (l : ℕ) → allowed flatzinc level_limit (number k) l ≡ true → Read l (Leaf (number k) ∷ []) (mark k at, tt) ts new
took_mark k source [] new at h e s p n l a = absurd (omega (arith, e, s))
took_mark k source (t ∷ ts) new at h e s p n l a =
    let old : t ∷ ts ≡ t ∷ new = ap (λ (us : List Token). t ∷ us) (sym n) in
    subst (λ (u : Token). Read l (Leaf (number k) ∷ []) (u, tt) (t ∷ ts) new) (mark_is k t h e ∙ ap (mark k) (sym p)) (took (number k) l t (t ∷ ts) new old e a)

-- a token that was passed
pub took_next : (k l : ℕ) (t : Token) (old new : List Token) → old ≡ t ∷ drop 1 old → new ≡ drop 1 old → number (kind_of t.lexeme) ≡ k → allowed flatzinc level_limit k l ≡ true → Read l (Leaf k ∷ []) (t, tt) old new
took_next k l t old new e n f a = took k l t old new (e ∙ ap (λ (us : List Token). t ∷ us) (sym n)) f a

-- fewer tokens are ahead after one that was passed
pub fewer : (ts new : List Token) → 0 < head flatzinc ts → new ≡ drop 1 ts → length new < length ts
fewer [] new s n = absurd (omega (arith, s))
fewer (t ∷ ts) new s n = let e : length new ≡ length ts = ap length n in omega (arith, e)

pub fewer_next : (t : Token) (old new : List Token) → old ≡ t ∷ drop 1 old → new ≡ drop 1 old → length new < length old
fewer_next t old new e n = let a : length old ≡ suc (length (drop 1 old)) = ap length e in let b : length new ≡ length (drop 1 old) = ap length n in omega (arith, a, b)

sign_positive : (s : Sign) → 0 < sign_number s
sign_positive Semicolon = omega arith
sign_positive _ = omega arith

keyword_positive : (k : Keyword) → 0 < keyword_number k
keyword_positive Array = omega arith
keyword_positive _ = omega arith

pub positive : (k : TokenKind) → IsMark k → 0 < number k
positive kind.End h = absurd h
positive kind.Identifier h = absurd h
positive kind.Integer h = absurd h
positive kind.Float h = omega arith
positive kind.Text h = omega arith
positive (kind.Sign s) h = sign_positive s
positive (kind.Keyword k) h = keyword_positive k

heads : (ts : List Token) → head_kind ts ≡ head flatzinc ts
heads [] = refl
heads (t ∷ ts) = refl

-- a test on the kind of the next token
pub kind_has : {b : Bool} {k : ℕ} (ks : List ℕ) (ts : List Token) → b ≡ has ks k → k ≡ head_kind ts → b ≡ has ks (head flatzinc ts)
kind_has ks ts e f = e ∙ ap (has ks) (f ∙ heads ts)

pub kind_positive : (x : Lexeme) → 0 < number (kind_of x)
kind_positive (Identifier name) = omega arith
kind_positive (Word k) = keyword_positive k
kind_positive (Number v) = omega arith
kind_positive Float = omega arith
kind_positive Text = omega arith
kind_positive (Punct s) = sign_positive s
