-- What is ahead of a place, by what stands there.
use Rattle.std.proofs.Common.{◌≡◌, ℕ, ℤ, ◌<◌, ◌≤◌, ◌⊎◌, inl, inr, List, [], ◌∷◌, drop, length, refl, sym, ap, subst, arith, ◌∙◌}
use Rattle.std.proofs.lemmas.Bool.{cases_lt}
use Rattle.fz_language.specs.declared.fault.TokenFault.{TokenFault}
use Rattle.fz_language.specs.declared.token_kind.TokenKind.{TokenKind}
use Rattle.fz_language.specs.declared.token_kind.TokenKind.TheVariants as kind
use Rattle.fz_language.specs.Tokens.{Token, IsGap, Ends, IsFault, Ending, End, Fault, LeadsTo}
use Rattle.fz_language.specs.Tokens as language
use Rattle.fz_language.specs.Kinds.{number, kind_of}
use Rattle.fz_language.proofs.KindLaws.{same_kind}
use Rattle.fz_language.proofs.SomeTokens.{leads_from}
use Rattle.fz_language.proofs.TokenProofs.{one_lexing}
use Rattle.fz_lex.specs.declared.lexeme.Lexeme.{Lexeme}
use Rattle.fz_lex.specs.declared.lexeme.Lexeme.TheVariants as lexeme
use Rattle.fz_lex.specs.declared.lexer.Head.{Head}
use Rattle.fz_lex.specs.declared.lexer.Head.TheVariants as head
use Rattle.fz_lex.specs.Ahead.{Ahead, IsNotAt, head_kind, place_ahead}
use Rattle.fz_lex.specs.Lexed.{lexeme_of}
use Rattle.fz_lex.specs.Lexers.{ahead_from, ahead_of, IsHead, IsLexer}
use Rattle.fz_lex.specs.Steps.{IsFoundAt}
use Rattle.fz_lex.proofs.Gaps.{gap_join, gap_within}

leads_within : (text : List ℕ) (at : ℕ) → at ≤ length text → (d : (length text < at) ⊎ (at ≤ length text)) → LeadsTo text at (ahead_from text at d).tokens (ahead_from text at d).source.ending
unfolding ahead_from
leads_within text at w (inl over) = absurd (omega (arith, over, w))
leads_within text at w (inr within) = (leads_from text at within).2

pub leads_ahead : (text : List ℕ) (at : ℕ) → at ≤ length text → LeadsTo text at (ahead_of text at).tokens (ahead_of text at).source.ending
unfolding ahead_of
leads_ahead text at w = leads_within text at w (cases_lt (length text) at)

text_within : (text : List ℕ) (at : ℕ) (d : (length text < at) ⊎ (at ≤ length text)) → (ahead_from text at d).source.text ≡ text
unfolding ahead_from
text_within text at (inl over) = refl
text_within text at (inr within) = refl

pub text_ahead : (text : List ℕ) (at : ℕ) → (ahead_of text at).source.text ≡ text
unfolding ahead_of
text_ahead text at = text_within text at (cases_lt (length text) at)

-- it is the one list of tokens and the one ending to which the text leads
pub is_ahead : (text : List ℕ) (at : ℕ) (ts : List Token) (e : Ending) → at ≤ length text → LeadsTo text at ts e → ahead_of text at ≡ record { source = record { text = text; ending = e }; tokens = ts }
is_ahead text at ts e w h =
    let one = one_lexing text at (ahead_of text at).tokens ts (ahead_of text at).source.ending e (leads_ahead text at w) h in
    λ i. record { source = record { text = text_ahead text at i; ending = one.1 i }; tokens = one.0 i }

before_gap : (text : List ℕ) (start at : ℕ) (ts : List Token) (e : Ending) → IsGap text start at → LeadsTo text at ts e → LeadsTo text start ts e
before_gap text start at [] End g h = gap_join text start at (length text) g h
before_gap text start at [] (Fault fault place) g h = (gap_join text start at place g h.0, h.1)
before_gap text start at (t ∷ ts) e g h = (h.0, gap_join text start at t.at g h.1, h.2, h.3, h.4)

pub ahead_gap : (text : List ℕ) (start at : ℕ) → start ≤ length text → IsGap text start at → ahead_of text at ≡ ahead_of text start
ahead_gap text start at w g =
    let v = gap_within text start at g in
    let l = leads_ahead text at v in
    sym (is_ahead text start (ahead_of text at).tokens (ahead_of text at).source.ending w (before_gap text start at (ahead_of text at).tokens (ahead_of text at).source.ending g l)
    ∙ sym (is_ahead text at (ahead_of text at).tokens (ahead_of text at).source.ending v l))

-- a token stands there
pub ahead_token : (text : List ℕ) (at stop : ℕ) (x : Lexeme) → at ≤ length text → IsFoundAt text at (record { lexeme = x; stop = stop })
    → ahead_of text at ≡ record { source = (ahead_of text stop).source; tokens = record { lexeme = lexeme_of text at x; at = at } ∷ (ahead_of text stop).tokens }
ahead_token text at stop x w f =
    let rest = ahead_of text stop in
    let l = leads_ahead text stop f.token.within in
    is_ahead text at (record { lexeme = lexeme_of text at x; at = at } ∷ rest.tokens) rest.source.ending w (stop, Ends at w, f.token, f.fine, l)
    ∙ ap (λ (s : List ℕ). record { source = record { text = s; ending = rest.source.ending }; tokens = record { lexeme = lexeme_of text at x; at = at } ∷ rest.tokens }) (sym (text_ahead text stop))

-- the text ends there
pub ahead_end : (text : List ℕ) (at : ℕ) → at ≡ length text → ahead_of text at ≡ record { source = record { text = text; ending = End }; tokens = [] }
ahead_end text at e = let w : at ≤ length text = omega (arith, e) in is_ahead text at [] End w (subst (λ (n : ℕ). IsGap text at n) e (Ends at w))

-- a fault stands there
pub ahead_fault : (text : List ℕ) (at : ℕ) (fault : TokenFault) → at ≤ length text → IsFault text fault at → ahead_of text at ≡ record { source = record { text = text; ending = Fault fault at }; tokens = [] }
ahead_fault text at fault w f = is_ahead text at [] (Fault fault at) w (Ends at w, f)

-- what is ahead, by what a lexer keeps of the place

pub at_token : (text : List ℕ) (at : ℕ) (h : Head) (x : Lexeme) (stop : ℕ) → IsLexer text at h → h ≡ head.Token x stop
    → ahead_of text at ≡ record { source = (ahead_of text stop).source; tokens = record { lexeme = lexeme_of text at x; at = at } ∷ (ahead_of text stop).tokens }
at_token text at h x stop l e = ahead_token text at stop x l.within (subst (IsHead text at) e l.is)

pub begins_token : (text : List ℕ) (at : ℕ) (h : Head) (x : Lexeme) (stop : ℕ) → IsLexer text at h → h ≡ head.Token x stop
    → (ahead_of text at).tokens ≡ record { lexeme = lexeme_of text at x; at = at } ∷ drop 1 (ahead_of text at).tokens
begins_token text at h x stop l e =
    let a = ap (λ (x : Ahead). x.tokens) (at_token text at h x stop l e) in
    a ∙ ap (λ (ts : List Token). record { lexeme = lexeme_of text at x; at = at } ∷ drop 1 ts) (sym a)

pub at_end : (text : List ℕ) (at : ℕ) (h : Head) → IsLexer text at h → h ≡ head.End → ahead_of text at ≡ record { source = record { text = text; ending = End }; tokens = [] }
at_end text at h l e = ahead_end text at (subst (IsHead text at) e l.is)

pub at_fault : (text : List ℕ) (at : ℕ) (h : Head) (fault : TokenFault) → IsLexer text at h → h ≡ head.Fault fault → ahead_of text at ≡ record { source = record { text = text; ending = Fault fault at }; tokens = [] }
at_fault text at h fault l e = ahead_fault text at fault l.within (subst (IsHead text at) e l.is)

by_head : (P : Ahead → Type 0) (text : List ℕ) (at : ℕ) (h k : Head) → h ≡ k → IsLexer text at h
    → ((x : Lexeme) (stop : ℕ) → k ≡ head.Token x stop → P (ahead_of text at)) → (k ≡ head.End → P (ahead_of text at)) → ((fault : TokenFault) → k ≡ head.Fault fault → P (ahead_of text at)) → P (ahead_of text at)
by_head P text at h (head.Token x stop) e l t n f = t x stop refl
by_head P text at h head.End e l t n f = n refl
by_head P text at h (head.Fault fault) e l t n f = f fault refl

pub place_is : (text : List ℕ) (at : ℕ) (h : Head) → IsLexer text at h → place_ahead (ahead_of text at) ≡ at
place_is text at h l = by_head (λ a. place_ahead a ≡ at) text at h h refl l
    (λ x stop e. ap place_ahead (at_token text at h x stop l e))
    (λ e. ap place_ahead (at_end text at h l e) ∙ sym (subst (IsHead text at) e l.is))
    (λ fault e. ap place_ahead (at_fault text at h fault l e))

-- no token is ahead
pub none_ahead : (text : List ℕ) (at : ℕ) (h : Head) → IsLexer text at h → ((x : Lexeme) (stop : ℕ) → h ≡ head.Token x stop → ⊥) → (ahead_of text at).tokens ≡ []
none_ahead text at h l n = by_head (λ a. a.tokens ≡ []) text at h h refl l
    (λ x stop e. absurd (n x stop e))
    (λ e. ap (λ (a : Ahead). a.tokens) (at_end text at h l e))
    (λ fault e. ap (λ (a : Ahead). a.tokens) (at_fault text at h fault l e))

-- the text ends there, since neither a token nor a fault stands there
pub ends_there : (text : List ℕ) (at : ℕ) (h : Head) → IsLexer text at h → (ahead_of text at).tokens ≡ [] → ((fault : TokenFault) → h ≡ head.Fault fault → ⊥) → (ahead_of text at).source.ending ≡ End
ends_there text at h l none n = by_head (λ a. a.source.ending ≡ End) text at h h refl l
    (λ x stop e. absurd (no_tokens (sym (ap (λ (a : Ahead). a.tokens) (at_token text at h x stop l e)) ∙ none)))
    (λ e. ap (λ (a : Ahead). a.source.ending) (at_end text at h l e))
    (λ fault e. absurd (n fault e))
  where
    no_tokens : {t : Token} {ts : List Token} → t ∷ ts ≡ [] → ⊥
    no_tokens e = cc

-- tokens of another kind

differs_integer : (text : List ℕ) (at : ℕ) (x : Lexeme) → ((n : ℤ) → x ≡ lexeme.Integer n → ⊥) → kind_of (lexeme_of text at x) ≡ kind.Integer → ⊥
differs_integer text at (lexeme.Identifier stop) h e = cc
differs_integer text at (lexeme.Word k) h e = cc
differs_integer text at (lexeme.Integer n) h e = h n refl
differs_integer text at lexeme.Float h e = cc
differs_integer text at lexeme.Text h e = cc
differs_integer text at (lexeme.Sign s) h e = cc

differs_identifier : (text : List ℕ) (at : ℕ) (x : Lexeme) → ((n : ℕ) → x ≡ lexeme.Identifier n → ⊥) → kind_of (lexeme_of text at x) ≡ kind.Identifier → ⊥
differs_identifier text at (lexeme.Identifier stop) h e = h stop refl
differs_identifier text at (lexeme.Word k) h e = cc
differs_identifier text at (lexeme.Integer n) h e = cc
differs_identifier text at lexeme.Float h e = cc
differs_identifier text at lexeme.Text h e = cc
differs_identifier text at (lexeme.Sign s) h e = cc

another_kind : (text : List ℕ) (at : ℕ) (h : Head) (x : Lexeme) (stop : ℕ) (k : TokenKind) → IsLexer text at h → h ≡ head.Token x stop → (kind_of (lexeme_of text at x) ≡ k → ⊥) → IsNotAt (ahead_of text at).tokens k
another_kind text at h x stop k l e n f = n (same_kind (kind_of (lexeme_of text at x)) k (sym (ap (λ (a : Ahead). head_kind a.tokens) (at_token text at h x stop l e)) ∙ f))

pub no_integer : (text : List ℕ) (at : ℕ) (h : Head) (x : Lexeme) (stop : ℕ) → IsLexer text at h → h ≡ head.Token x stop → ((n : ℤ) → x ≡ lexeme.Integer n → ⊥) → IsNotAt (ahead_of text at).tokens kind.Integer
no_integer text at h x stop l e n = another_kind text at h x stop kind.Integer l e (differs_integer text at x n)

pub no_identifier : (text : List ℕ) (at : ℕ) (h : Head) (x : Lexeme) (stop : ℕ) → IsLexer text at h → h ≡ head.Token x stop → ((n : ℕ) → x ≡ lexeme.Identifier n → ⊥) → IsNotAt (ahead_of text at).tokens kind.Identifier
no_identifier text at h x stop l e n = another_kind text at h x stop kind.Identifier l e (differs_identifier text at x n)

pub no_token_ahead : (tokens : List Token) (k : TokenKind) → tokens ≡ [] → (0 ≡ number k → ⊥) → IsNotAt tokens k
no_token_ahead tokens k none p f = p (sym (ap head_kind none) ∙ f)

kind_positive : (x : language.Lexeme) → number (kind_of x) ≡ 0 → ⊥
kind_positive x e = end_no_kind x (same_kind (kind_of x) kind.End e)
  where
    end_no_kind : (x : language.Lexeme) → kind_of x ≡ kind.End → ⊥
    end_no_kind (language.Identifier name) e = cc
    end_no_kind (language.Word k) e = cc
    end_no_kind (language.Number v) e = cc
    end_no_kind language.Float e = cc
    end_no_kind language.Text e = cc
    end_no_kind (language.Punct s) e = cc

pub no_kind : (tokens : List Token) → head_kind tokens ≡ 0 → tokens ≡ []
no_kind [] e = refl
no_kind (t ∷ ts) e = absurd (kind_positive t.lexeme e)
