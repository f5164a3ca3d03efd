-- A text has one verdict: a tree, or one fault at one place.
use Rattle.std.proofs.Common.{inl, inr, ◌≡◌, ◌⊎◌, ℕ, List, [], ◌∷◌, ◌++◌, Bool, true, false, not, ◌||◌, nat_lt, ltb-true, true≢false, refl, sym, ap, subst, ◌∙◌, append_assoc, append-nil, arith}
use Rattle.fz_grammar.specs.Grammar.{Grammar, IsSpelt, IsFront, Breaks}
use Rattle.fz_grammar.specs.Reading.{level, allowed}
use Rattle.fz_grammar.specs.Verdict.{depth, Stays, IsAccepted, HasFault, IsTooDeep}
use Rattle.fz_grammar.proofs.Lists.{heads, tails}

-- the first front is shorter than the second
record IsShorter {T : Type 0} (a b c d : List T) : Type 0 where
  next : T
  rest : List T
  is : c ≡ a ++ next ∷ rest
  behind : b ≡ next ∷ (rest ++ d)

abbrev Cut : {T : Type 0} → List T → List T → List T → List T → Type 0
Cut a b c d = ((a ≡ c) × (b ≡ d)) ⊎ (IsShorter a b c d ⊎ IsShorter c d a b)

cut : {T : Type 0} (a b c d : List T) → a ++ b ≡ c ++ d → Cut a b c d
cut [] b [] d e = inl (refl, e)
cut [] b (u ∷ c) d e = inr (inl (record { next = u; rest = c; is = refl; behind = e }))
cut (t ∷ a) b [] d e = inr (inr (record { next = t; rest = a; is = refl; behind = sym e }))
cut {T} (t ∷ a) b (u ∷ c) d e =
    let q : t ≡ u = heads t u (a ++ b) (c ++ d) e in
    longer q (cut a b c d (tails t u (a ++ b) (c ++ d) e))
  where
    longer : t ≡ u → Cut a b c d → Cut (t ∷ a) b (u ∷ c) d
    longer q (inl h) = inl ((λ i. q i ∷ h.0 i), h.1)
    longer q (inr (inl h)) = inr (inl (record { next = h.next; rest = h.rest; is = λ i. sym q i ∷ h.is i; behind = h.behind }))
    longer q (inr (inr h)) = inr (inr (record { next = h.next; rest = h.rest; is = λ i. q i ∷ h.is i; behind = h.behind }))

-- a prefix of a front is one
shorter_front : (G : Grammar) (start : G.Name) (a b : List G.Token) → IsFront G start (a ++ b) → IsFront G start a
shorter_front G start a b h = record { more = b ++ h.more; tree = h.tree; spelt = subst (λ (us : List G.Token). IsSpelt G start us h.tree) (append_assoc a b h.more) h.spelt }

shorter_than : (G : Grammar) (start : G.Name) (a c rest : List G.Token) (t : G.Token) → c ≡ a ++ t ∷ rest → IsFront G start c → IsFront G start (a ++ t ∷ [])
shorter_than G start a c rest t e h = shorter_front G start (a ++ t ∷ []) rest (subst (λ (us : List G.Token). IsFront G start us) (e ∙ sym (append_assoc a (t ∷ []) rest)) h)

-- where it breaks, no front goes on
no_front : (G : Grammar) (start : G.Name) (a b rest : List G.Token) (t : G.Token) → Breaks G start a b → b ≡ t ∷ rest → IsFront G start (a ++ t ∷ []) → ⊥
no_front G start a b rest t h e = subst (λ (us : List G.Token). Breaks G start a us) e h

no_less : (l : ℕ) (k : Bool) → k ≡ true → (not k || nat_lt l l) ≡ true → ⊥
no_less l true e h = let i = ltb-true l l h in omega arith
no_less l false e h = true≢false (sym e)

-- no bracket over the limit stands within what stays
no_bracket : (G : Grammar) (limit l : ℕ) (a : List G.Token) (t : G.Token) (rest : List G.Token) → depth G l a ≡ limit → G.opens (G.kind t) ≡ true → Stays G limit l (a ++ t ∷ rest) → ⊥
no_bracket G limit l [] t rest d o h = no_less limit (G.opens (G.kind t)) o (subst (λ (m : ℕ). allowed G limit (G.kind t) m ≡ true) d h.0)
no_bracket G limit l (u ∷ a) t rest d o h = no_bracket G limit (level G (G.kind u) l) a t rest d o h.1

module _ (G : Grammar) (limit : ℕ) (start : G.Name) (ts : List G.Token) where
  pub one_fault : (b d : List G.Token) → HasFault G limit start ts b → HasFault G limit start ts d → b ≡ d
  one_fault b d h k = by (cut h.before b k.before d (sym h.breaks.are ∙ k.breaks.are))
    where
      by : Cut h.before b k.before d → b ≡ d
      by (inl e) = e.1
      by (inr (inl s)) = absurd (no_front G start h.before b (s.rest ++ d) s.next h.breaks.breaks s.behind (shorter_than G start h.before k.before s.rest s.next s.is k.breaks.front))
      by (inr (inr s)) = absurd (no_front G start k.before d (s.rest ++ b) s.next k.breaks.breaks s.behind (shorter_than G start k.before h.before s.rest s.next s.is h.breaks.front))

  stays_at : (a c rest : List G.Token) (t : G.Token) → c ≡ a ++ t ∷ rest → Stays G limit 0 c → Stays G limit 0 (a ++ t ∷ rest)
  stays_at a c rest t e h = subst (λ (us : List G.Token). Stays G limit 0 us) e h

  same_bracket : (x y : G.Token) (xs ys b : List G.Token) → b ≡ x ∷ xs → b ≡ y ∷ ys → x ≡ y
  same_bracket x y xs ys b e f = heads x y xs ys (sym e ∙ f)

  no_deeper : (b d : List G.Token) (h : IsTooDeep G limit start ts b) (c : List G.Token) → IsShorter h.before b c d → Stays G limit 0 c → ⊥
  no_deeper b d h c s k =
      let q : h.bracket ≡ s.next = same_bracket h.bracket s.next h.more (s.rest ++ d) b h.next s.behind in
      no_bracket G limit 0 h.before s.next s.rest h.over (subst (λ (u : G.Token). G.opens (G.kind u) ≡ true) q h.opens) (stays_at h.before c s.rest s.next s.is k)

  pub one_level : (b d : List G.Token) → IsTooDeep G limit start ts b → IsTooDeep G limit start ts d → b ≡ d
  one_level b d h k = by (cut h.before b k.before d (sym h.are ∙ k.are))
    where
      by : Cut h.before b k.before d → b ≡ d
      by (inl e) = e.1
      by (inr (inl s)) = absurd (no_deeper b d h k.before s k.stays)
      by (inr (inr s)) = absurd (no_deeper d b k h.before s h.stays)

  pub not_both : (b d : List G.Token) → HasFault G limit start ts b → IsTooDeep G limit start ts d → ⊥
  not_both b d h k = by (cut h.before b k.before d (sym h.breaks.are ∙ k.are))
    where
      by : Cut h.before b k.before d → ⊥
      by (inl e) = no_front G start h.before b k.more k.bracket h.breaks.breaks (e.1 ∙ k.next) (subst (λ (us : List G.Token). IsFront G start (us ++ k.bracket ∷ [])) (sym e.0) k.front)
      by (inr (inl s)) = no_front G start h.before b (s.rest ++ d) s.next h.breaks.breaks s.behind (shorter_than G start h.before k.before s.rest s.next s.is (shorter_front G start k.before (k.bracket ∷ []) k.front))
      by (inr (inr s)) = no_deeper d b k h.before s h.stays

  pub no_fault : (p : G.Tree start) (b : List G.Token) → IsAccepted G limit start ts p → HasFault G limit start ts b → ⊥
  no_fault p [] h k = k.breaks.breaks p (subst (λ (us : List G.Token). IsSpelt G start us p) (k.breaks.are ∙ append-nil k.before) h.spelt)
  no_fault p (t ∷ b) h k =
      k.breaks.breaks (record { more = b; tree = p; spelt = subst (λ (us : List G.Token). IsSpelt G start us p) (k.breaks.are ∙ sym (append_assoc k.before (t ∷ []) b)) h.spelt })

  pub no_level : (p : G.Tree start) (b : List G.Token) → IsAccepted G limit start ts p → IsTooDeep G limit start ts b → ⊥
  no_level p b h k = no_bracket G limit 0 k.before k.bracket k.more k.over k.opens (subst (λ (us : List G.Token). Stays G limit 0 us) (k.are ∙ ap (λ (us : List G.Token). k.before ++ us) k.next) h.stays)
