-- Tables of what may stand before the first token of a rule, and what computation checks of them: then the reading of any
-- tokens comes to an end.
use Rattle.std.specs.Prelude.{◌==◌, ◌||◌, ◌&&◌, not, ℕ, List, [], ◌∷◌, Bool, true, false, nat_lt}
use Rattle.fz_grammar.specs.Grammar.{Symbol, Leaf, Rule, Choice, Only, When, Grammar, Body}

-- which rules take a token at least; and a height, higher than that of each rule that may stand before the first token
pub record Lefts (G : Grammar) : Type 0 where
  pub takes : G.Name → Bool
  pub left : G.Name → ℕ

-- some of these symbols takes a token
abbrev pub some_takes : (G : Grammar) → Lefts G → List (Symbol G.Name) → Bool
some_takes G L [] = false
some_takes G L (Leaf k ∷ ss) = true
some_takes G L (Rule n ∷ ss) = L.takes n || some_takes G L ss

-- the rules before the first token are lower
abbrev pub lefts_lower : (G : Grammar) → Lefts G → ℕ → List (Symbol G.Name) → Bool
lefts_lower G L h [] = true
lefts_lower G L h (Leaf k ∷ ss) = true
lefts_lower G L h (Rule n ∷ ss) = nat_lt (L.left n) h && (L.takes n || lefts_lower G L h ss)

-- no leaf asks for the end of the tokens
abbrev pub no_end : (G : Grammar) → List (Symbol G.Name) → Bool
no_end G [] = true
no_end G (Leaf k ∷ ss) = not (k == 0) && no_end G ss
no_end G (Rule n ∷ ss) = no_end G ss

abbrev pub is_finite : (G : Grammar) (L : Lefts G) (n : G.Name) → Body G n → Bool
is_finite G L n a = ((not (L.takes n) || some_takes G L a.body) && lefts_lower G L (L.left n) a.body) && no_end G a.body

abbrev pub are_finite : (G : Grammar) (L : Lefts G) (n : G.Name) → Choice G.Tree G.Token n → Bool
are_finite G L n (Only a) = is_finite G L n a
are_finite G L n (When a rest) = is_finite G L n a && are_finite G L n rest
