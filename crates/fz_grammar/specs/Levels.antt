-- The level after the symbols of a body.
use Rattle.std.specs.Prelude.{◌≡◌, ℕ, List, [], ◌∷◌}
use Rattle.fz_grammar.specs.Grammar.{Symbol, Leaf, Rule, Choice, Only, When, Grammar}
use Rattle.fz_grammar.specs.Reading.{level}

-- the level after symbols
abbrev pub levels : (G : Grammar) → List (Symbol G.Name) → ℕ → ℕ
levels G [] l = l
levels G (Leaf k ∷ ss) l = levels G ss (level G k l)
levels G (Rule n ∷ ss) l = levels G ss l

-- each body closes what it opens
abbrev pub AreEven : (G : Grammar) (n : G.Name) → Choice G.Tree G.Token n → Type 0
AreEven G n (Only a) = (l : ℕ) → levels G a.body l ≡ l
AreEven G n (When a rest) = ((l : ℕ) → levels G a.body l ≡ l) × AreEven G n rest
