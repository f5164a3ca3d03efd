-- What trees weigh: a weight for each rule, and one for each token.
use Rattle.std.specs.Prelude.{ℕ, ◌+◌, ◌≤◌, List, [], ◌∷◌}
use Rattle.fz_grammar.specs.Grammar.{Symbol, Leaf, Rule, Choice, Only, When, Grammar, Trees}

-- the tokens and the trees of some symbols, together
abbrev pub weight_of : (G : Grammar) (W : (n : G.Name) → G.Tree n → ℕ) (ss : List (Symbol G.Name)) → Trees G ss → ℕ
weight_of G W [] v = 0
weight_of G W (Leaf k ∷ ss) v = 1 + weight_of G W ss v.1
weight_of G W (Rule n ∷ ss) v = W n v.0 + weight_of G W ss v.1

-- no alternative builds a tree that weighs more than its parts
abbrev pub Weighs : (G : Grammar) (W : (n : G.Name) → G.Tree n → ℕ) (n : G.Name) → Choice G.Tree G.Token n → Type 0
Weighs G W n (Only a) = (v : Trees G a.body) → W n (a.build v) ≤ weight_of G W a.body v
Weighs G W n (When a rest) = ((v : Trees G a.body) → W n (a.build v) ≤ weight_of G W a.body v) × Weighs G W n rest
