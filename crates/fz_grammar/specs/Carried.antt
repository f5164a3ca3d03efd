-- What holds of tokens, and so of the trees that are made of them.
use Rattle.std.specs.Prelude.{List, [], ◌∷◌}
use Rattle.fz_grammar.specs.Grammar.{Symbol, Leaf, Rule, Choice, Only, When, Grammar, Trees}

-- of each token, and of each tree, of some symbols
abbrev pub AllHold : (G : Grammar) (P : G.Token → Type 0) (Q : (n : G.Name) → G.Tree n → Type 0) (ss : List (Symbol G.Name)) → Trees G ss → Type 0
AllHold G P Q [] v = Unit {0}
AllHold G P Q (Leaf k ∷ ss) v = P v.0 × AllHold G P Q ss v.1
AllHold G P Q (Rule n ∷ ss) v = Q n v.0 × AllHold G P Q ss v.1

-- of each token
abbrev pub Each : {T : Type 0} → (T → Type 0) → List T → Type 0
Each P [] = Unit {0}
Each P (t ∷ ts) = P t × Each P ts

-- each alternative carries it from its parts to the tree that it builds
abbrev pub Carries : (G : Grammar) (P : G.Token → Type 0) (Q : (n : G.Name) → G.Tree n → Type 0) (n : G.Name) → Choice G.Tree G.Token n → Type 0
Carries G P Q n (Only a) = (v : Trees G a.body) → AllHold G P Q a.body v → Q n (a.build v)
Carries G P Q n (When a rest) = ((v : Trees G a.body) → AllHold G P Q a.body v → Q n (a.build v)) × Carries G P Q n rest
