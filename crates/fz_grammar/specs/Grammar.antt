-- Grammars as data, with the trees that they spell.
use Rattle.std.specs.Prelude.{◌≡◌, ◌⊎◌, ℕ, List, [], ◌∷◌, ◌++◌, Bool}

pub data Symbol (N : Type 0) : Type 0 where
  Leaf : (kind : ℕ) → Symbol N
  Rule : (name : N) → Symbol N

-- what symbols stand for: a token for each leaf, a tree for each rule
abbrev pub Values : {N : Type 0} → (N → Type 0) → Type 0 → List (Symbol N) → Type 0
Values Tree T [] = Unit {0}
Values Tree T (Leaf k ∷ ss) = T × Values Tree T ss
Values Tree T (Rule n ∷ ss) = Tree n × Values Tree T ss

-- the kinds that a body begins with, what it is, and the tree that is built of its parts
pub record Alternative {N : Type 0} (Tree : N → Type 0) (T : Type 0) (n : N) : Type 0 where
  pub begins : List ℕ
  pub body : List (Symbol N)
  pub build : Values Tree T body → Tree n

-- alternatives, the last of them for every other token
pub data Choice {N : Type 0} (Tree : N → Type 0) (T : Type 0) (n : N) : Type 0 where
  Only : (one : Alternative Tree T n) → Choice Tree T n
  When : (one : Alternative Tree T n) (others : Choice Tree T n) → Choice Tree T n

abbrev pub Among : {N : Type 0} {Tree : N → Type 0} {T : Type 0} {n : N} → Choice Tree T n → Alternative Tree T n → Type 0
Among (Only a) b = a ≡ b
Among (When a rest) b = (a ≡ b) ⊎ Among rest b

pub record Grammar : Type 1 where
  pub Name : Type 0
  pub Tree : Name → Type 0
  pub Token : Type 0
  pub kind : Token → ℕ
  pub opens : ℕ → Bool
  pub closes : ℕ → Bool
  pub rules : (n : Name) → Choice Tree Token n

abbrev pub Trees : (G : Grammar) → List (Symbol G.Name) → Type 0
Trees G ss = Values G.Tree G.Token ss

abbrev pub Body : (G : Grammar) → G.Name → Type 0
Body G n = Alternative G.Tree G.Token n

-- the tokens from `old` up to `new` spell these trees
pub data Spells (G : Grammar) : (ss : List (Symbol G.Name)) → List G.Token → List G.Token → Trees G ss → Type 0 where
  Ends : (ts : List G.Token) → Spells G [] ts ts tt
  Takes : (k : ℕ) (ss : List (Symbol G.Name)) (t : G.Token) (ts new : List G.Token) (v : Trees G ss) → G.kind t ≡ k
      → Spells G ss ts new v → Spells G (Leaf k ∷ ss) (t ∷ ts) new (t, v)
  Opens : (n : G.Name) (a : Body G n) (ss : List (Symbol G.Name)) (old mid new : List G.Token) (w : Trees G a.body) (v : Trees G ss) → Among (G.rules n) a
      → Spells G a.body old mid w → Spells G ss mid new v → Spells G (Rule n ∷ ss) old new (a.build w, v)

-- the tokens spell this tree
abbrev pub IsSpelt : (G : Grammar) (n : G.Name) → List G.Token → G.Tree n → Type 0
IsSpelt G n ts tree = Spells G (Rule n ∷ []) ts [] (tree, tt)

-- some tree begins with these tokens
pub record IsFront (G : Grammar) (start : G.Name) (ts : List G.Token) : Type 0 where
  pub more : List G.Token
  pub tree : G.Tree start
  pub spelt : IsSpelt G start (ts ++ more) tree

abbrev pub Breaks : (G : Grammar) → G.Name → List G.Token → List G.Token → Type 0
Breaks G start before [] = (p : G.Tree start) → IsSpelt G start before p → ⊥
Breaks G start before (t ∷ behind) = IsFront G start (before ++ t ∷ []) → ⊥

pub record BreaksBehind (G : Grammar) (start : G.Name) (ts before behind : List G.Token) : Type 0 where
  pub are : ts ≡ before ++ behind
  pub front : IsFront G start before
  pub breaks : Breaks G start before behind
