-- What a text of tokens is: a program within the limit on levels, or at fault at one place.
use Rattle.std.specs.Prelude.{◌≡◌, ℕ, List, [], ◌∷◌, ◌++◌, true}
use Rattle.fz_grammar.specs.Grammar.{Grammar, IsSpelt, IsFront, BreaksBehind}
use Rattle.fz_grammar.specs.Reading.{level, allowed}

-- the level of brackets after tokens
abbrev pub depth : (G : Grammar) → ℕ → List G.Token → ℕ
depth G l [] = l
depth G l (t ∷ ts) = depth G (level G (G.kind t) l) ts

-- no bracket opens a level over the limit
abbrev pub Stays : (G : Grammar) → ℕ → ℕ → List G.Token → Type 0
Stays G limit l [] = Unit {0}
Stays G limit l (t ∷ ts) = (allowed G limit (G.kind t) l ≡ true) × Stays G limit (level G (G.kind t) l) ts

pub record IsAccepted (G : Grammar) (limit : ℕ) (start : G.Name) (ts : List G.Token) (tree : G.Tree start) : Type 0 where
  pub spelt : IsSpelt G start ts tree
  pub stays : Stays G limit 0 ts

-- a syntax fault, before which no level is over the limit
pub record HasFault (G : Grammar) (limit : ℕ) (start : G.Name) (ts behind : List G.Token) : Type 0 where
  pub before : List G.Token
  pub breaks : BreaksBehind G start ts before behind
  pub stays : Stays G limit 0 before

-- the first bracket over the limit, with which some tree begins
pub record IsTooDeep (G : Grammar) (limit : ℕ) (start : G.Name) (ts behind : List G.Token) : Type 0 where
  pub before : List G.Token
  pub bracket : G.Token
  pub more : List G.Token
  pub are : ts ≡ before ++ behind
  pub next : behind ≡ bracket ∷ more
  pub front : IsFront G start (before ++ bracket ∷ [])
  pub stays : Stays G limit 0 before
  pub over : depth G 0 before ≡ limit
  pub opens : G.opens (G.kind bracket) ≡ true
