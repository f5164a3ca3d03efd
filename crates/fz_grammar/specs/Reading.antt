-- The reading of a grammar by one token of look-ahead, and tables for it.
use Rattle.std.specs.Prelude.{zero, suc, ◌==◌, ◌||◌, not, ◌≡◌, ℕ, List, [], ◌∷◌, Bool, true, false, nat_lt, if◌then◌else◌}
use Rattle.fz_grammar.specs.Grammar.{Symbol, Leaf, Rule, Alternative, Choice, Only, When, Grammar, Trees, Body}

-- the kind of the first token, or 0 at the end
abbrev pub head : (G : Grammar) → List G.Token → ℕ
head G [] = 0
head G (t ∷ ts) = G.kind t

abbrev pub has : List ℕ → ℕ → Bool
has [] k = false
has (b ∷ bs) k = (b == k) || has bs k

abbrev pub chosen : {N : Type 0} {Tree : N → Type 0} {T : Type 0} {n : N} → Choice Tree T n → ℕ → Alternative Tree T n
chosen (Only a) k = a
chosen (When a rest) k = if has a.begins k then a else chosen rest k

-- these trees are read
pub data Reads (G : Grammar) : (ss : List (Symbol G.Name)) → List G.Token → List G.Token → Trees G ss → Type 0 where
  Done : (ts : List G.Token) → Reads G [] ts ts tt
  Took : (k : ℕ) (ss : List (Symbol G.Name)) (t : G.Token) (ts new : List G.Token) (v : Trees G ss) → G.kind t ≡ k
      → Reads G ss ts new v → Reads G (Leaf k ∷ ss) (t ∷ ts) new (t, v)
  Chose : (n : G.Name) (a : Body G n) (ss : List (Symbol G.Name)) (old mid new : List G.Token) (w : Trees G a.body) (v : Trees G ss) → chosen (G.rules n) (head G old) ≡ a
      → Reads G a.body old mid w → Reads G ss mid new v → Reads G (Rule n ∷ ss) old new (a.build w, v)

abbrev pub down : ℕ → ℕ
down zero = zero
down (suc l) = l

-- the level of brackets after a token of this kind
abbrev pub level : (G : Grammar) → ℕ → ℕ → ℕ
level G k l = if G.opens k then suc l else if G.closes k then down l else l

-- a bracket may open a level up to the limit
abbrev pub allowed : Grammar → ℕ → ℕ → ℕ → Bool
allowed G limit k l = not (G.opens k) || nat_lt l limit

-- these trees are read, and no bracket opens a level over the limit
pub data ReadsIn (G : Grammar) (limit : ℕ) : ℕ → (ss : List (Symbol G.Name)) → List G.Token → List G.Token → Trees G ss → Type 0 where
  DoneIn : (l : ℕ) (ts : List G.Token) → ReadsIn G limit l [] ts ts tt
  TookIn : (l k : ℕ) (ss : List (Symbol G.Name)) (t : G.Token) (ts new : List G.Token) (v : Trees G ss) → G.kind t ≡ k → allowed G limit k l ≡ true
      → ReadsIn G limit (level G k l) ss ts new v → ReadsIn G limit l (Leaf k ∷ ss) (t ∷ ts) new (t, v)
  ChoseIn : (l : ℕ) (n : G.Name) (a : Body G n) (ss : List (Symbol G.Name)) (old mid new : List G.Token) (w : Trees G a.body) (v : Trees G ss) → chosen (G.rules n) (head G old) ≡ a
      → ReadsIn G limit l a.body old mid w → ReadsIn G limit l ss mid new v → ReadsIn G limit l (Rule n ∷ ss) old new (a.build w, v)

-- Reading them comes to a place where P holds of the level of brackets, the kind that is wanted there, and the kind that stands there (0 at the end).
pub data Stops (G : Grammar) (P : ℕ → ℕ → ℕ → Type 0) : ℕ → List (Symbol G.Name) → List G.Token → List G.Token → Type 0 where
  Here : (l k : ℕ) (ss : List (Symbol G.Name)) (ts : List G.Token) → P l k (head G ts) → Stops G P l (Leaf k ∷ ss) ts ts
  Along : (l k : ℕ) (ss : List (Symbol G.Name)) (t : G.Token) (ts new : List G.Token) → G.kind t ≡ k → Stops G P (level G k l) ss ts new → Stops G P l (Leaf k ∷ ss) (t ∷ ts) new
  Within : (l : ℕ) (n : G.Name) (a : Body G n) (ss : List (Symbol G.Name)) (old new : List G.Token) → chosen (G.rules n) (head G old) ≡ a
      → Stops G P l a.body old new → Stops G P l (Rule n ∷ ss) old new
  Behind : (l : ℕ) (n : G.Name) (a : Body G n) (ss : List (Symbol G.Name)) (old mid new : List G.Token) (w : Trees G a.body) → chosen (G.rules n) (head G old) ≡ a
      → Reads G a.body old mid w → Stops G P l ss mid new → Stops G P l (Rule n ∷ ss) old new

-- the same, and no bracket before opens a level over the limit
pub data StopsIn (G : Grammar) (limit : ℕ) (P : ℕ → ℕ → ℕ → Type 0) : ℕ → List (Symbol G.Name) → List G.Token → List G.Token → Type 0 where
  HereIn : (l k : ℕ) (ss : List (Symbol G.Name)) (ts : List G.Token) → P l k (head G ts) → StopsIn G limit P l (Leaf k ∷ ss) ts ts
  AlongIn : (l k : ℕ) (ss : List (Symbol G.Name)) (t : G.Token) (ts new : List G.Token) → G.kind t ≡ k → allowed G limit k l ≡ true → StopsIn G limit P (level G k l) ss ts new → StopsIn G limit P l (Leaf k ∷ ss) (t ∷ ts) new
  WithinIn : (l : ℕ) (n : G.Name) (a : Body G n) (ss : List (Symbol G.Name)) (old new : List G.Token) → chosen (G.rules n) (head G old) ≡ a
      → StopsIn G limit P l a.body old new → StopsIn G limit P l (Rule n ∷ ss) old new
  BehindIn : (l : ℕ) (n : G.Name) (a : Body G n) (ss : List (Symbol G.Name)) (old mid new : List G.Token) (w : Trees G a.body) → chosen (G.rules n) (head G old) ≡ a
      → ReadsIn G limit l a.body old mid w → StopsIn G limit P l ss mid new → StopsIn G limit P l (Rule n ∷ ss) old new

-- another kind stands there than is wanted
abbrev pub IsOther : ℕ → ℕ → ℕ → Type 0
IsOther l k next = next ≡ k → ⊥
