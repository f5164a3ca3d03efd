-- Tables of a grammar, and what computation checks of them: then one token of look-ahead decides, and every front can be completed.
use Rattle.std.specs.Prelude.{◌==◌, ◌&&◌, not, ℕ, List, [], ◌∷◌, Bool, true, nat_lt}
use Rattle.fz_grammar.specs.Grammar.{Symbol, Leaf, Rule, Alternative, Choice, Only, When, Grammar, Body}
use Rattle.fz_grammar.specs.Reading.{has}

abbrev pub subset : List ℕ → List ℕ → Bool
subset [] ys = true
subset (x ∷ xs) ys = has ys x && subset xs ys

abbrev pub apart : List ℕ → List ℕ → Bool
apart [] ys = true
apart (x ∷ xs) ys = not (has ys x) && apart xs ys

-- for each rule the kinds that may come where it is awaited, and after it; and tokens to complete a text with
pub record Tables (G : Grammar) : Type 0 where
  pub begins : G.Name → List ℕ
  pub follow : G.Name → List ℕ
  pub height : G.Name → ℕ
  pub example : ℕ → G.Token

abbrev pub starts : (G : Grammar) → Tables G → List (Symbol G.Name) → List ℕ → List ℕ
starts G F [] X = X
starts G F (Leaf k ∷ ss) X = k ∷ []
starts G F (Rule n ∷ ss) X = F.begins n

abbrev pub followed : (G : Grammar) → Tables G → List (Symbol G.Name) → List ℕ → Bool
followed G F [] X = true
followed G F (Leaf k ∷ ss) X = followed G F ss X
followed G F (Rule n ∷ ss) X = subset (starts G F ss X) (F.follow n) && followed G F ss X

abbrev pub have_examples : (G : Grammar) → Tables G → List (Symbol G.Name) → Bool
have_examples G F [] = true
have_examples G F (Leaf k ∷ ss) = (G.kind (F.example k) == k) && have_examples G F ss
have_examples G F (Rule n ∷ ss) = have_examples G F ss

-- each body begins and is followed as the tables say
abbrev pub is_listed : (G : Grammar) (F : Tables G) (n : G.Name) → Body G n → Bool
is_listed G F n a = (subset (starts G F a.body (F.follow n)) (F.begins n) && followed G F a.body (F.follow n)) && have_examples G F a.body

abbrev pub are_listed : (G : Grammar) (F : Tables G) (n : G.Name) → Choice G.Tree G.Token n → Bool
are_listed G F n (Only a) = is_listed G F n a
are_listed G F n (When a rest) = is_listed G F n a && are_listed G F n rest

-- no other body begins with these kinds
abbrev pub others_apart : (G : Grammar) (F : Tables G) (n : G.Name) → List ℕ → Choice G.Tree G.Token n → Bool
others_apart G F n ks (Only a) = apart (starts G F a.body (F.follow n)) ks
others_apart G F n ks (When a rest) = apart (starts G F a.body (F.follow n)) ks && others_apart G F n ks rest

abbrev pub are_apart : (G : Grammar) (F : Tables G) (n : G.Name) → Choice G.Tree G.Token n → Bool
are_apart G F n (Only a) = true
are_apart G F n (When a rest) = (subset (starts G F a.body (F.follow n)) a.begins && others_apart G F n a.begins rest) && are_apart G F n rest

abbrev pub last : {N : Type 0} {Tree : N → Type 0} {T : Type 0} {n : N} → Choice Tree T n → Alternative Tree T n
last (Only a) = a
last (When a rest) = last rest

-- these symbols' rules are of a lower height
abbrev pub are_lower : (G : Grammar) (F : Tables G) → ℕ → List (Symbol G.Name) → Bool
are_lower G F h [] = true
are_lower G F h (Leaf k ∷ ss) = are_lower G F h ss
are_lower G F h (Rule n ∷ ss) = nat_lt (F.height n) h && are_lower G F h ss

abbrev pub is_fine : (G : Grammar) (F : Tables G) (n : G.Name) → Bool
is_fine G F n = (are_listed G F n (G.rules n) && are_apart G F n (G.rules n)) && are_lower G F (F.height n) (last (G.rules n)).body
