-- What holds of each token of a spelling holds of its trees, where each alternative carries it.
use Rattle.std.proofs.Common.{inl, inr, List, [], ◌∷◌, subst}
use Rattle.fz_grammar.specs.Grammar.{Symbol, Rule, Choice, Only, When, Among, Grammar, Trees, Body, Spells, Ends, Takes, Opens, IsSpelt}
use Rattle.fz_grammar.specs.Carried.{AllHold, Each, Carries}

carries_one : (G : Grammar) (P : G.Token → Type 0) (Q : (n : G.Name) → G.Tree n → Type 0) (n : G.Name) (c : Choice G.Tree G.Token n) (a : Body G n) → Among c a → Carries G P Q n c → (v : Trees G a.body) → AllHold G P Q a.body v → Q n (a.build v)
carries_one G P Q n (Only b) a m h = subst (λ (x : Body G n). (v : Trees G x.body) → AllHold G P Q x.body v → Q n (x.build v)) m h
carries_one G P Q n (When b rest) a (inl m) h = subst (λ (x : Body G n). (v : Trees G x.body) → AllHold G P Q x.body v → Q n (x.build v)) m h.0
carries_one G P Q n (When b rest) a (inr m) h = carries_one G P Q n rest a m h.1

-- the trees, and the tokens that are left
pub record Carried (G : Grammar) (P : G.Token → Type 0) (Q : (n : G.Name) → G.Tree n → Type 0) (ss : List (Symbol G.Name)) (new : List G.Token) (v : Trees G ss) : Type 0 where
  pub hold : AllHold G P Q ss v
  pub left : Each P new

pub carried : (G : Grammar) (P : G.Token → Type 0) (Q : (n : G.Name) → G.Tree n → Type 0) → ((n : G.Name) → Carries G P Q n (G.rules n)) → (ss : List (Symbol G.Name)) (old new : List G.Token) (v : Trees G ss) → Spells G ss old new v → Each P old → Carried G P Q ss new v
carried G P Q c ss old new v (Ends ts) h = record { hold = tt; left = h }
carried G P Q c ss old new v (Takes k rest t ts _ u e s) h =
    let i = carried G P Q c rest ts new u s h.1 in
    record { hold = (h.0, i.hold); left = i.left }
carried G P Q c ss old new v (Opens n a rest _ mid _ w u m s r) h =
    let i = carried G P Q c a.body old mid w s h in
    let j = carried G P Q c rest mid new u r i.left in
    record { hold = (carries_one G P Q n (G.rules n) a m (c n) w i.hold, j.hold); left = j.left }

pub carried_tree : (G : Grammar) (P : G.Token → Type 0) (Q : (n : G.Name) → G.Tree n → Type 0) → ((n : G.Name) → Carries G P Q n (G.rules n)) → (n : G.Name) (ts : List G.Token) (p : G.Tree n) → IsSpelt G n ts p → Each P ts → Q n p
carried_tree G P Q c n ts p s h = (carried G P Q c (Rule n ∷ []) ts [] (p, tt) s h).hold.0
