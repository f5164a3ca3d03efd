-- A tree weighs no more than the tokens that spell it, where no alternative builds one that weighs more than its parts.
use Rattle.std.proofs.Common.{inl, inr, ℕ, ◌+◌, ◌≤◌, List, [], ◌∷◌, length, subst, arith}
use Rattle.fz_grammar.specs.Grammar.{Symbol, Rule, Choice, Only, When, Among, Grammar, Trees, Body, Spells, Ends, Takes, Opens, IsSpelt}
use Rattle.fz_grammar.specs.Weighed.{weight_of, Weighs}

weighs_one : (G : Grammar) (W : (n : G.Name) → G.Tree n → ℕ) (n : G.Name) (c : Choice G.Tree G.Token n) (a : Body G n) → Among c a → Weighs G W n c → (v : Trees G a.body) → W n (a.build v) ≤ weight_of G W a.body v
weighs_one G W n (Only b) a m h = subst (λ (x : Body G n). (v : Trees G x.body) → W n (x.build v) ≤ weight_of G W x.body v) m h
weighs_one G W n (When b rest) a (inl m) h = subst (λ (x : Body G n). (v : Trees G x.body) → W n (x.build v) ≤ weight_of G W x.body v) m h.0
weighs_one G W n (When b rest) a (inr m) h = weighs_one G W n rest a m h.1

pub weighed : (G : Grammar) (W : (n : G.Name) → G.Tree n → ℕ) → ((n : G.Name) → Weighs G W n (G.rules n)) → (ss : List (Symbol G.Name)) (old new : List G.Token) (v : Trees G ss) → Spells G ss old new v → weight_of G W ss v + length new ≤ length old
weighed G W c ss old new v (Ends ts) = omega arith
weighed G W c ss old new v (Takes k rest t ts _ u e s) = omega (arith, weighed G W c rest ts new u s)
weighed G W c ss old new v (Opens n a rest _ mid _ w u m s r) = omega (arith, weighs_one G W n (G.rules n) a m (c n) w, weighed G W c a.body old mid w s, weighed G W c rest mid new u r)

pub weighed_tree : (G : Grammar) (W : (n : G.Name) → G.Tree n → ℕ) → ((n : G.Name) → Weighs G W n (G.rules n)) → (n : G.Name) (ts : List G.Token) (p : G.Tree n) → IsSpelt G n ts p → W n p ≤ length ts
weighed_tree G W c n ts p s = omega (arith, weighed G W c (Rule n ∷ []) ts [] (p, tt) s)
