-- Runs of an automaton: one of a list that isn't empty is a step and a run behind it, and a symbol goes to one state.
use Rattle.std.proofs.Common.{◌≡◌, List, [], ◌∷◌, sym, ap, ◌∙◌, subst, arith}
use Rattle.std.proofs.lemmas.Int.{ints}
use Rattle.std.specs.Prelude.{ℤ, ◌↔◌, slice_get}
use Rattle.fz_sets.specs.Sets.{IsInSet}
use Rattle.fz_sets.proofs.Lists.{some_is}
use Rattle.fz_spec.specs.Truth.{IsElement, Automaton, IsState, IsStep, RunsFrom, next_place}

pub one_element : (k : ℤ) (xs : List ℤ) (c d : ℤ) → IsElement k xs c → IsElement k xs d → c ≡ d
one_element k xs c d (i, first, at) (j, second, there) =
    let same : i ≡ j = omega (arith, ints, first, second) in
    some_is c d (sym at ∙ ap (slice_get xs) same ∙ there)

pub ended : (m : Automaton) (p : ℤ) → RunsFrom m p [] ↔ (IsState m p × IsInSet m.accepting p)
ended m p = (last, λ h. ([], h))
  where
    last : RunsFrom m p [] → IsState m p × IsInSet m.accepting p
    last ([], r) = r
    last (q ∷ states, r) = absurd r

-- the first step
pub begun : (m : Automaton) (p x : ℤ) (xs : List ℤ) → RunsFrom m p (x ∷ xs) → (q : ℤ) × IsState m p × IsStep m p x q × RunsFrom m q xs
begun m p x xs ([], r) = absurd r
begun m p x xs (q ∷ states, r) = (q, r.0, r.1, (states, r.2))

pub stepped : (m : Automaton) (p x q : ℤ) (xs : List ℤ) → IsState m p → IsStep m p x q → RunsFrom m p (x ∷ xs) ↔ RunsFrom m q xs
stepped m p x q xs state step = (behind, λ h. (q ∷ h.0, (state, step, h.1)))
  where
    behind : RunsFrom m p (x ∷ xs) → RunsFrom m q xs
    behind r = let first = begun m p x xs r in subst (λ (u : ℤ). RunsFrom m u xs) (one_element (next_place m p x) m.next first.0 q first.2.1 step.1) first.3
