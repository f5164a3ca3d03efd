-- Runs over the values of terms from a place on.
use Rattle.std.proofs.Common.{◌≡◌, ℕ, ◌+◌, ◌<◌, ◌≤◌, zero, suc, List, [], ◌∷◌, drop, length, get_or, arith, refl, sym, ap, ◌∙◌, subst, add-one, pos, Option, Some, None}
use Rattle.std.specs.Prelude.{ℤ, ◌↔◌, slice_get, MatchOption}
use Rattle.fz_sets.specs.Sets.{IsInSet}
use Rattle.fz_spec.specs.declared.term.Term.{Term}
use Rattle.fz_spec.specs.Constraints.{term_value, term_values}
use Rattle.fz_spec.specs.Truth.{Automaton, IsState, IsSymbol, IsStep, RunsFrom, next_place}
use Rattle.fz_spec.proofs.Automata.{ended, begun, stepped}
use Rattle.fz_truth.proofs.ListLaws.{from_here, same_place}

-- those from a place on
abbrev pub RunsBehind : Automaton → ℤ → List ℤ → List Term → ℕ → Type 0
RunsBehind m p a ts i = RunsFrom m p (term_values a (drop i ts))

pub no_step : (m : Automaton) (p x : ℤ) (a : List ℤ) (ts : List Term) (i : ℕ) (t : Term) → i < length ts → x ≡ term_value a (get_or ts i t) → ((q : ℤ) → IsState m p → IsStep m p x q → ⊥) → RunsBehind m p a ts i → ⊥
no_step m p x a ts i t less is none r =
    let first = begun m p (term_value a (get_or ts i t)) (term_values a (drop (suc i) ts)) (subst (RunsFrom m p) (from_here (term_value a) ts i t less) r) in
    none first.0 first.1 (subst (λ (y : ℤ). IsStep m p y first.0) (sym is) first.2)

pub one_step : (m : Automaton) (p x q : ℤ) (a : List ℤ) (ts : List Term) (i : ℕ) (t : Term) → i < length ts → x ≡ term_value a (get_or ts i t) → IsState m p → IsStep m p x q
    → RunsBehind m p a ts i ↔ RunsBehind m q a ts (i + 1)
one_step m p x q a ts i t less is state step =
    let same = stepped m p (term_value a (get_or ts i t)) q (term_values a (drop (suc i) ts)) state (subst (λ (y : ℤ). IsStep m p y q) is step) in
    let here = from_here (term_value a) ts i t less in (
      λ r. subst (RunsBehind m q a ts) (sym (add-one i)) (same.0 (subst (RunsFrom m p) here r)),
      λ r. subst (RunsFrom m p) (sym here) (same.1 (subst (RunsBehind m q a ts) (add-one i) r)),
    )

dropped : {X : Type 0} (xs : List X) (i : ℕ) → length xs ≤ i → drop i xs ≡ []
dropped [] zero h = refl
dropped [] (suc i) h = refl
dropped (x ∷ xs) zero h = absurd (omega (arith, h))
dropped (x ∷ xs) (suc i) h = dropped xs i (omega (arith, h))

pub at_end : (m : Automaton) (p : ℤ) (a : List ℤ) (ts : List Term) (i : ℕ) → length ts ≤ i → RunsBehind m p a ts i ↔ (IsState m p × IsInSet m.accepting p)
at_end m p a ts i past =
    let none = ap (term_values a) (dropped ts i past) in
    (λ r. (ended m p).0 (subst (RunsFrom m p) none r), λ h. subst (RunsFrom m p) (sym none) ((ended m p).1 h))

-- what is read at the place of a step
pub read_step : (m : Automaton) (p x : ℤ) (place : ℕ) (o : Option ℤ) → IsState m p → IsSymbol m x → next_place m p x ≡ pos (place + 1) → slice_get m.next place ≡ o
    → MatchOption o ((q : ℤ) → IsState m p → IsStep m p x q → ⊥) (λ q. IsState m p × IsStep m p x q)
read_step m p x place None state symbol at e = λ q is step. let there = sym e ∙ ap (slice_get m.next) (same_place place step.1.0 (sym at ∙ step.1.1)) ∙ step.1.2 in cc
read_step m p x place (Some q) state symbol at e = (state, (symbol, (place, at, e)))
