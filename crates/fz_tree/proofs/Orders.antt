-- Better is a strict order on satisfying assignments, by their scores.
use Rattle.std.proofs.Common.{◌≡◌, List, [], ◌∷◌, length, refl, arith}
use Rattle.std.specs.Prelude.{ℤ, Option, Some, None, ◌<ℤ◌}
use Rattle.std.proofs.lemmas.Int.{ints, by_lt_z}
use Rattle.fz_spec.specs.Instance.{Instance, Variable, AreDeclared, Satisfies, IsBetter, score}
use Rattle.fz_tree.specs.Better.{Betters}

pub better_transitive : (m : Instance) (a b c : List ℤ) → IsBetter m a b → IsBetter m b c → IsBetter m a c
better_transitive m a b c first second = record {
  goal = first.goal;
  whole = first.whole;
  other_whole = second.other_whole;
  less = omega (arith, ints, first.less, second.less);
}

pub declared_length : (vs : List Variable) (a : List ℤ) → AreDeclared vs a → length a ≡ length vs
declared_length [] [] h = refl
declared_length [] (x ∷ xs) h = absurd h
declared_length (v ∷ vs) [] h = absurd h
declared_length (v ∷ vs) (x ∷ xs) h = omega (arith, declared_length vs xs h.1)

less_than : (x y z : ℤ) → x <ℤ z → (y <ℤ z → ⊥) → x <ℤ y
less_than x y z less not_less = by_lt_z {P = x <ℤ y} y z (λ h. absurd (not_less h)) (λ h. omega (arith, ints, less, h))

-- what betters one betters also what doesn't better that one
pub better_than_others : (m : Instance) (a b c : List ℤ) → Satisfies m a → Satisfies m b → Satisfies m c → (IsBetter m b c → ⊥) → IsBetter m a c → IsBetter m a b
better_than_others m a b c of_a of_b of_c not_better better = record {
  goal = better.goal;
  whole = better.whole;
  other_whole = declared_length m.variables b of_b.declared;
  less = less_than (score m a) (score m b) (score m c) better.less (λ less. not_better (record {
    goal = better.goal;
    whole = declared_length m.variables b of_b.declared;
    other_whole = better.other_whole;
    less = less;
  }));
}

-- what betters a better one betters what was known
pub betters_before : (m : Instance) (a w : List ℤ) (known : Option (List ℤ)) → Betters m w known → IsBetter m a w → Betters m a known
betters_before m a w None better new = tt
betters_before m a w (Some k) better new = better_transitive m a w k new better
