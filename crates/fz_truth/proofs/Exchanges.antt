-- What may be exchanged for what is true where it is: in a reified constraint, of an element of an array, and of two terms.
use Rattle.std.proofs.Common.{◌≡◌, ◌≤◌, ◌<◌, List, [], ◌∷◌, Bool, length, get_or, refl, arith}
use Rattle.std.specs.Prelude.{ℤ, ◌↔◌, IsTrue}
use Rattle.fz_sets.specs.Sets.{IsInSet}
use Rattle.fz_spec.specs.declared.term.Term.{Term}
use Rattle.fz_spec.specs.Constraints.{Argument, One, OrReified, IsTrueOf, term_value, term_values}
use Rattle.fz_spec.specs.Signatures.{shape_of}
use Rattle.fz_model.specs.Groups.{within}

alike : (rest : List Argument) (a : List ℤ) (P Q : Type 0) → P ↔ Q → OrReified rest a P → OrReified rest a Q
alike [] a P Q same h = same.0 h
alike (One r ∷ []) a P Q same h = ((λ one. same.0 (h.0 one)), (λ q. h.1 (same.1 q)))
alike rest a P Q same h = h

pub reified_like : (rest : List Argument) (a : List ℤ) (result holds : Bool) (Q : Type 0) → IsTrue result ↔ OrReified rest a (IsTrue holds) → IsTrue holds ↔ Q → IsTrue result ↔ OrReified rest a Q
reified_like rest a result holds Q is same = ((λ t. alike rest a (IsTrue holds) Q same (is.0 t)), (λ h. is.1 (alike rest a Q (IsTrue holds) (same.1, same.0) h)))

-- an element of an array lies in the set of its type
pub lies_within : (set : List (ℤ × ℤ)) (term : Term) (a : List ℤ) → IsInSet set (term_value a term) ↔ IsTrueOf a (within set term)
unfolding shape_of
lies_within set term a = ((λ h. h), (λ h. h))

-- two terms are those at their places
pub two_values : (a : List ℤ) (ts : List Term) (d e : Term) → 2 ≤ length ts → length ts < 3 → term_values a ts ≡ term_value a (get_or ts 0 d) ∷ term_value a (get_or ts 1 e) ∷ []
two_values a [] d e more less = absurd (omega (arith, more))
two_values a (t ∷ []) d e more less = absurd (omega (arith, more))
two_values a (t ∷ u ∷ []) d e more less = refl
two_values a (t ∷ u ∷ v ∷ ts) d e more less = absurd (omega (arith, less))
