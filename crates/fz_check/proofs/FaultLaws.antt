-- The first of two lists of faults.
use Rattle.std.proofs.Common.{◌≡◌, ℕ, List, [], ◌∷◌, ◌++◌, refl, ap}
use Rattle.std.specs.Prelude.{Some, None, slice_get}
use Rattle.fz_language.specs.declared.fault.RuleFault.{RuleFault}
use Rattle.fz_language.specs.Rules.{at_places}

-- at the front of both, or after an empty prefix
pub first_front : {X : Type 0} (xs ys : List X) (x : X) → slice_get xs 0 ≡ Some x → slice_get (xs ++ ys) 0 ≡ Some x
first_front [] ys x e = cc
first_front (y ∷ xs) ys x e = e

pub no_first : {X : Type 0} (xs : List X) → slice_get xs 0 ≡ None → xs ≡ []
no_first [] e = refl
no_first (x ∷ xs) e = cc

pub behind_none : {X : Type 0} (xs ys : List X) → slice_get xs 0 ≡ None → slice_get (xs ++ ys) 0 ≡ slice_get ys 0
behind_none [] ys e = refl
behind_none (x ∷ xs) ys e = cc

pub first_at : (rule : RuleFault) (places : List ℕ) (at : ℕ) → slice_get places 0 ≡ Some at → slice_get (at_places rule places) 0 ≡ Some (record { rule = rule; at = at })
first_at rule [] at e = cc
first_at rule (p ∷ places) at e = let is : p ≡ at = cc in ap (λ q. Some (record { rule = rule; at = q })) is
