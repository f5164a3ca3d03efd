-- Sums of two and of three terms, as lists; and the first value of a cover.
use Rattle.std.proofs.Common.{◌≡◌, ◌<◌, ℕ, List, [], ◌∷◌, ◌∙◌, refl, sym, ap, subst, arith, length, get_or, Bool, true, false, None, Some}
use Rattle.std.specs.Prelude.{ℤ, ◌&&◌, int_le, int_lt, nat_lt, slice_get}
use Rattle.std.specs.List.{list_all}
use Rattle.std.proofs.lemmas.Bool.{lt-ltb}
use Rattle.fz_sets.proofs.Lists.{some_is}
use Rattle.fz_dom.specs.Shape.{greatest, least}
use Rattle.fz_spec.specs.declared.term.Term.{Term}
use Rattle.fz_spec.specs.declared.term.Term.TheVariants.{Var}
use Rattle.fz_spec.specs.Instance.{Variable}
use Rattle.fz_engine.specs.Stronger.{are_from, end_of, is_closed, is_term_from}

pub one_long : {X : Type 0} (xs : List X) (d : X) → length xs ≡ 1 → xs ≡ get_or xs 0 d ∷ []
one_long [] d h = absurd (omega (arith, h))
one_long (x ∷ []) d h = refl
one_long (x ∷ y ∷ xs) d h = absurd (omega (arith, h))

pub two_long : {X : Type 0} (xs : List X) (d : X) → length xs ≡ 2 → xs ≡ get_or xs 0 d ∷ get_or xs 1 d ∷ []
two_long [] d h = absurd (omega (arith, h))
two_long (x ∷ []) d h = absurd (omega (arith, h))
two_long (x ∷ y ∷ []) d h = refl
two_long (x ∷ y ∷ z ∷ xs) d h = absurd (omega (arith, h))

pub three_long : {X : Type 0} (xs : List X) (d : X) → length xs ≡ 3 → xs ≡ get_or xs 0 d ∷ get_or xs 1 d ∷ get_or xs 2 d ∷ []
three_long [] d h = absurd (omega (arith, h))
three_long (x ∷ []) d h = absurd (omega (arith, h))
three_long (x ∷ y ∷ []) d h = absurd (omega (arith, h))
three_long (x ∷ y ∷ z ∷ []) d h = refl
three_long (x ∷ y ∷ z ∷ u ∷ xs) d h = absurd (omega (arith, h))

-- ---- the first of a cover

closed_some : (vs : List Variable) (xs : List Term) (cover : List ℤ) (first : ℤ) → slice_get cover 0 ≡ Some first → (are_from first cover && list_all (is_term_from vs first (end_of first cover)) xs) ≡ is_closed vs xs cover
closed_some vs xs [] first at = absurd (cc (at))
closed_some vs xs (value ∷ cover) first at =
    subst (λ (x : ℤ). (are_from x (value ∷ cover) && list_all (is_term_from vs x (end_of x (value ∷ cover))) xs) ≡ is_closed vs xs (value ∷ cover)) (some_is value first at) refl

pub closed_then : (vs : List Variable) (xs : List Term) (cover : List ℤ) (first : ℤ) (b : Bool) → slice_get cover 0 ≡ Some first → true ≡ are_from first cover → b ≡ list_all (is_term_from vs first (end_of first cover)) xs
    → b ≡ is_closed vs xs cover
closed_then vs xs cover first b at are is = is ∙ ap (λ (t : Bool). t && list_all (is_term_from vs first (end_of first cover)) xs) are ∙ closed_some vs xs cover first at

-- ---- a set, and a term

pub some_numbers : (set : List (ℤ × ℤ)) (b test : Bool) → (length set ≡ 0 → ⊥) → b ≡ test → b ≡ (nat_lt 0 (length set) && test)
some_numbers set b test some is = let more : 0 < length set = omega (arith, some) in is ∙ ap (λ (t : Bool). t && test) (sym (lt-ltb 0 (length set) more))

pub variable_from : (vs : List Variable) (v : ℕ) (u : Variable) (t : Term) (first end : ℤ) (b : Bool) → t ≡ Var v → slice_get vs v ≡ Some u
    → b ≡ (nat_lt 0 (length u.set) && (int_le first (least u.set) && int_lt (greatest u.set) end)) → b ≡ is_term_from vs first end t
variable_from vs v u t first end b is at set = rw (is, at) set

pub none_from : (vs : List Variable) (v : ℕ) (t : Term) (first end : ℤ) → t ≡ Var v → slice_get vs v ≡ None → false ≡ is_term_from vs first end t
none_from vs v t first end is at = rw (is, at) refl
