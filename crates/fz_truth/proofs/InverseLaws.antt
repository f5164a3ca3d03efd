-- Places that stand back at the values of terms.
use Rattle.std.proofs.Common.{◌≡◌, ℕ, ◌+◌, ◌<◌, ◌≤◌, ◌⊎◌, inl, inr, List, map, length, get_or, arith, sym, ◌∙◌, subst, pos}
use Rattle.std.proofs.lemmas.Bool.{cases_lt}
use Rattle.std.proofs.lemmas.List.{length-map}
use Rattle.std.proofs.lemmas.Option.{slice_get_within}
use Rattle.std.specs.Prelude.{ℤ, Some, slice_get}
use Rattle.fz_sets.proofs.Lists.{some_is}
use Rattle.fz_spec.specs.Truth.{IsElement, PointBack}
use Rattle.fz_truth.proofs.ListLaws.{value_at}

-- those before a place
abbrev pub PointBackBefore : ℕ → List ℤ → List ℤ → Type 0
PointBackBefore n fs gs = (i : ℕ) (f : ℤ) → i < n → slice_get fs i ≡ Some f → IsElement f gs (pos (i + 1))

pub none_before : (fs gs : List ℤ) → PointBackBefore 0 fs gs
none_before fs gs i f less at = absurd (omega (arith, less))

pub one_more : {X : Type 0} (value : X → ℤ) (xs : List X) (gs : List ℤ) (n : ℕ) (v : ℤ) (x : X) → n < length xs → v ≡ value (get_or xs n x) → IsElement v gs (pos (n + 1)) → PointBackBefore n (map value xs) gs
    → PointBackBefore (n + 1) (map value xs) gs
one_more value xs gs n v x within is back before i f less at = by_case (cases_lt i n)
  where
    by_case : (i < n) ⊎ (n ≤ i) → IsElement f gs (pos (i + 1))
    by_case (inl earlier) = before i f earlier at
    by_case (inr later) =
        let same : n ≡ i = omega (arith, less, later) in
        let there : slice_get (map value xs) n ≡ Some v = subst (λ (u : ℤ). slice_get (map value xs) n ≡ Some u) (sym is) (value_at value xs n x within) in
        let value_is = some_is v f (sym (subst (λ (k : ℕ). slice_get (map value xs) k ≡ Some v) same there) ∙ at) in
        subst (λ (u : ℤ). IsElement u gs (pos (i + 1))) value_is (subst (λ (k : ℕ). IsElement v gs (pos (k + 1))) same back)

pub all_before : {X : Type 0} (value : X → ℤ) (xs : List X) (gs : List ℤ) (n : ℕ) → length xs ≤ n → PointBackBefore n (map value xs) gs → PointBack (map value xs) gs
all_before value xs gs n past before i f at =
    let within = slice_get_within (map value xs) i f at in
    let size = length-map xs value in
    before i f (omega (arith, within, size, past)) at

pub not_back : {X : Type 0} (value : X → ℤ) (xs : List X) (gs : List ℤ) (n : ℕ) (v : ℤ) (x : X) → n < length xs → v ≡ value (get_or xs n x) → PointBack (map value xs) gs → IsElement v gs (pos (n + 1))
not_back value xs gs n v x within is all = all n v (subst (λ (u : ℤ). slice_get (map value xs) n ≡ Some u) (sym is) (value_at value xs n x within))
