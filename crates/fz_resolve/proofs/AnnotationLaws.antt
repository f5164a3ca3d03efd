-- Arguments of annotations, as a list and one after another; the elements of an array of index ranges.
use Rattle.std.proofs.Common.{◌≡◌, ℕ, ℤ, ◌+◌, ◌*◌, ◌<◌, ◌≤◌, zero, suc, List, [], ◌∷◌, take, length, get_or, refl, sym, ap, ap₂, ◌∙◌, arith, add-one}
use Rattle.std.specs.Prelude.{Bool, true, false, min, nat_lt}
use Rattle.std.specs.Bool.{Decides}
use Rattle.std.proofs.lemmas.Bool.Decides.{Decides-ltb, not_from_Decides}
use Rattle.std.proofs.Math.Nat.{mul_comm, mul_assoc, mul-zero, le-mul_of_pos_right}
use Rattle.fz_language.specs.Trees.{Argument}
use Rattle.fz_language.specs.Annotations.{list_of}
use Rattle.fz_syntax.specs.Trees.{joined}
use Rattle.fz_spec.specs.Instance.{index_count, element_count}

pub list_joined : (xs : List Argument) → list_of (joined xs) ≡ xs
list_joined [] = refl
list_joined (x ∷ xs) = ap (λ ys. x ∷ ys) (list_joined xs)

-- one range more multiplies the elements
count_step : (xs : List (ℤ × ℤ)) (i : ℕ) (d : ℤ × ℤ) → i < length xs → element_count (take (suc i) xs) ≡ element_count (take i xs) * index_count (get_or xs i d)
count_step [] i d h = absurd (omega (arith, h))
count_step (x ∷ xs) zero d h = mul_comm (index_count x) 1
count_step (x ∷ xs) (suc i) d h =
    ap (λ n. index_count x * n) (count_step xs i d (omega (arith, h)))
    ∙ sym (mul_assoc (index_count x) (element_count (take i xs)) (index_count (get_or xs i d)))

-- a product that stops at a bound goes on as the product does
stopped : (p s m : ℕ) → min (min p m * s) m ≡ min (p * s) m
stopped p zero m = ap (λ n. min n m) (mul-zero (min p m) ∙ sym (mul-zero p))
stopped p (suc s) m = go (nat_lt p m) (Decides-ltb p m)
  where
    go : (b : Bool) → Decides b (p < m) → min (min p m * suc s) m ≡ min (p * suc s) m
    go true d = let h = d.0 refl in ap (λ n. min (n * suc s) m) (omega (arith, h))
    go false d =
        let h : m ≤ p = omega (arith, not_from_Decides false d refl) in
        let a : m ≤ m * suc s = le-mul_of_pos_right m (omega arith) in
        let b : p ≤ p * suc s = le-mul_of_pos_right p (omega arith) in
        let e : min p m ≡ m = omega (arith, h) in
        ap (λ n. min (n * suc s) m) e ∙ omega (arith, a, b, h)

pub count_more : (xs : List (ℤ × ℤ)) (i : ℕ) (d : ℤ × ℤ) (m count size result : ℕ) → i < length xs → count ≡ min (element_count (take i xs)) m → size ≡ index_count (get_or xs i d) → result ≡ min (count * size) m
    → result ≡ min (element_count (take (i + 1) xs)) m
count_more xs i d m count size result h c s r =
    r ∙ ap₂ (λ x y. min (x * y) m) c s ∙ stopped (element_count (take i xs)) (index_count (get_or xs i d)) m ∙ rw add-one (ap (λ n. min n m) (sym (count_step xs i d h)))
