-- A text that was written piece by piece.
use Rattle.std.proofs.Common.{◌≡◌, ℕ, zero, suc, ◌-◌, ◌≤◌, List, [], ◌∷◌, ◌++◌, refl, sym, ap, ◌∙◌, append_assoc, map, codes, arith}
use Rattle.std.specs.Prelude.{flat_map}
use Rattle.std.specs.List.{range_with_len}
use Rattle.fz_gen.specs.Knapsack.{separated}

pub join : (u v w b c : List ℕ) → v ≡ u ++ b → w ≡ v ++ c → w ≡ u ++ (b ++ c)
join u v w b c e f = f ∙ ap (λ (x : List ℕ). x ++ c) e ∙ append_assoc u b c

with_commas : (f : ℕ → List ℕ) (xs : List ℕ) → flat_map (λ next. codes "," ++ next) (map f xs) ≡ flat_map (λ i. codes "," ++ f i) xs
with_commas f [] = refl
with_commas f (x ∷ xs) = ap (λ (rest : List ℕ). (codes "," ++ f x) ++ rest) (with_commas f xs)

pub first_and_further : (f : ℕ → List ℕ) (n : ℕ) → 1 ≤ n → f 1 ++ flat_map (λ i. codes "," ++ f i) (range_with_len 2 (n - 1)) ≡ separated (map f (range_with_len 1 n))
first_and_further f zero some = absurd (omega (arith, some))
first_and_further f (suc n) some =
    let e : suc n - 1 ≡ n = omega arith in
    ap (λ (m : ℕ). f 1 ++ flat_map (λ i. codes "," ++ f i) (range_with_len 2 m)) e ∙ ap (λ (rest : List ℕ). f 1 ++ rest) (sym (with_commas f (range_with_len 2 n)))
