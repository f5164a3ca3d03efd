-- What stands in a list from a place on.
use Rattle.std.proofs.Common.{◌≡◌, ◌∙◌, ◌-◌, ◌≤◌, ℕ, zero, suc, List, [], ◌∷◌, ◌++◌, drop, length, ap, arith}

pub drop_behind : {X : Type 0} (xs ys : List X) (n : ℕ) → length xs ≤ n → drop n (xs ++ ys) ≡ drop (n - length xs) ys
drop_behind [] ys n h = ap (λ k. drop k ys) (omega arith)
drop_behind (x ∷ xs) ys zero h = absurd (omega (arith, h))
drop_behind (x ∷ xs) ys (suc n) h = drop_behind xs ys n (omega (arith, h)) ∙ ap (λ k. drop k ys) (omega arith)
