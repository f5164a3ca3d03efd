-- Arguments in one list: those inside one, and those after it.
use Rattle.std.proofs.Common.{◌≡◌, ℕ, zero, suc, ◌+◌, ◌-◌, ◌<◌, ◌≤◌, List, [], ◌∷◌, take, drop, length, get_or, refl, sym, ap, ap₂, ◌∙◌, arith}
use Rattle.std.proofs.lemmas.List.{drop-take, drop_more, length-drop}
use Rattle.std.specs.Bool.{Decides}
use Rattle.std.proofs.lemmas.Bool.Decides.{Decides-ltb, not_from_Decides}
use Rattle.std.specs.Prelude.{◌≢◌, Bool, true, false, min, nat_lt}
use Rattle.fz_language.specs.Trees as trees
use Rattle.fz_syntax.specs.declared.annotation.Argument.{Argument}
use Rattle.fz_syntax.specs.Reaches.{reached}
use Rattle.fz_syntax.specs.Trees.{count_of, with_inside, put, trees_of}

take_nil : {X : Type 0} (n : ℕ) → take {A = X} n [] ≡ []
take_nil zero = refl
take_nil (suc n) = refl

drop_nil : {X : Type 0} (n : ℕ) → drop {A = X} n [] ≡ []
drop_nil zero = refl
drop_nil (suc n) = refl

take_less : {X : Type 0} (n c : ℕ) (xs : List X) → take c (take (n + c) xs) ≡ take c xs
take_less n zero xs = refl
take_less n (suc c) [] = ap (take (suc c)) (take_nil (n + suc c))
take_less n (suc c) (x ∷ xs) = let e : n + suc c ≡ suc (n + c) = omega arith in ap (λ k. take (suc c) (take k (x ∷ xs))) e ∙ ap (λ ys. x ∷ ys) (take_less n c xs)

drop_plus : {X : Type 0} (n c : ℕ) (xs : List X) → drop (n + c) xs ≡ drop n (drop c xs)
drop_plus n zero xs = let e : n + 0 ≡ n = omega arith in ap (λ k. drop k xs) e
drop_plus n (suc c) [] = drop_nil (n + suc c) ∙ sym (drop_nil n)
drop_plus n (suc c) (x ∷ xs) = let e : n + suc c ≡ suc (n + c) = omega arith in ap (λ k. drop k (x ∷ xs)) e ∙ drop_plus n c xs

take_put : (a : Argument) (n : ℕ) (behind : List trees.Argument) → put a (take (n + count_of a) behind) ≡ take (suc n) (put a behind)
take_put a n behind =
    let e : n + count_of a ≡ count_of a + n = omega arith in
    ap₂ (λ inside others. with_inside a inside ∷ others) (take_less n (count_of a) behind) (ap (λ k. drop (count_of a) (take k behind)) e ∙ drop-take (count_of a) n behind)

-- those within reach are that many
pub take_reached : (xs : List Argument) (n : ℕ) → trees_of (take (reached xs n) xs) ≡ take n (trees_of xs)
take_reached [] n = sym (take_nil n)
take_reached (a ∷ xs) zero = refl
take_reached (a ∷ xs) (suc n) = ap (put a) (take_reached xs (n + count_of a)) ∙ take_put a n (trees_of xs)

-- and the others stand after them
pub drop_reached : (xs : List Argument) (n : ℕ) → trees_of (drop (reached xs n) xs) ≡ drop n (trees_of xs)
drop_reached [] n = sym (drop_nil n)
drop_reached (a ∷ xs) zero = refl
drop_reached (a ∷ xs) (suc n) = drop_reached xs (n + count_of a) ∙ drop_plus n (count_of a) (trees_of xs)

-- no more than there are
pub all_reached : (xs : List Argument) (n : ℕ) → length xs ≤ n → reached xs n ≡ length xs
all_reached [] n h = refl
all_reached (a ∷ xs) zero h = absurd (omega (arith, h))
all_reached (a ∷ xs) (suc n) h = ap suc (all_reached xs (n + count_of a) (omega (arith, h)))

pub none_reached : (xs : List Argument) → reached xs 0 ≡ 0
none_reached [] = refl
none_reached (a ∷ xs) = refl

reached_left : (xs : List Argument) (n k m : ℕ) → length xs ≤ m → k ≡ min n m → reached xs k ≡ reached xs n
reached_left xs n k m h e = go (nat_lt n m) (Decides-ltb n m)
  where
    go : (b : Bool) → Decides b (n < m) → reached xs k ≡ reached xs n
    go true d = let f = d.0 refl in let is : k ≡ n = omega (arith, e, f) in ap (reached xs) is
    go false d =
        let f : m ≤ n = omega (arith, not_from_Decides false d refl) in
        all_reached xs k (omega (arith, h, e, f)) ∙ sym (all_reached xs n (omega (arith, h, f)))

-- after one more as many are left as it has, and one less
pub reached_more : (xs : List Argument) (a : Argument) (i left next m : ℕ) → i < length xs → a ≡ get_or xs i a → left ≢ 0 → next ≡ min (left - 1 + count_of a) m → length xs ≤ m
    → i + reached (drop i xs) left ≡ i + 1 + reached (drop (i + 1) xs) next
reached_more xs a i zero next m l is n e h = absurd (n refl)
reached_more xs a i (suc k) next m l is n e h =
    let less : suc k - 1 ≡ k = omega arith in
    ap (λ ys. i + reached ys (suc k)) (drop_more xs i a l ∙ ap (λ y. y ∷ drop (i + 1) xs) (sym is))
    ∙ ap (λ r. i + suc r) (sym (reached_left (drop (i + 1) xs) (k + count_of a) next m (omega (arith, length-drop (i + 1) xs, h)) (e ∙ ap (λ j. min (j + count_of a) m) less)))
    ∙ omega arith

-- an argument, those inside it and those after it
pub parted : (a : Argument) (xs : List Argument) → trees_of (a ∷ xs) ≡ with_inside a (trees_of (take (reached xs (count_of a)) xs)) ∷ trees_of (drop (reached xs (count_of a)) xs)
parted a xs = sym (ap₂ (λ inside others. with_inside a inside ∷ others) (take_reached xs (count_of a)) (drop_reached xs (count_of a)))

-- after one at a place, and that many more
behind_at : (xs rest : List Argument) (a : Argument) (place end : ℕ) → drop place xs ≡ a ∷ rest → drop end rest ≡ drop (place + 1 + end) xs
behind_at xs rest a place end e =
    let is : end + 1 + place ≡ place + 1 + end = omega arith in
    sym (ap (λ ys. drop end (drop 1 ys)) e) ∙ sym (drop_plus end 1 (drop place xs)) ∙ sym (drop_plus (end + 1) place xs) ∙ ap (λ k. drop k xs) is

-- the same of one at a place
pub parted_at : (xs rest : List Argument) (a : Argument) (place : ℕ) → drop place xs ≡ a ∷ rest
    → trees_of (drop place xs) ≡ with_inside a (trees_of (take (reached rest (count_of a)) rest)) ∷ trees_of (drop (place + 1 + reached rest (count_of a)) xs)
parted_at xs rest a place e =
    ap trees_of e ∙ parted a rest ∙ ap (λ ys. with_inside a (trees_of (take (reached rest (count_of a)) rest)) ∷ trees_of ys) (behind_at xs rest a place (reached rest (count_of a)) e)
