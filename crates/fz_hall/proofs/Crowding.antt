-- Different numbers: an interval has room for as many as it has numbers.
use Rattle.std.proofs.Common.{◌≡◌, ◌≢◌, ℕ, zero, suc, ◌+◌, ◌≤◌, List, [], ◌∷◌, refl, sym, ap, subst, arith}
use Rattle.std.specs.Prelude.{ℤ, pos, ◌+ℤ◌, ◌-ℤ◌, ◌≤ℤ◌, ◌<ℤ◌, int_le, int_lt, ◌&&◌, Bool, true, false, cond, count_by}
use Rattle.std.specs.Ordering.{int_eq}
use Rattle.std.specs.List.{AllByRecursion}
use Rattle.std.proofs.lemmas.Bool.Decides.{Decides-int_eq}
use Rattle.std.proofs.lemmas.Int.{ints}
use Rattle.std.proofs.lemmas.List.Sums.{sum_by-cons}
use Rattle.fz_spec.specs.Truth.{AreDifferent}
use Rattle.fz_strength.specs.Differences.{is_between}

abbrev pub bit : Bool → ℕ
bit b = cond b 1 0

pub count_more : {X : Type 0} (p : X → Bool) (x : X) (xs : List X) → count_by p (x ∷ xs) ≡ bit (p x) + count_by p xs
count_more p x xs = sum_by-cons (λ y. bit (p y)) x xs

-- ---- between two numbers

pub both_le : (a b x y : ℤ) → (int_le a b && int_le x y) ≡ true → (a ≤ℤ b) × (x ≤ℤ y)
both_le a b x y h = grind (arith, ints)

pub both_from : (a b x y : ℤ) → a ≤ℤ b → x ≤ℤ y → (int_le a b && int_le x y) ≡ true
both_from a b x y h k = grind (arith, ints)

pub lt_of : (x y : ℤ) → int_lt x y ≡ true → x <ℤ y
lt_of x y h = grind (arith, ints)

pub between_is : (low high x : ℤ) → is_between low high x ≡ true → (low ≤ℤ x) × (x ≤ℤ high)
between_is low high x h = both_le low x x high h

pub not_true : (b : Bool) → (b ≡ true → ⊥) → b ≡ false
not_true true h = absurd (h refl)
not_true false h = refl

pub bit_le : (b c : Bool) → (b ≡ true → c ≡ true) → bit b ≤ bit c
bit_le true c h = rw (h refl) (omega arith)
bit_le false c h = omega arith

-- ---- at most that many

unlike : (n v : ℤ) → n ≢ v → int_eq n v ≡ false
unlike n v apart = not_true (int_eq n v) (λ e. apart ((Decides-int_eq n v).0 e))

none_of : (n : ℤ) (vs : List ℤ) → AllByRecursion (λ (y : ℤ). n ≢ y) vs → count_by (int_eq n) vs ≡ 0
none_of n [] apart = refl
none_of n (v ∷ vs) apart =
    let more = count_more (int_eq n) v vs in
    let here : bit (int_eq n v) ≡ 0 = ap bit (unlike n v apart.0) in
    let rest = none_of n vs apart.1 in
    omega (arith, more, here, rest)

once_more : (n v : ℤ) (vs : List ℤ) (b : Bool) → int_eq n v ≡ b → count_by (int_eq n) vs ≤ 1 → AllByRecursion (λ (y : ℤ). v ≢ y) vs → count_by (int_eq n) (v ∷ vs) ≤ 1
once_more n v vs true e rest apart =
    let more = count_more (int_eq n) v vs in
    let here : bit (int_eq n v) ≡ 1 = ap bit e in
    let none = none_of n vs (subst (λ (m : ℤ). AllByRecursion (λ (y : ℤ). m ≢ y) vs) (sym ((Decides-int_eq n v).0 e)) apart) in
    omega (arith, more, here, none)
once_more n v vs false e rest apart =
    let more = count_more (int_eq n) v vs in
    let here : bit (int_eq n v) ≡ 0 = ap bit e in
    omega (arith, more, here, rest)

once : (n : ℤ) (vs : List ℤ) → AreDifferent vs → count_by (int_eq n) vs ≤ 1
once n [] different = let none : count_by (int_eq n) [] ≡ 0 = refl in omega (arith, none)
once n (v ∷ vs) different = once_more n v vs (int_eq n v) refl (once n vs different.1) different.0

below_last : (x high : ℤ) → x ≤ℤ high → high ≢ x → x ≤ℤ (high -ℤ pos 1)
below_last x high h other = grind (arith, ints)

-- the last number, and those before it
last_of : (low high x : ℤ) (b : Bool) → int_eq high x ≡ b → bit (is_between low high x) ≤ bit (is_between low (high -ℤ pos 1) x) + bit b
last_of low high x true e = let small = bit_le (is_between low high x) true (λ h. refl) in omega (arith, small)
last_of low high x false e =
    let small = bit_le (is_between low high x) (is_between low (high -ℤ pos 1) x) (λ h.
    let is = between_is low high x h in
    let other : high ≢ x = λ same. let yes = (Decides-int_eq high x).1 same in absurd (cc (yes, e)) in
    both_from low x x (high -ℤ pos 1) is.0 (below_last x high is.1 other)) in
    omega (arith, small)

split : (low high : ℤ) (vs : List ℤ) → count_by (is_between low high) vs ≤ count_by (is_between low (high -ℤ pos 1)) vs + count_by (int_eq high) vs
split low high [] = let none : count_by (is_between low high) [] ≡ 0 = refl in omega (arith, none)
split low high (v ∷ vs) =
    let a = count_more (is_between low high) v vs in
    let b = count_more (is_between low (high -ℤ pos 1)) v vs in
    let d = count_more (int_eq high) v vs in
    let here = last_of low high v (int_eq high v) refl in
    let rest = split low high vs in
    omega (arith, a, b, d, here, rest)

none_between : (low high : ℤ) (vs : List ℤ) → high <ℤ low → count_by (is_between low high) vs ≡ 0
none_between low high [] empty = refl
none_between low high (v ∷ vs) empty =
    let more = count_more (is_between low high) v vs in
    let here : bit (is_between low high v) ≡ 0 = ap bit (not_true (is_between low high v) (λ h. let is = between_is low high v h in let a = is.0 in let b = is.1 in omega (arith, ints, a, b, empty))) in
    let rest = none_between low high vs empty in
    omega (arith, more, here, rest)

pub few_between : (n : ℕ) (low high : ℤ) (vs : List ℤ) → (high +ℤ pos 1) ≤ℤ (low +ℤ pos n) → AreDifferent vs → count_by (is_between low high) vs ≤ n
few_between zero low high vs size different = let none = none_between low high vs (omega (arith, ints, size)) in omega (arith, none)
few_between (suc n) low high vs size different =
    let rest = few_between n low (high -ℤ pos 1) vs (omega (arith, ints, size)) different in
    let last = once high vs different in
    let parts = split low high vs in
    omega (arith, rest, last, parts)
