-- Counting pairs by rows and by columns.
use Rattle.std.proofs.Common.{◌≡◌, ◌⊎◌, inl, inr, ℕ, suc, zero, ◌+◌, ◌≤◌, List, [], ◌∷◌, refl, sym, ◌∙◌, ap, arith, Bool, true, false, ◌&&◌, Contains}
use Rattle.std.specs.List.{AllByRecursion, count_by}
use Rattle.fz_spec.specs.Truth.{SomeByRecursion}
use Rattle.fz_tree.proofs.Counts.{one_if, count_cons}

-- how many pairs pass a test
abbrev by_rows : {X Y : Type 0} → (X → Y → Bool) → List X → List Y → ℕ
by_rows test [] ys = 0
by_rows test (x ∷ xs) ys = count_by (test x) ys + by_rows test xs ys

abbrev by_columns : {X Y : Type 0} → (X → Y → Bool) → List X → List Y → ℕ
by_columns test xs [] = 0
by_columns test xs (y ∷ ys) = count_by (λ x. test x y) xs + by_columns test xs ys

no_row : {X Y : Type 0} (test : X → Y → Bool) (ys : List Y) → by_columns test [] ys ≡ 0
no_row test [] = refl
no_row test (y ∷ ys) = omega (arith, no_row test ys)

row_more : {X Y : Type 0} (test : X → Y → Bool) (x : X) (xs : List X) (ys : List Y) → by_columns test (x ∷ xs) ys ≡ count_by (test x) ys + by_columns test xs ys
row_more test x xs [] = refl
row_more {X} test x xs (y ∷ ys) = omega (arith, count_cons (λ (z : X). test z y) x xs, count_cons (test x) y ys, row_more test x xs ys)

crossed : {X Y : Type 0} (test : X → Y → Bool) (xs : List X) (ys : List Y) → by_rows test xs ys ≡ by_columns test xs ys
crossed test [] ys = sym (no_row test ys)
crossed test (x ∷ xs) ys = omega (arith, row_more test x xs ys, crossed test xs ys)

rows_counted : {X Y : Type 0} (test : X → Y → Bool) (f : X → Bool) (xs : List X) (ys : List Y) → AllByRecursion (λ (x : X). count_by (test x) ys ≡ one_if (f x)) xs → by_rows test xs ys ≡ count_by f xs
rows_counted test f [] ys each = refl
rows_counted test f (x ∷ xs) ys each = omega (arith, each.0, rows_counted test f xs ys each.1, count_cons f x xs)

columns_counted : {X Y : Type 0} (test : X → Y → Bool) (g : Y → Bool) (xs : List X) (ys : List Y) → AllByRecursion (λ (y : Y). count_by (λ x. test x y) xs ≡ one_if (g y)) ys → by_columns test xs ys ≡ count_by g ys
columns_counted test g xs [] each = refl
columns_counted test g xs (y ∷ ys) each = omega (arith, each.0, columns_counted test g xs ys each.1, count_cons g y ys)

-- If each row has a pair exactly where it passes f, and each column where it passes g, as many rows pass as columns.
pub paired : {X Y : Type 0} (test : X → Y → Bool) (f : X → Bool) (g : Y → Bool) (xs : List X) (ys : List Y) → AllByRecursion (λ (x : X). count_by (test x) ys ≡ one_if (f x)) xs
    → AllByRecursion (λ (y : Y). count_by (λ x. test x y) xs ≡ one_if (g y)) ys → count_by f xs ≡ count_by g ys
paired test f g xs ys rows columns = sym (rows_counted test f xs ys rows) ∙ (crossed test xs ys ∙ columns_counted test g xs ys columns)

-- ---- one of a list

none_passes : {X : Type 0} (xs : List X) → count_by (λ (x : X). false) xs ≡ 0
none_passes [] = refl
none_passes {X} (x ∷ xs) = omega (arith, count_cons (λ (y : X). false) x xs, none_passes xs)

-- a test that holds for all or for none, and another
pub by_either : {X : Type 0} (b : Bool) (test : X → Bool) (xs : List X) → count_by test xs ≡ 1 → count_by (λ x. b && test x) xs ≡ one_if b
by_either true test xs one = one
by_either false test xs one = none_passes xs

some_counted : {X : Type 0} (test : X → Bool) (q : X) (xs : List X) → SomeByRecursion (λ (x : X). x ≡ q) xs → test q ≡ true → 1 ≤ count_by test xs
some_counted test q [] some passes = absurd some
some_counted test q (x ∷ xs) (inl is) passes = omega (arith, count_cons test x xs, ap (λ z. one_if (test z)) is, ap one_if passes)
some_counted test q (x ∷ xs) (inr later) passes = omega (arith, count_cons test x xs, some_counted test q xs later passes)

and_less : (b c : Bool) → one_if (b && c) ≤ one_if c
and_less true c = omega arith
and_less false c = omega arith

both_less : {X : Type 0} (f test : X → Bool) (xs : List X) → count_by (λ x. f x && test x) xs ≤ count_by test xs
both_less f test [] = omega arith
both_less {X} f test (x ∷ xs) = omega (arith, count_cons (λ (y : X). f y && test y) x xs, count_cons test x xs, and_less (f x) (test x), both_less f test xs)

and_true : (b c : Bool) → c ≡ true → one_if (b && c) ≡ one_if b
and_true true c is = ap one_if is
and_true false c is = refl

and_false : (b c : Bool) → c ≡ false → one_if (b && c) ≡ 0
and_false b c is = omega (arith, and_less b c, ap one_if is)

-- Where just one passes a test, and which one is known, it alone can pass another one, too.
pub alone : {X : Type 0} (f test : X → Bool) (q : X) (xs : List X) → SomeByRecursion (λ (x : X). x ≡ q) xs → test q ≡ true → count_by test xs ≡ 1 → count_by (λ x. f x && test x) xs ≡ one_if (f q)
alone f test q [] some passes one = absurd some
alone {X} f test q (x ∷ xs) (inl is) passes one =
    let here : test x ≡ true = ap test is ∙ passes in
    omega (arith, one, count_cons test x xs, ap one_if here, count_cons (λ (y : X). f y && test y) x xs, both_less f test xs, and_true (f x) (test x) here, ap (λ z. one_if (f z)) is)
alone {X} f test q (x ∷ xs) (inr later) passes one =
    elim (test x) as (λ b. test x ≡ b → count_by (λ y. f y && test y) (x ∷ xs) ≡ one_if (f q)) [
      | true ↦ λ here. absurd (omega (arith, one, count_cons test x xs, ap one_if here, some_counted test q xs later passes))
      | false ↦ λ other. omega (arith, count_cons (λ (y : X). f y && test y) x xs, and_false (f x) (test x) other, alone f test q xs later passes (omega (arith, one, count_cons test x xs, ap one_if other)))
    ] refl

-- ---- lists, and what holds of some

pub some_of : {X : Type 0} (xs : List X) (q : X) → Contains xs q → SomeByRecursion (λ (x : X). x ≡ q) xs
some_of [] q at = absurd (omega (arith, at.1))
some_of (x ∷ xs) q (zero, below, at) = inl at
some_of (x ∷ xs) q (suc k, below, at) = inr (some_of xs q (k, omega (arith, below), at))

-- one passes, where some are counted
pub counted_some : {X : Type 0} (test : X → Bool) (xs : List X) → 1 ≤ count_by test xs → SomeByRecursion (λ (x : X). test x ≡ true) xs
counted_some test [] some = absurd (omega (arith, some))
counted_some {X} test (x ∷ xs) some = elim (test x) as (λ b. test x ≡ b → (test x ≡ true) ⊎ SomeByRecursion (λ (y : X). test y ≡ true) xs) [
  | true ↦ λ here. inl here
  | false ↦ λ other. inr (counted_some test xs (omega (arith, some, count_cons test x xs, ap one_if other)))
] refl

pub some_with : {X : Type 0} (P Q : X → Type 0) (R : Type 0) (xs : List X) → ((x : X) → P x → Q x → R) → SomeByRecursion P xs → AllByRecursion Q xs → R
some_with P Q R [] both some all = absurd some
some_with P Q R (x ∷ xs) both (inl here) all = both x here all.0
some_with P Q R (x ∷ xs) both (inr later) all = some_with P Q R xs both later all.1
