-- What is said of the elements of a list one by one, and of the values that they are mapped to.
use Rattle.std.proofs.Common.{◌≡◌, ℕ, ◌+◌, ◌<◌, ◌≤◌, zero, suc, ℤ, List, [], ◌∷◌, map, take, drop, length, get_or, arith, refl, sym, ap, ◌∙◌, subst, inl, inr, ◌-◌, add-one, length-drop}
use Rattle.std.proofs.lemmas.List.{take_all, length-map}
use Rattle.std.specs.Prelude.{◌↔◌, Bool, IsTrue, pos, Some, slice_get, option_map}
use Rattle.std.proofs.lemmas.Option.{slice_get-map}
use Rattle.std.specs.List.{All, Any, AllByRecursion}
use Rattle.fz_spec.specs.Truth.{SomeByRecursion, AreDifferent, IsElement}
use Rattle.fz_sets.proofs.Lists.{some_is}

some_from_any : {X Y : Type 0} (P : Y → Type 0) (f : X → Y) (xs : List X) (k : ℕ) (x : X) → k < length xs → get_or xs k x ≡ x → P (f x) → SomeByRecursion P (map f xs)
some_from_any P f [] k x h e p = absurd (omega (arith, h))
some_from_any P f (y ∷ xs) zero x h e p = inl (subst (λ z. P (f z)) (sym e) p)
some_from_any P f (y ∷ xs) (suc k) x h e p = inr (some_from_any P f xs k x (omega (arith, h)) e p)

any_later : {X : Type 0} (P : X → Type 0) (y : X) (xs : List X) → Any P xs → Any P (y ∷ xs)
any_later P y xs (k, x, h, e, p) = (suc k, x, omega (arith, h), e, p)

any_from_some : {X Y : Type 0} (P : Y → Type 0) (f : X → Y) (xs : List X) → SomeByRecursion P (map f xs) → Any (λ x. P (f x)) xs
any_from_some P f [] s = absurd s
any_from_some P f (x ∷ xs) (inl p) = (zero, x, omega arith, refl, p)
any_from_some P f (x ∷ xs) (inr s) = any_later (λ x. P (f x)) x xs (any_from_some P f xs s)

pub some_mapped : {X Y : Type 0} (P : Y → Type 0) (f : X → Y) (xs : List X) → Any (λ x. P (f x)) xs ↔ SomeByRecursion P (map f xs)
some_mapped P f xs = (λ a. some_from_any P f xs a.0 a.1 a.2 a.3 a.4, any_from_some P f xs)

all_forth : {X Y : Type 0} (P : Y → Type 0) (f : X → Y) (xs : List X) → All (λ x. P (f x)) xs → AllByRecursion P (map f xs)
all_forth P f [] a = tt
all_forth P f (x ∷ xs) a = (a zero x (omega arith), all_forth P f xs (λ k d h. a (suc k) d (omega (arith, h))))

all_back : {X Y : Type 0} (P : Y → Type 0) (f : X → Y) (xs : List X) (k : ℕ) (d : X) → AllByRecursion P (map f xs) → k < length xs → P (f (get_or xs k d))
all_back P f [] k d a h = absurd (omega (arith, h))
all_back P f (x ∷ xs) zero d a h = a.0
all_back P f (x ∷ xs) (suc k) d a h = all_back P f xs k d a.1 (omega (arith, h))

pub all_mapped : {X Y : Type 0} (P : Y → Type 0) (f : X → Y) (xs : List X) → All (λ x. P (f x)) xs ↔ AllByRecursion P (map f xs)
all_mapped P f xs = (all_forth P f xs, λ a k d h. all_back P f xs k d a h)

pub iff_through : {P Q R : Type 0} → P ↔ Q → Q ↔ R → P ↔ R
iff_through e f = (λ p. f.0 (e.0 p), λ r. e.1 (f.1 r))

-- no two are equal, and so no two from a place on
different_mapped : {X : Type 0} (f : X → ℤ) (xs : List X) (i : ℕ) → AreDifferent (map f xs) → AreDifferent (map f (drop i xs))
different_mapped f [] zero d = tt
different_mapped f [] (suc i) d = tt
different_mapped f (x ∷ xs) zero d = d
different_mapped f (x ∷ xs) (suc i) d = different_mapped f xs i d.1

-- the first of those from a place on, and those after it
pub from_here : {X Y : Type 0} (f : X → Y) (xs : List X) (i : ℕ) (x : X) → i < length xs → map f (drop i xs) ≡ f (get_or xs i x) ∷ map f (drop (suc i) xs)
from_here f [] i x h = absurd (omega (arith, h))
from_here f (y ∷ xs) zero x h = refl
from_here f (y ∷ xs) (suc i) x h = from_here f xs i x (omega (arith, h))

some_not_all : (v : ℤ) (xs : List ℤ) → SomeByRecursion (λ x. x ≡ v) xs → AllByRecursion (λ y. v ≡ y → ⊥) xs → ⊥
some_not_all v [] s a = s
some_not_all v (x ∷ xs) (inl e) a = a.0 (sym e)
some_not_all v (x ∷ xs) (inr s) a = some_not_all v xs s a.1

none_all : (v : ℤ) (xs : List ℤ) → (SomeByRecursion (λ x. x ≡ v) xs → ⊥) → AllByRecursion (λ y. v ≡ y → ⊥) xs
none_all v [] n = tt
none_all v (x ∷ xs) n = (λ e. n (inl (sym e)), none_all v xs (λ s. n (inr s)))

-- one that stands again after its place
pub twice : {X : Type 0} (f : X → ℤ) (xs : List X) (i : ℕ) (x : X) (v : ℤ) → i < length xs → v ≡ f (get_or xs i x) → SomeByRecursion (λ y. y ≡ v) (map f (drop (suc i) xs)) → AreDifferent (map f xs) → ⊥
twice f xs i x v h is s d =
    let here = subst AreDifferent (from_here f xs i x h) (different_mapped f xs i d) in
    some_not_all v (map f (drop (suc i) xs)) s (subst (λ (u : ℤ). AllByRecursion (λ y. u ≡ y → ⊥) (map f (drop (suc i) xs))) (sym is) here.0)

pub once : {X : Type 0} (f : X → ℤ) (xs : List X) (i : ℕ) (x : X) (v : ℤ) → i < length xs → v ≡ f (get_or xs i x) → (SomeByRecursion (λ y. y ≡ v) (map f (drop (suc i) xs)) → ⊥)
    → AreDifferent (map f (drop (suc i) xs)) → AreDifferent (map f (drop i xs))
once f xs i x v h is n d =
    subst AreDifferent (sym (from_here f xs i x h)) (subst (λ (u : ℤ). AllByRecursion (λ y. u ≡ y → ⊥) (map f (drop (suc i) xs))) is (none_all v (map f (drop (suc i) xs)) n), d)

pub none_left : {X : Type 0} (f : X → ℤ) (xs : List X) (i : ℕ) → length xs ≤ i → AreDifferent (map f (drop i xs))
none_left f [] zero h = tt
none_left f [] (suc i) h = tt
none_left f (x ∷ xs) zero h = absurd (omega (arith, h))
none_left f (x ∷ xs) (suc i) h = none_left f xs i (omega (arith, h))

-- the same, of what is read
pub along : {X : Type 0} (f : X → ℤ) (xs ys : List X) (u v : ℤ) → xs ≡ ys → u ≡ v → SomeByRecursion (λ y. y ≡ u) (map f xs) → SomeByRecursion (λ y. y ≡ v) (map f ys)
along {X} f xs ys u v e h s =
    subst (λ (w : ℤ). SomeByRecursion (λ y. y ≡ w) (map f ys)) h (subst (λ (zs : List X). SomeByRecursion (λ y. y ≡ u) (map f zs)) e s)

-- those after a place, as a slice of them
pub behind : {X : Type 0} (xs : List X) (i : ℕ) → take (length xs - (i + 1)) (drop (i + 1) xs) ≡ drop (suc i) xs
behind xs i = rw add-one (take_all (length xs - suc i) (drop (suc i) xs) (let l = length-drop (suc i) xs in omega (arith, l)))

-- ---- the element of an index

pub same_place : (p i : ℕ) → pos (p + 1) ≡ pos (i + 1) → p ≡ i
same_place p i e = let f : p + 1 ≡ i + 1 = cc in omega (arith, f)

got : {X : Type 0} (xs : List X) (p : ℕ) (d : X) → p < length xs → slice_get xs p ≡ Some (get_or xs p d)
got [] p d h = absurd (omega (arith, h))
got (x ∷ xs) zero d h = refl
got (x ∷ xs) (suc p) d h = got xs p d (omega (arith, h))

-- the value of the term at a place
pub value_at : {X Y : Type 0} (f : X → Y) (xs : List X) (i : ℕ) (d : X) → i < length xs → slice_get (map f xs) i ≡ Some (f (get_or xs i d))
value_at f xs i d within = slice_get-map f xs i ∙ ap (option_map f) (got xs i d within)

got_none : {Y : Type 0} (xs : List Y) (p : ℕ) (y : Y) → length xs ≤ p → slice_get xs p ≡ Some y → ⊥
got_none [] p y h e = cc
got_none (x ∷ xs) zero y h e = absurd (omega (arith, h))
got_none (x ∷ xs) (suc p) y h e = got_none xs p y (omega (arith, h)) e

pub element_at : {X : Type 0} (f : X → ℤ) (xs : List X) (k : ℤ) (p : ℕ) (d : X) (c : ℤ) (r : Bool) → k ≡ pos (p + 1) → p < length xs → IsTrue r ↔ (f (get_or xs p d) ≡ c) → IsTrue r ↔ IsElement k (map f xs) c
element_at f xs k p d c r place within has =
    let here : slice_get (map f xs) p ≡ Some (f (get_or xs p d)) = slice_get-map f xs p ∙ ap (option_map f) (got xs p d within) in (
      λ t. (p, place, here ∙ ap Some (has.0 t)),
      λ (i, e, g). has.1 (some_is (f (get_or xs p d)) c (sym here ∙ subst (λ (n : ℕ). slice_get (map f xs) n ≡ Some c) (sym (same_place p i (sym place ∙ e))) g)),
    )

pub no_element : {X : Type 0} (f : X → ℤ) (xs : List X) (k : ℤ) (p : ℕ) (c : ℤ) → k ≡ pos (p + 1) → length xs ≤ p → IsElement k (map f xs) c → ⊥
no_element f xs k p c place beyond (i, e, g) =
    let same = same_place p i (sym place ∙ e) in
    got_none (map f xs) i c (let l = length-map xs f in omega (arith, l, beyond, same)) g

-- ---- a row

head_is : (x y : ℤ) (xs ys : List ℤ) → x ∷ xs ≡ y ∷ ys → x ≡ y
head_is x y xs ys e = cc

tail_is : (x y : ℤ) (xs ys : List ℤ) → x ∷ xs ≡ y ∷ ys → xs ≡ ys
tail_is x y xs ys e = cc

cons_both : (x y : ℤ) (xs ys : List ℤ) → x ≡ y → xs ≡ ys → x ∷ xs ≡ y ∷ ys
cons_both x y xs ys e f = cc

row_step : {X : Type 0} (f : X → ℤ) (ts : List X) (row : List ℤ) (i : ℕ) (t : X) (n : ℤ) → i < length row → length ts ≡ length row → f (get_or ts i t) ≡ get_or row i n
    → map f (take i ts) ≡ take i row → map f (take (suc i) ts) ≡ take (suc i) row
row_step f [] [] i t n h l e k = absurd (omega (arith, h))
row_step f [] (m ∷ row) i t n h l e k = cc
row_step f (u ∷ ts) [] i t n h l e k = cc
row_step f (u ∷ ts) (m ∷ row) zero t n h l e k = ap (λ z. z ∷ []) e
row_step f (u ∷ ts) (m ∷ row) (suc i) t n h l e k =
    cons_both (f u) m (map f (take (suc i) ts)) (take (suc i) row) (head_is (f u) m (map f (take i ts)) (take i row) k) (row_step f ts row i t n (omega (arith, h)) (omega (arith, l)) e (tail_is (f u) m (map f (take i ts)) (take i row) k))

pub row_more : {X : Type 0} (f : X → ℤ) (ts : List X) (row : List ℤ) (i : ℕ) (t : X) (n : ℤ) → i < length row → length ts ≡ length row → f (get_or ts i t) ≡ get_or row i n
    → map f (take i ts) ≡ take i row → map f (take (i + 1) ts) ≡ take (i + 1) row
row_more f ts row i t n h l e k = rw add-one (row_step f ts row i t n h l e k)

pub row_differs : {X : Type 0} (f : X → ℤ) (ts : List X) (row : List ℤ) (i : ℕ) (t : X) (n : ℤ) → i < length row → length ts ≡ length row → (f (get_or ts i t) ≡ get_or row i n → ⊥) → map f ts ≡ row → ⊥
row_differs f [] [] i t n h l d e = absurd (omega (arith, h))
row_differs f [] (m ∷ row) i t n h l d e = cc
row_differs f (u ∷ ts) [] i t n h l d e = cc
row_differs f (u ∷ ts) (m ∷ row) zero t n h l d e = d (head_is (f u) m (map f ts) row e)
row_differs f (u ∷ ts) (m ∷ row) (suc i) t n h l d e = row_differs f ts row i t n (omega (arith, h)) (omega (arith, l)) d (tail_is (f u) m (map f ts) row e)
