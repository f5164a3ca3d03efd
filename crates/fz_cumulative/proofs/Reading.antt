-- Elements as the code reads them, and what is made of each element of a list.
use Rattle.std.proofs.Common.{◌≡◌, ℕ, zero, suc, ◌+◌, ◌<◌, min, List, [], ◌∷◌, ◌++◌, refl, sym, ap, ◌∙◌, arith, length, map, take, get_or, add-one}
use Rattle.std.specs.Prelude.{ℤ, slice_get, Some}
use Rattle.std.proofs.lemmas.Option.{slice_get_within, slice_get-get_or}
use Rattle.fz_sets.proofs.Lists.{some_is}
use Rattle.fz_spec.specs.declared.term.Term.{Term}
use Rattle.fz_strength.specs.declared.open_task.OpenTask.{OpenTask}
use Rattle.fz_strength.specs.Cumulatives.{open_task, open_tasks}

pub read_is : {X : Type 0} (xs : List X) (place : ℕ) (x d : X) → slice_get xs place ≡ Some x → x ≡ get_or xs place d
read_is xs place x d at = some_is x (get_or xs place d) (sym at ∙ slice_get-get_or xs place d (slice_get_within xs place x at))

pub map_at : {X Y : Type 0} (f : X → Y) (xs : List X) (i : ℕ) (x : X) (y : Y) → i < length xs → get_or (map f xs) i y ≡ f (get_or xs i x)
map_at f [] i x y h = absurd (omega (arith, h))
map_at f (first ∷ xs) zero x y h = refl
map_at f (first ∷ xs) (suc i) x y h = map_at f xs i x y (omega (arith, h))

map_next : {X Y : Type 0} (f : X → Y) (xs : List X) (i : ℕ) (x : X) → i < length xs → take (suc i) (map f xs) ≡ take i (map f xs) ++ f (get_or xs i x) ∷ []
map_next f [] i x h = absurd (omega (arith, h))
map_next f (first ∷ xs) zero x h = refl
map_next f (first ∷ xs) (suc i) x h = ap (λ ys. f first ∷ ys) (map_next f xs i x (omega (arith, h)))

pub map_one_more : {X Y : Type 0} (f : X → Y) (xs : List X) (i : ℕ) (x : X) → i < length xs → take (i + 1) (map f xs) ≡ take i (map f xs) ++ f (get_or xs i x) ∷ []
map_one_more f xs i x h = rw (add-one i) (map_next f xs i x h)

-- ---- the tasks of three lists

pub length_of_tasks : (ds : List (List (ℤ × ℤ))) (ss dd us : List Term) → length (open_tasks ds ss dd us) ≡ min (min (length ss) (length dd)) (length us)
length_of_tasks ds [] dd us = grind arith
length_of_tasks ds (s ∷ ss) [] us = grind arith
length_of_tasks ds (s ∷ ss) (d ∷ dd) [] = grind arith
length_of_tasks ds (s ∷ ss) (d ∷ dd) (u ∷ us) = let e = length_of_tasks ds ss dd us in grind (arith, e)

tasks_next : (ds : List (List (ℤ × ℤ))) (ss dd us : List Term) (i : ℕ) (s d u : Term) → i < length ss → i < length dd → i < length us
    → take (suc i) (open_tasks ds ss dd us) ≡ take i (open_tasks ds ss dd us) ++ open_task ds (get_or ss i s) (get_or dd i d) (get_or us i u) ∷ []
tasks_next ds [] dd us i s d u h k l = absurd (omega (arith, h))
tasks_next ds (x ∷ ss) [] us i s d u h k l = absurd (omega (arith, k))
tasks_next ds (x ∷ ss) (y ∷ dd) [] i s d u h k l = absurd (omega (arith, l))
tasks_next ds (x ∷ ss) (y ∷ dd) (z ∷ us) zero s d u h k l = refl
tasks_next ds (x ∷ ss) (y ∷ dd) (z ∷ us) (suc i) s d u h k l =
    ap (λ (ts : List OpenTask). open_task ds x y z ∷ ts) (tasks_next ds ss dd us i s d u (omega (arith, h)) (omega (arith, k)) (omega (arith, l)))

pub tasks_one_more : (ds : List (List (ℤ × ℤ))) (ss dd us : List Term) (i : ℕ) (s d u : Term) → i < length ss → i < length dd → i < length us
    → take (i + 1) (open_tasks ds ss dd us) ≡ take i (open_tasks ds ss dd us) ++ open_task ds (get_or ss i s) (get_or dd i d) (get_or us i u) ∷ []
tasks_one_more ds ss dd us i s d u h k l = rw (add-one i) (tasks_next ds ss dd us i s d u h k l)
