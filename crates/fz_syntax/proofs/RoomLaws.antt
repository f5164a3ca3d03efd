-- What is left after one list of additions and another.
use Rattle.std.proofs.Common.{◌≡◌, ℕ, ◌+◌, ◌<◌, ◌≤◌, zero, suc, List, [], ◌∷◌, ◌++◌, map, take, drop, length, get_or, refl, sym, ap, ap₂, ◌∙◌, subst, arith, add-one, append_assoc, append-nil}
use Rattle.std.proofs.lemmas.List.{take_all}
use Rattle.std.specs.Prelude.{Result, Ok, Err, flat_map, slice_get}
use Rattle.fz_language.specs.Rules.{Addition, Counts, counted, all_counted, is_over, over}
use Rattle.fz_syntax.specs.declared.limits.Room.{Room}
use Rattle.fz_syntax.specs.Rooms.{IsRoom, IsBehind, IsSoFar}
use Rattle.fz_syntax.proofs.Firsts.{front_of}

counted_both : (n : Counts) (xs ys : List Addition) → all_counted n (xs ++ ys) ≡ all_counted (all_counted n xs) ys
counted_both n [] ys = refl
counted_both n (x ∷ xs) ys = counted_both (counted n x) xs ys

over_both : (n : Counts) (xs ys : List Addition) → over n (xs ++ ys) ≡ over n xs ++ over (all_counted n xs) ys
over_both n [] ys = refl
over_both n (x ∷ xs) ys = ap (λ u. is_over n x ++ u) (over_both (counted n x) xs ys) ∙ sym (append_assoc (is_over n x) (over (counted n x) xs) (over (all_counted (counted n x) xs) ys))

-- a place over a limit stands before all that comes later
pub stops : (n : Counts) (xs ys : List Addition) (at : ℕ) → IsBehind n xs (Err at) → IsBehind n (xs ++ ys) (Err at)
stops n xs ys at h = ap (λ ps. slice_get ps 0) (over_both n xs ys) ∙ front_of (over n xs) (over (all_counted n xs) ys) at h

-- one list and then another
pub both : (n : Counts) (xs ys : List Addition) (middle : Room) (result : Result Room ℕ) → IsSoFar n xs middle → IsBehind (all_counted n xs) ys result → IsBehind n (xs ++ ys) result
both n xs ys middle (Ok room) s h = (
  subst (λ (m : Counts). IsRoom room m) (sym (counted_both n xs ys)) h.0,
  over_both n xs ys ∙ ap₂ (λ u v. u ++ v) s.1 h.1,
)
both n xs ys middle (Err at) s h = ap (λ ps. slice_get ps 0) (over_both n xs ys) ∙ ap (λ u. slice_get (u ++ over (all_counted n xs) ys) 0) s.1 ∙ h

-- ---- lists of parts, each with its additions

taken : {X Y : Type 0} (g : Y → List Addition) (f : X → Y) (xs : List X) (i : ℕ) (d : X) → i < length xs → flat_map g (map f (take (suc i) xs)) ≡ flat_map g (map f (take i xs)) ++ g (f (get_or xs i d))
taken g f [] i d h = absurd (omega (arith, h))
taken g f (x ∷ xs) zero d h = append-nil (g (f x))
taken g f (x ∷ xs) (suc i) d h =
    ap (λ u. g (f x) ++ u) (taken g f xs i d (omega (arith, h))) ∙ sym (append_assoc (g (f x)) (flat_map g (map f (take i xs))) (g (f (get_or xs i d))))

parted : {X Y : Type 0} (g : Y → List Addition) (f : X → Y) (xs : List X) (i : ℕ) (d : X) → i < length xs → flat_map g (map f xs) ≡ flat_map g (map f (take i xs)) ++ (g (f (get_or xs i d)) ++ flat_map g (map f (drop (suc i) xs)))
parted g f [] i d h = absurd (omega (arith, h))
parted g f (x ∷ xs) zero d h = refl
parted g f (x ∷ xs) (suc i) d h =
    ap (λ u. g (f x) ++ u) (parted g f xs i d (omega (arith, h)))
    ∙ sym (append_assoc (g (f x)) (flat_map g (map f (take i xs))) (g (f (get_or xs i d)) ++ flat_map g (map f (drop (suc i) xs))))

pub more_at : {X Y : Type 0} (g : Y → List Addition) (f : X → Y) (xs : List X) (i : ℕ) (d : X) (n : Counts) (middle room : Room) → i < length xs → IsSoFar n (flat_map g (map f (take i xs))) middle
    → IsBehind (all_counted n (flat_map g (map f (take i xs)))) (g (f (get_or xs i d))) (Ok room) → IsSoFar n (flat_map g (map f (take (i + 1) xs))) room
more_at g f xs i d n middle room h s b =
    rw add-one
    (subst (λ (a : List Addition). IsSoFar n a room) (sym (taken g f xs i d h)) (both n (flat_map g (map f (take i xs))) (g (f (get_or xs i d))) middle (Ok room) s b))

pub stops_at : {X Y : Type 0} (g : Y → List Addition) (f : X → Y) (xs : List X) (i : ℕ) (d : X) (n : Counts) (middle : Room) (at : ℕ) → i < length xs → IsSoFar n (flat_map g (map f (take i xs))) middle
    → IsBehind (all_counted n (flat_map g (map f (take i xs)))) (g (f (get_or xs i d))) (Err at) → IsBehind n (flat_map g (map f xs)) (Err at)
stops_at g f xs i d n middle at h s b =
    subst (λ (a : List Addition). IsBehind n a (Err at)) (sym (parted g f xs i d h))
    (both n (flat_map g (map f (take i xs))) (g (f (get_or xs i d)) ++ flat_map g (map f (drop (suc i) xs))) middle (Err at) s
    (stops (all_counted n (flat_map g (map f (take i xs)))) (g (f (get_or xs i d))) (flat_map g (map f (drop (suc i) xs))) at b))

pub part_more : {X Y : Type 0} (g : Y → List Addition) (f : X → Y) (xs : List X) (i : ℕ) (x : X) (n : Counts) (middle room : Room) → i < length xs → x ≡ get_or xs i x → IsSoFar n (flat_map g (map f (take i xs))) middle
    → IsBehind (all_counted n (flat_map g (map f (take i xs)))) (g (f x)) (Ok room) → IsSoFar n (flat_map g (map f (take (i + 1) xs))) room
part_more g f xs i x n middle room h is s b =
    rw add-one
    (subst (λ (a : List Addition). IsSoFar n a room) (sym (taken g f xs i x h))
    (subst (λ y. IsSoFar n (flat_map g (map f (take i xs)) ++ g (f y)) room) is (both n (flat_map g (map f (take i xs))) (g (f x)) middle (Ok room) s b)))

pub part_stops : {X Y : Type 0} (g : Y → List Addition) (f : X → Y) (xs : List X) (i : ℕ) (x : X) (n : Counts) (middle : Room) (at : ℕ) → i < length xs → x ≡ get_or xs i x → IsSoFar n (flat_map g (map f (take i xs))) middle
    → IsBehind (all_counted n (flat_map g (map f (take i xs)))) (g (f x)) (Err at) → IsBehind n (flat_map g (map f xs)) (Err at)
part_stops g f xs i x n middle at h is s b =
    subst (λ (a : List Addition). IsBehind n a (Err at)) (sym (parted g f xs i x h))
    (both n (flat_map g (map f (take i xs))) (g (f (get_or xs i x)) ++ flat_map g (map f (drop (suc i) xs))) middle (Err at) s
    (stops (all_counted n (flat_map g (map f (take i xs)))) (g (f (get_or xs i x))) (flat_map g (map f (drop (suc i) xs))) at
    (subst (λ y. IsBehind (all_counted n (flat_map g (map f (take i xs)))) (g (f y)) (Err at)) is b)))

pub part_done : {X Y : Type 0} (g : Y → List Addition) (f : X → Y) (xs : List X) (i : ℕ) (n : Counts) (room : Room) → length xs ≤ i → IsSoFar n (flat_map g (map f (take i xs))) room → IsBehind n (flat_map g (map f xs)) (Ok room)
part_done {X} g f xs i n room h s = subst (λ (ys : List X). IsSoFar n (flat_map g (map f ys)) room) (take_all i xs h) s
