-- All of a list, each there or not, one by one.
use Rattle.std.proofs.Common.{◌≡◌, ℕ, ◌+◌, ◌<◌, ◌≤◌, zero, suc, List, [], ◌∷◌, ◌++◌, map, take, length, get_or, refl, sym, ap, ◌∙◌, subst, arith, add-one}
use Rattle.std.proofs.lemmas.List.{take_all}
use Rattle.std.specs.Prelude.{Option, Some, None, option_map}
use Rattle.fz_language.specs.Numerals.{all_of}

-- where all are there, the first and the others are
pub record Parted {X : Type 0} (o : Option X) (os : List (Option X)) (xs : List X) : Type 0 where
  pub first : X
  pub others : List X
  pub first_is : o ≡ Some first
  pub others_are : all_of os ≡ Some others
  pub whole : xs ≡ first ∷ others

pub part : {X : Type 0} (o : Option X) (os : List (Option X)) (xs : List X) → all_of (o ∷ os) ≡ Some xs → Parted o os xs
part {X} (Some x) os xs e = go (all_of os) refl e
  where
    go : (v : Option (List X)) → all_of os ≡ v → option_map (λ ys. x ∷ ys) v ≡ Some xs → Parted (Some x) os xs
    go (Some ys) is e = record { first = x; others = ys; first_is = refl; others_are = is; whole = cc }
    go None is e = cc
part None os xs e = cc

more : {X Y Z : Type 0} (w : Y → Option X) (f : Z → Y) (zs : List Z) (i : ℕ) (d : Z) (xs : List X) (x : X) → i < length zs → w (f (get_or zs i d)) ≡ Some x → all_of (map w (map f (take i zs))) ≡ Some xs
    → all_of (map w (map f (take (suc i) zs))) ≡ Some (xs ++ x ∷ [])
more w f [] i d xs x h e k = absurd (omega (arith, h))
more {X} w f (z ∷ zs) zero d xs x h e k = ap (λ o. all_of (o ∷ [])) e ∙ ap (λ (ys : List X). Some (ys ++ x ∷ [])) (none_is xs k)
  where
    none_is : (ys : List X) → Some [] ≡ Some ys → [] ≡ ys
    none_is ys e = cc
more {X} w f (z ∷ zs) (suc i) d xs x h e k =
    let p = part (w (f z)) (map w (map f (take i zs))) xs k in
    ap (λ o. all_of (o ∷ map w (map f (take (suc i) zs)))) p.first_is ∙ ap (option_map (λ ys. p.first ∷ ys)) (more w f zs i d p.others x (omega (arith, h)) e p.others_are)
    ∙ ap (λ (ys : List X). Some (ys ++ x ∷ [])) (sym p.whole)

pub stop : {X Y Z : Type 0} (w : Y → Option X) (f : Z → Y) (zs : List Z) (i : ℕ) (d : Z) (xs : List X) → i < length zs → w (f (get_or zs i d)) ≡ None → all_of (map w (map f (take i zs))) ≡ Some xs → all_of (map w (map f zs)) ≡ None
stop w f [] i d xs h e k = absurd (omega (arith, h))
stop w f (z ∷ zs) zero d xs h e k = ap (λ o. all_of (o ∷ map w (map f zs))) e
stop w f (z ∷ zs) (suc i) d xs h e k =
    let p = part (w (f z)) (map w (map f (take i zs))) xs k in
    ap (λ o. all_of (o ∷ map w (map f zs))) p.first_is ∙ ap (option_map (λ ys. p.first ∷ ys)) (stop w f zs i d p.others (omega (arith, h)) e p.others_are)

pub more_at : {X Y Z : Type 0} (w : Y → Option X) (f : Z → Y) (zs : List Z) (i : ℕ) (d : Z) (xs : List X) (x : X) → i < length zs → w (f (get_or zs i d)) ≡ Some x → all_of (map w (map f (take i zs))) ≡ Some xs
    → all_of (map w (map f (take (i + 1) zs))) ≡ Some (xs ++ x ∷ [])
more_at w f zs i d xs x h e k = rw add-one (more w f zs i d xs x h e k)

pub all_done : {X Y Z : Type 0} (w : Y → Option X) (f : Z → Y) (zs : List Z) (i : ℕ) (xs : List X) → length zs ≤ i → all_of (map w (map f (take i zs))) ≡ Some xs → all_of (map w (map f zs)) ≡ Some xs
all_done {X} {Y} {Z} w f zs i xs h k = subst (λ (ys : List Z). all_of (map w (map f ys)) ≡ Some xs) (take_all i zs h) k

-- what is made of each is made of all
pub all_mapped : {X Y Z : Type 0} (g : X → Y) (w : Z → Option X) (zs : List Z) → all_of (map (λ z. option_map g (w z)) zs) ≡ option_map (map g) (all_of (map w zs))
all_mapped g w [] = refl
all_mapped g w (z ∷ zs) = one g (w z) (map w zs) (map (λ z. option_map g (w z)) zs) (all_mapped g w zs)
  where
    mapped : {X Y : Type 0} (g : X → Y) (x : X) (o : Option (List X)) → option_map (λ ys. g x ∷ ys) (option_map (map g) o) ≡ option_map (map g) (option_map (λ xs. x ∷ xs) o)
    mapped g x (Some xs) = refl
    mapped g x None = refl

    one : {X Y : Type 0} (g : X → Y) (o : Option X) (os : List (Option X)) (ps : List (Option Y)) → all_of ps ≡ option_map (map g) (all_of os) → all_of (option_map g o ∷ ps) ≡ option_map (map g) (all_of (o ∷ os))
    one g (Some x) os ps e = ap (option_map (λ ys. g x ∷ ys)) e ∙ mapped g x (all_of os)
    one g None os ps e = refl

-- those so far before those of the elements that are left

abbrev pub with_left : {X : Type 0} → List X → Option (List X) → Option (List X)
with_left xs left = option_map (λ ys. xs ++ ys) left
