-- What the elements of a list are, one by one.
use Rattle.std.proofs.Common.{◌≡◌, ℕ, ◌+◌, ◌<◌, zero, suc, List, [], ◌∷◌, ◌++◌, map, take, length, get_or, refl, sym, ap, ap₂, ◌∙◌, arith, add-one}
use Rattle.std.specs.Prelude.{Option, Some, None, Result, Ok, Err}
use Rattle.fz_language.specs.Trees.{Basic, basic_at}
use Rattle.fz_language.specs.Entries.{before, each_of}

pub ok_is : {X : Type 0} (xs ys : List X) → (let r : Result (List X) ℕ = Ok xs in r) ≡ Ok ys → xs ≡ ys
ok_is xs ys e = cc

-- where one stands before others, both are what is asked
pub record Parted {X : Type 0} (o : Option X) (r : Result (List X) ℕ) (ts : List X) : Type 0 where
  pub first : X
  pub others : List X
  pub first_is : o ≡ Some first
  pub others_are : r ≡ Ok others
  pub whole : ts ≡ first ∷ others

pub part : {X : Type 0} (o : Option X) (r : Result (List X) ℕ) (at : ℕ) (ts : List X) → before o r at ≡ Ok ts → Parted o r ts
part (Some x) (Ok xs) at ts e = record { first = x; others = xs; first_is = refl; others_are = refl; whole = sym (ok_is (x ∷ xs) ts e) }
part (Some x) (Err place) at ts e = cc
part None r at ts e = cc

more : {X Y : Type 0} (w : Basic → Option X) (f : Y → Basic) (ys : List Y) (i : ℕ) (d : Y) (ts : List X) (t : X) → i < length ys → w (f (get_or ys i d)) ≡ Some t → each_of w (map f (take i ys)) ≡ Ok ts
    → each_of w (map f (take (suc i) ys)) ≡ Ok (ts ++ t ∷ [])
more w f [] i d ts t h e k = absurd (omega (arith, h))
more w f (y ∷ ys) zero d ts t h e k = ap (λ o. before o (Ok []) (basic_at (f y))) e ∙ ap (λ xs. Ok (xs ++ t ∷ [])) (ok_is [] ts k)
more w f (y ∷ ys) (suc i) d ts t h e k =
    let p = part (w (f y)) (each_of w (map f (take i ys))) (basic_at (f y)) ts k in
    ap₂ (λ o r. before o r (basic_at (f y))) p.first_is (more w f ys i d p.others t (omega (arith, h)) e p.others_are)
    ∙ ap (λ xs. Ok (xs ++ t ∷ [])) (sym p.whole)

stop : {X Y : Type 0} (w : Basic → Option X) (f : Y → Basic) (ys : List Y) (i : ℕ) (d : Y) (ts : List X) → i < length ys → w (f (get_or ys i d)) ≡ None → each_of w (map f (take i ys)) ≡ Ok ts
    → each_of w (map f ys) ≡ Err (basic_at (f (get_or ys i d)))
stop w f [] i d ts h e k = absurd (omega (arith, h))
stop w f (y ∷ ys) zero d ts h e k = ap (λ o. before o (each_of w (map f ys)) (basic_at (f y))) e
stop w f (y ∷ ys) (suc i) d ts h e k =
    let p = part (w (f y)) (each_of w (map f (take i ys))) (basic_at (f y)) ts k in
    ap₂ (λ o r. before o r (basic_at (f y))) p.first_is (stop w f ys i d p.others (omega (arith, h)) e p.others_are)

-- the same of an element that is read
pub each_more : {X Y : Type 0} (w : Basic → Option X) (f : Y → Basic) (ys : List Y) (i : ℕ) (y : Y) (ts : List X) (t : X) → i < length ys → y ≡ get_or ys i y → Some t ≡ w (f y) → each_of w (map f (take i ys)) ≡ Ok ts
    → each_of w (map f (take (i + 1) ys)) ≡ Ok (ts ++ t ∷ [])
each_more w f ys i y ts t h is e k = rw add-one (more w f ys i y ts t h (sym (e ∙ ap (λ z. w (f z)) is)) k)

pub each_stop : {X Y : Type 0} (w : Basic → Option X) (f : Y → Basic) (ys : List Y) (i : ℕ) (y : Y) (ts : List X) (at : ℕ) → i < length ys → y ≡ get_or ys i y → None ≡ w (f y) → at ≡ basic_at (f y) → each_of w (map f (take i ys)) ≡ Ok ts
    → Err at ≡ each_of w (map f ys)
each_stop w f ys i y ts at h is e place k =
    sym (stop w f ys i y ts h (sym (e ∙ ap (λ z. w (f z)) is)) k ∙ ap (λ z. Err (basic_at (f z))) (sym is) ∙ ap (λ p. Err p) (sym place))
