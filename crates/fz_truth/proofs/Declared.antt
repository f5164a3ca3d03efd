-- One number for each variable, and each constraint true, place by place.
use Rattle.std.proofs.Common.{◌≡◌, ℕ, ◌+◌, ◌<◌, ◌≤◌, zero, suc, List, [], ◌∷◌, take, length, get_or, arith, sym, ap, refl, ◌∙◌, subst, add-one}
use Rattle.std.specs.Prelude.{ℤ, Some, slice_get}
use Rattle.std.specs.List.{AllByRecursion}
use Rattle.fz_sets.specs.Sets.{IsInSet}
use Rattle.fz_sets.proofs.Lists.{all_of, by_place, some_is}
use Rattle.fz_spec.specs.Instance.{Variable, AreDeclared}

pub one_length : (vs : List Variable) (xs : List ℤ) → AreDeclared vs xs → length vs ≡ length xs
one_length [] [] d = refl
one_length [] (x ∷ xs) d = absurd d
one_length (v ∷ vs) [] d = absurd d
one_length (v ∷ vs) (x ∷ xs) d = ap suc (one_length vs xs d.1)

pub declared_at : (vs : List Variable) (xs : List ℤ) (i : ℕ) (d : Variable) (e : ℤ) → i < length vs → AreDeclared vs xs → IsInSet (get_or vs i d).set (get_or xs i e)
declared_at [] xs i d e h k = absurd (omega (arith, h))
declared_at (v ∷ vs) [] i d e h k = absurd k
declared_at (v ∷ vs) (x ∷ xs) zero d e h k = k.0
declared_at (v ∷ vs) (x ∷ xs) (suc i) d e h k = declared_at vs xs i d e (omega (arith, h)) k.1

declared_more : (vs : List Variable) (xs : List ℤ) (i : ℕ) (d : Variable) (e : ℤ) → i < length vs → length vs ≡ length xs → AreDeclared (take i vs) (take i xs) → IsInSet (get_or vs i d).set (get_or xs i e)
    → AreDeclared (take (suc i) vs) (take (suc i) xs)
declared_more [] xs i d e h l k m = absurd (omega (arith, h))
declared_more (v ∷ vs) [] i d e h l k m = cc
declared_more (v ∷ vs) (x ∷ xs) zero d e h l k m = (m, tt)
declared_more (v ∷ vs) (x ∷ xs) (suc i) d e h l k m = (k.0, declared_more vs xs i d e (omega (arith, h)) (omega (arith, l)) k.1 m)

pub declared_whole : (vs : List Variable) (xs : List ℤ) (i : ℕ) → length vs ≤ i → length vs ≡ length xs → AreDeclared (take i vs) (take i xs) → AreDeclared vs xs
declared_whole [] [] i h l k = tt
declared_whole [] (x ∷ xs) i h l k = cc
declared_whole (v ∷ vs) [] i h l k = cc
declared_whole (v ∷ vs) (x ∷ xs) zero h l k = absurd (omega (arith, h))
declared_whole (v ∷ vs) (x ∷ xs) (suc i) h l k = (k.0, declared_whole vs xs i (omega (arith, h)) (omega (arith, l)) k.1)

-- the same, of the parts that the code reads
pub read_at : (vs : List Variable) (xs : List ℤ) (i : ℕ) (v : Variable) (s : List (ℤ × ℤ)) (x e : ℤ) → i < length vs → v ≡ get_or vs i v → s ≡ v.set → x ≡ get_or xs i e → AreDeclared vs xs → IsInSet s x
read_at vs xs i v s x e h at set is k =
    subst (λ (u : ℤ). IsInSet s u) (sym is) (subst (λ (u : List (ℤ × ℤ)). IsInSet u (get_or xs i e)) (sym (set ∙ ap (λ (u : Variable). u.set) at)) (declared_at vs xs i v e h k))

pub read_more : (vs : List Variable) (xs : List ℤ) (i : ℕ) (v : Variable) (s : List (ℤ × ℤ)) (x e : ℤ) → i < length vs → length vs ≡ length xs → v ≡ get_or vs i v → s ≡ v.set → x ≡ get_or xs i e
    → AreDeclared (take i vs) (take i xs) → IsInSet s x → AreDeclared (take (i + 1) vs) (take (i + 1) xs)
read_more vs xs i v s x e h l at set is k m =
    rw add-one
    (declared_more vs xs i v e h l k (subst (λ (u : List (ℤ × ℤ)). IsInSet u (get_or xs i e)) (set ∙ ap (λ (u : Variable). u.set) at) (subst (λ (u : ℤ). IsInSet s u) is m)))

-- ---- of each place before one

inside_of : {X : Type 0} (xs : List X) (i : ℕ) (x : X) → slice_get xs i ≡ Some x → i < length xs
inside_of [] i x at = absurd (cc (at))
inside_of (y ∷ ys) zero x at = omega arith
inside_of (y ∷ ys) (suc i) x at = let rest = inside_of ys i x at in omega (arith, rest)

abbrev pub AllBefore : {X : Type 0} → (X → Type 0) → List X → ℕ → Type 0
AllBefore {X} P xs n = (i : ℕ) (x : X) → i < n → slice_get xs i ≡ Some x → P x

pub before_more : {X : Type 0} (P : X → Type 0) (xs : List X) (n : ℕ) (x : X) → slice_get xs n ≡ Some x → AllBefore P xs n → P x → AllBefore P xs (n + 1)
before_more {X} P xs n x here before h =
    by_place (λ i. (y : X) → i < n + 1 → slice_get xs i ≡ Some y → P y) n (λ y l at. subst P (some_is x y (sym here ∙ at)) h) (λ i other y l at. before i y (omega (arith, l, other)) at)

pub all_before : {X : Type 0} (P : X → Type 0) (xs : List X) (n : ℕ) → length xs ≤ n → AllBefore P xs n → AllByRecursion P xs
all_before P xs n le before = all_of P xs (λ i x at. before i x (let inside = inside_of xs i x at in omega (arith, inside, le)) at)
