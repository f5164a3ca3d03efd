-- The constraint of a number.
use Rattle.std.proofs.Common.{arith, ◌≡◌, ℕ, zero, suc, ◌+◌, ◌-◌, ◌<◌, ◌≤◌, List, [], ◌∷◌, ◌++◌, length, map, get_or, take, refl, sym, ap, ap₂, subst, ◌∙◌, append_assoc, length-append, add-one, Option}
use Rattle.std.specs.Prelude.{Some, slice_get, flat_map}
use Rattle.std.specs.List.Sorted.{IsNonDecreasingBy}
use Rattle.std.proofs.lemmas.List.{length-map}
use Rattle.fz_sets.proofs.Lists.{some_is}
use Rattle.fz_spec.specs.declared.term.Term.{Term}
use Rattle.fz_spec.specs.Constraints.{Constraint}
use Rattle.fz_model.specs.Groups.{Group, AreEnds, IsPlaceOf, items_in, within}

-- ---- one more group

pub ends_more : (before all : ℕ) (gs : List Group) (g : Group) → AreEnds before gs all → g.end ≡ all + length (items_in g) → AreEnds before (gs ++ g ∷ []) g.end
ends_more before all [] g h e = (e ∙ ap (λ n. n + length (items_in g)) (sym h), refl)
ends_more before all (x ∷ gs) g h e = (h.0, ends_more x.end all gs g h.1 e)

pub counted : (before all : ℕ) (gs : List Group) → AreEnds before gs all → all ≡ before + length (flat_map items_in gs)
counted before all [] h = omega (arith, h)
counted before all (g ∷ gs) h = let rest = counted g.end all gs h.1 in let end = h.0 in omega (arith, rest, end, length-append (items_in g) (flat_map items_in gs))

pub counted_behind : (all : ℕ) (gs : List Group) (cs : List Constraint) → AreEnds 0 gs all → all + length cs ≡ length (flat_map items_in gs ++ cs)
counted_behind all gs cs h = omega (arith, counted 0 all gs h, length-append (flat_map items_in gs) cs)

-- ---- places in two lists

pub at_front : {X : Type 0} (xs ys : List X) (i : ℕ) → i < length xs → slice_get (xs ++ ys) i ≡ slice_get xs i
at_front [] ys i l = absurd (omega (arith, l))
at_front (x ∷ xs) ys zero l = refl
at_front (x ∷ xs) ys (suc i) l = at_front xs ys i (omega (arith, l))

pub at_back : {X : Type 0} (xs ys : List X) (i : ℕ) → slice_get (xs ++ ys) (length xs + i) ≡ slice_get ys i
at_back [] ys i = ap (λ n. slice_get ys n) (omega arith)
at_back (x ∷ xs) ys i =
    let is : length (x ∷ xs) + i ≡ suc (length xs + i) = omega arith in ap (λ n. slice_get (x ∷ (xs ++ ys)) n) is ∙ at_back xs ys i

-- ---- where a constraint stands

ends_rise : (before all : ℕ) (gs : List Group) (j : ℕ) (d : Group) → AreEnds before gs all → j < length gs → before ≤ (get_or gs j d).end
ends_rise before all [] j d h l = absurd (omega (arith, l))
ends_rise before all (g ∷ gs) zero d h l = let end = h.0 in omega (arith, end)
ends_rise before all (g ∷ gs) (suc j) d h l = let rest = ends_rise g.end all gs j d h.1 (omega (arith, l)) in let end = h.0 in omega (arith, rest, end)

rising_from : (before all : ℕ) (g : Group) (gs : List Group) → AreEnds before (g ∷ gs) all → IsNonDecreasingBy (λ (x : Group). x.end) gs → IsNonDecreasingBy (λ (x : Group). x.end) (g ∷ gs)
rising_from before all g gs h rest zero zero d le l = omega arith
rising_from before all g gs h rest zero (suc j) d le l = ends_rise g.end all gs j d h.1 (omega (arith, l))
rising_from before all g gs h rest (suc i) zero d le l = absurd (omega (arith, le))
rising_from before all g gs h rest (suc i) (suc j) d le l = rest i j d (omega (arith, le)) (omega (arith, l))

pub rising : (before all : ℕ) (gs : List Group) → AreEnds before gs all → IsNonDecreasingBy (λ (x : Group). x.end) gs
rising before all [] h i j d le l = absurd (omega (arith, l))
rising before all (g ∷ gs) h i j d le l = rising_from before all g gs h (rising g.end all gs h.1) i j d le l

-- none of the first groups goes beyond a number
abbrev pub AreBefore : List Group → ℕ → ℕ → Type 0
AreBefore gs place number = (j : ℕ) (d : Group) → j < place → (get_or gs j d).end ≤ number

pub some_group : (before all number place : ℕ) (gs : List Group) → AreEnds before gs all → before ≤ number → number < all → AreBefore gs place number → place < length gs
some_group before all number place [] h le l past = absurd (let e = h in omega (arith, e, le, l))
some_group before all number zero (g ∷ gs) h le l past = omega arith
some_group before all number (suc place) (g ∷ gs) h le l past =
    let rest = some_group g.end all number place gs h.1 (past 0 g (omega arith)) l (λ j d m. past (suc j) d (omega (arith, m))) in omega (arith, rest)

-- what stands in a group at a number
pub record IsIn (g : Group) (number : ℕ) (o : Option Constraint) : Type 0 where
  pub place : ℕ
  pub is : place + (g.end - number) ≡ length (items_in g)
  pub at : o ≡ slice_get (items_in g) place

pub found : (before all number place i : ℕ) (gs : List Group) (g : Group) (cs : List Constraint) → AreEnds before gs all → number ≡ before + i → AreBefore gs place number → place < length gs → g ≡ get_or gs place g → number < g.end
    → IsIn g number (slice_get (flat_map items_in gs ++ cs) i)
found before all number place i [] g cs h from past l is below = absurd (omega (arith, l))
found before all number zero i (x ∷ gs) g cs h from past l is below =
    let end : g.end ≡ before + length (items_in g) = subst (λ (y : Group). y.end ≡ before + length (items_in y)) (sym is) h.0 in
    record {
      place = i;
      is = omega (arith, end, from, below);
      at =
          ap (λ (y : Group). slice_get ((items_in y ++ flat_map items_in gs) ++ cs) i) (sym is) ∙ ap (λ (l : List Constraint). slice_get l i) (append_assoc (items_in g) (flat_map items_in gs) cs)
          ∙ at_front (items_in g) (flat_map items_in gs ++ cs) i (omega (arith, end, from, below));
    }
found before all number (suc place) i (x ∷ gs) g cs h from past l is below =
    let far = past 0 x (omega arith) in
    let end = h.0 in
    let j = number - x.end in
    let rest = found x.end all number place j gs g cs h.1 (omega (arith, far)) (λ k d m. past (suc k) d (omega (arith, m))) (omega (arith, l)) is below in
    let is_behind : i ≡ length (items_in x) + j = omega (arith, end, far, from) in
    record {
      place = rest.place;
      is = rest.is;
      at =
          ap (λ (l : List Constraint). slice_get l i) (append_assoc (items_in x) (flat_map items_in gs) cs) ∙ ap (λ k. slice_get (items_in x ++ (flat_map items_in gs ++ cs)) k) is_behind
          ∙ at_back (items_in x) (flat_map items_in gs ++ cs) j ∙ rest.at;
    }

pub below_of : (gs : List Group) (number place : ℕ) (g : Group) → IsPlaceOf gs number place → g ≡ get_or gs place g → number < g.end
below_of gs number place g p is = subst (λ (x : Group). number < x.end) (sym is) (p.beyond g)

pub in_place : (all number place : ℕ) (gs : List Group) (g : Group) (cs : List Constraint) → AreEnds 0 gs all → IsPlaceOf gs number place → g ≡ get_or gs place g → IsIn g number (slice_get (flat_map items_in gs ++ cs) number)
in_place all number place gs g cs h p is = found 0 all number place number gs g cs h (omega arith) p.before p.inside is (below_of gs number place g p is)

pub at_written : (all number : ℕ) (gs : List Group) (cs : List Constraint) (c : Constraint) → AreEnds 0 gs all → all ≤ number → slice_get cs (number - all) ≡ Some c → slice_get (flat_map items_in gs ++ cs) number ≡ Some c
at_written all number gs cs c h le at =
    let is : number ≡ length (flat_map items_in gs) + (number - all) = (let count = counted 0 all gs h in omega (arith, count, le)) in
    ap (λ n. slice_get (flat_map items_in gs ++ cs) n) is ∙ at_back (flat_map items_in gs) cs (number - all) ∙ at

-- ---- in a group

get_map : {X Y : Type 0} (f : X → Y) (xs : List X) (i : ℕ) (x : X) → slice_get xs i ≡ Some x → slice_get (map f xs) i ≡ Some (f x)
get_map f [] i x at = absurd (cc (at))
get_map f (y ∷ ys) zero x at = ap (λ z. Some (f z)) (some_is y x at)
get_map f (y ∷ ys) (suc i) x at = get_map f ys i x at

pub at_element : (g : Group) (i j : ℕ) (t : Term) → i ≡ length g.written + j → slice_get g.terms j ≡ Some t → slice_get (items_in g) i ≡ Some (within g.set t)
at_element g i j t is at =
    ap (λ n. slice_get (items_in g) n) is ∙ at_back g.written (map (within g.set) g.terms) j ∙ get_map (within g.set) g.terms j t at

pub at_in_written : (g : Group) (i j : ℕ) (c : Constraint) → i ≡ j → j < length g.written → slice_get g.written j ≡ Some c → slice_get (items_in g) i ≡ Some c
at_in_written g i j c is l at = ap (λ n. slice_get (items_in g) n) is ∙ at_front g.written (map (within g.set) g.terms) j l ∙ at

pub read_at : {X : Type 0} (xs : List X) (i : ℕ) (d : X) → i < length xs → slice_get xs i ≡ Some (get_or xs i d)
read_at [] i d l = absurd (omega (arith, l))
read_at (x ∷ xs) zero d l = refl
read_at (x ∷ xs) (suc i) d l = read_at xs i d (omega (arith, l))

pub in_group : (g : Group) → length (items_in g) ≡ length g.written + length g.terms
in_group g = length-append g.written (map (within g.set) g.terms) ∙ ap (λ n. length g.written + n) (length-map g.terms (within g.set))

-- ---- two lists, place by place

one_more : (xs ys : List Constraint) (i : ℕ) (x y : Constraint) → slice_get xs i ≡ Some x → slice_get ys i ≡ Some y → x ≡ y → take i xs ≡ take i ys → take (suc i) xs ≡ take (suc i) ys
one_more [] ys i x y p q e so_far = absurd (cc (p))
one_more (a ∷ xs) [] i x y p q e so_far = absurd (cc (q))
one_more (a ∷ xs) (b ∷ ys) zero x y p q e so_far = ap (λ z. z ∷ []) (some_is a x p ∙ e ∙ sym (some_is b y q))
one_more (a ∷ xs) (b ∷ ys) (suc i) x y p q e so_far =
    let heads : a ≡ b = cc (so_far) in let tails : take i xs ≡ take i ys = cc (so_far) in
    ap₂ (λ z zs. z ∷ zs) heads (one_more xs ys i x y p q e tails)

pub same_more : (xs ys : List Constraint) (i : ℕ) (x y : Constraint) → slice_get xs i ≡ Some x → slice_get ys i ≡ Some y → x ≡ y → take i xs ≡ take i ys → take (i + 1) xs ≡ take (i + 1) ys
same_more xs ys i x y p q e so_far = rw add-one (one_more xs ys i x y p q e so_far)

pub differ_at : (xs ys : List Constraint) (i : ℕ) (x y : Constraint) → slice_get xs i ≡ Some x → slice_get ys i ≡ Some y → xs ≡ ys → x ≡ y
differ_at xs ys i x y p q e = some_is x y (sym p ∙ ap (λ (l : List Constraint). slice_get l i) e ∙ q)
