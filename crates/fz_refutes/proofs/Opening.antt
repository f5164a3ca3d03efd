-- The variables of which several numbers are left: how many choices they have, and which they are.
use Rattle.std.proofs.Common.{◌≡◌, ◌⊎◌, inl, inr, ℕ, zero, suc, ◌*◌, ◌<◌, ◌≤◌, Bool, true, false, List, [], ◌∷◌, ◌++◌, refl, sym, ap, subst, ◌∙◌, arith, length}
use Rattle.std.specs.Prelude.{ℤ, pos, ◌==◌, ◌||◌, nat_lt, if◌then◌else◌}
use Rattle.std.specs.List.{AllByRecursion, list_any}
use Rattle.std.proofs.lemmas.Bool.{cases_eq, eqb-true, lt-ltb, ltb-true}
use Rattle.std.proofs.lemmas.Nat.{mul-le}
use Rattle.std.proofs.Math.Nat.{mul_assoc}
use Rattle.fz_sets.specs.Sets.{set_size, single}
use Rattle.fz_sets.proofs.Sizes.{size_of_one}
use Rattle.fz_refutes.specs.Boxes.{set_at}
use Rattle.fz_refutes.specs.Refuted.{choices_of, open_after, with_open}

-- ---- how many choices

one_times : (n : ℕ) → n * 1 ≡ 1 * n
one_times n = omega arith

le_refl : (n : ℕ) → n ≤ n
le_refl n = omega arith

le_trans : (a b c : ℕ) → a ≤ b → b ≤ c → a ≤ c
le_trans a b c p q = omega (arith, p, q)

pub not_more : (n : ℕ) → n ≡ 1 → 1 < n → ⊥
not_more n one more = omega (arith, one, more)

choices_more : (box : List (List (ℤ × ℤ))) (xs : List ℕ) (v : ℕ) → choices_of box (xs ++ v ∷ []) ≡ choices_of box xs * set_size (set_at box v)
choices_more box [] v = one_times (set_size (set_at box v))
choices_more box (x ∷ xs) v =
    ap (λ (n : ℕ). set_size (set_at box x) * n) (choices_more box xs v) ∙ sym (mul_assoc (set_size (set_at box x)) (choices_of box xs) (set_size (set_at box v)))

no_fewer : (c s : ℕ) → 1 < s → c ≤ c * s
no_fewer c s more = let least = mul-le c 1 c s (omega arith) (omega (arith, more)) in omega (arith, least)

-- a variable that was looked at leaves no fewer choices
grown : (box : List (List (ℤ × ℤ))) (found : List ℕ) (v : ℕ) (more among : Bool) → (more ≡ true → 1 < set_size (set_at box v))
    → choices_of box found ≤ choices_of box (if more then (if among then found else found ++ v ∷ []) else found)
grown box found v false among big = le_refl (choices_of box found)
grown box found v true true big = le_refl (choices_of box found)
grown box found v true false big =
    subst (λ (n : ℕ). choices_of box found ≤ n) (sym (choices_more box found v)) (no_fewer (choices_of box found) (set_size (set_at box v)) (big refl))

pub added : (box : List (List (ℤ × ℤ))) (old new : List ℕ) (v c s : ℕ) → new ≡ old ++ v ∷ [] → c ≡ choices_of box old → s ≡ set_size (set_at box v) → c * s ≡ choices_of box new
added box old new v c s is counted size =
    ap (λ (n : ℕ). n * s) counted ∙ ap (λ (n : ℕ). choices_of box old * n) size ∙ sym (choices_more box old v) ∙ ap (λ (us : List ℕ). choices_of box us) (sym is)

pub more_choices : (box : List (List (ℤ × ℤ))) (found vs : List ℕ) → choices_of box found ≤ choices_of box (open_after box found vs)
more_choices box found [] = le_refl (choices_of box found)
more_choices box found (v ∷ vs) =
    let one = grown box found v (nat_lt 1 (set_size (set_at box v))) (list_any (λ w. w == v) found) (ltb-true 1 (set_size (set_at box v))) in
    le_trans (choices_of box found) (choices_of box (with_open box found v)) (choices_of box (open_after box (with_open box found v) vs)) one (more_choices box (with_open box found v) vs)

-- ---- which they are

abbrev pub Among : List ℕ → ℕ → Type 0
Among [] v = ⊥
Among (w ∷ ws) v = (w ≡ v) ⊎ Among ws v

among_or_not : (ws : List ℕ) (v : ℕ) → Among ws v ⊎ (Among ws v → ⊥)
among_or_not [] v = inr (λ i. i)
among_or_not (w ∷ ws) v = elim (cases_eq w v) [
  | inl e ↦ inl (inl e)
  | inr ne ↦ elim (among_or_not ws v) [ inl i ↦ inl (inr i) | inr out ↦ inr (λ j. elim j [ inl e ↦ ne e | inr i ↦ out i ]) ]
]

pub by_among : {P : Type 0} (ws : List ℕ) (v : ℕ) → (Among ws v → P) → ((Among ws v → ⊥) → P) → P
by_among ws v inside outside = elim (among_or_not ws v) [ inl i ↦ inside i | inr n ↦ outside n ]

before : (xs ys : List ℕ) (v : ℕ) → Among xs v → Among (xs ++ ys) v
before [] ys v i = absurd i
before (x ∷ xs) ys v (inl e) = inl e
before (x ∷ xs) ys v (inr i) = inr (before xs ys v i)

last : (xs : List ℕ) (v : ℕ) → Among (xs ++ v ∷ []) v
last [] v = inl refl
last (x ∷ xs) v = inr (last xs v)

same_of : (x v : ℕ) → (x == v) ≡ true → x ≡ v
same_of x v is = eqb-true x v is

or_else : (a b : Bool) → (a || b) ≡ true → a ≡ false → b ≡ true
or_else true b is none = absurd (cc (none))
or_else false b is none = is

found_is : (found : List ℕ) (v : ℕ) → list_any (λ w. w == v) found ≡ true → Among found v
found_is [] v is = absurd (cc (is))
found_is (x ∷ xs) v is = elim (x == v) as (λ b. (x == v) ≡ b → Among (x ∷ xs) v) [
  | true ↦ λ e. inl (same_of x v e)
  | false ↦ λ e. inr (found_is xs v (or_else (x == v) (list_any (λ w. w == v) xs) is e))
] refl

-- what was found stays, and what is looked at is found where several numbers are left of it
stays_with : (box : List (List (ℤ × ℤ))) (found : List ℕ) (v u : ℕ) (more among : Bool) → Among found u → Among (if more then (if among then found else found ++ v ∷ []) else found) u
stays_with box found v u false among i = i
stays_with box found v u true true i = i
stays_with box found v u true false i = before found (v ∷ []) u i

stays : (box : List (List (ℤ × ℤ))) (found vs : List ℕ) (u : ℕ) → Among found u → Among (open_after box found vs) u
stays box found [] u i = i
stays box found (v ∷ vs) u i =
    stays box (with_open box found v) vs u (stays_with box found v u (nat_lt 1 (set_size (set_at box v))) (list_any (λ w. w == v) found) i)

comes_with : (found : List ℕ) (v : ℕ) (more among : Bool) → more ≡ true → (among ≡ true → Among found v) → Among (if more then (if among then found else found ++ v ∷ []) else found) v
comes_with found v false among is there = absurd (cc (is))
comes_with found v true true is there = there refl
comes_with found v true false is there = last found v

comes : (box : List (List (ℤ × ℤ))) (found : List ℕ) (v : ℕ) → 1 < set_size (set_at box v) → Among (with_open box found v) v
comes box found v big =
    comes_with found v (nat_lt 1 (set_size (set_at box v))) (list_any (λ w. w == v) found) (lt-ltb 1 (set_size (set_at box v)) big) (found_is found v)

pub is_open : (box : List (List (ℤ × ℤ))) (found vs : List ℕ) (v : ℕ) → 1 < set_size (set_at box v) → Among vs v → Among (open_after box found vs) v
is_open box found [] v big i = absurd i
is_open box found (w ∷ ws) v big (inl e) =
    stays box (with_open box found w) ws v (subst (λ (u : ℕ). Among (with_open box found w) u) e (comes box found w (subst (λ (u : ℕ). 1 < set_size (set_at box u)) (sym e) big)))
is_open box found (w ∷ ws) v big (inr i) = is_open box (with_open box found w) ws v big i

-- nothing else is found
only_with : (found : List ℕ) (v u : ℕ) (more among : Bool) → Among (if more then (if among then found else found ++ v ∷ []) else found) u → Among found u ⊎ (v ≡ u)
only_with found v u false among i = inl i
only_with found v u true true i = inl i
only_with found v u true false i = first_or_last found i
  where
    first_or_last : (xs : List ℕ) → Among (xs ++ v ∷ []) u → Among xs u ⊎ (v ≡ u)
    first_or_last [] (inl e) = inr e
    first_or_last [] (inr j) = absurd j
    first_or_last (x ∷ xs) (inl e) = inl (inl e)
    first_or_last (x ∷ xs) (inr j) = elim (first_or_last xs j) [ inl k ↦ inl (inr k) | inr e ↦ inr e ]

pub only_open : (box : List (List (ℤ × ℤ))) (found vs : List ℕ) (u : ℕ) → Among (open_after box found vs) u → Among found u ⊎ Among vs u
only_open box found [] u i = inl i
only_open box found (v ∷ vs) u i = elim (only_open box (with_open box found v) vs u i) [
  | inl j ↦ elim (only_with found v u (nat_lt 1 (set_size (set_at box v))) (list_any (λ w. w == v) found) j) [ inl k ↦ inl k | inr e ↦ inr (inl e) ]
  | inr j ↦ inr (inr j)
]

-- ---- each has several numbers

abbrev pub AreOpen : List (List (ℤ × ℤ)) → List ℕ → Type 0
AreOpen box vs = AllByRecursion (λ v. 1 < set_size (set_at box v)) vs

open_more : (box : List (List (ℤ × ℤ))) (found : List ℕ) (v : ℕ) → AreOpen box found → 1 < set_size (set_at box v) → AreOpen box (found ++ v ∷ [])
open_more box [] v all big = (big, tt)
open_more box (x ∷ xs) v all big = (all.0, open_more box xs v all.1 big)

open_with : (box : List (List (ℤ × ℤ))) (found : List ℕ) (v : ℕ) (more among : Bool) → (more ≡ true → 1 < set_size (set_at box v)) → AreOpen box found
    → AreOpen box (if more then (if among then found else found ++ v ∷ []) else found)
open_with box found v false among big all = all
open_with box found v true true big all = all
open_with box found v true false big all = open_more box found v all (big refl)

pub are_open : (box : List (List (ℤ × ℤ))) (found vs : List ℕ) → AreOpen box found → AreOpen box (open_after box found vs)
are_open box found [] all = all
are_open box found (v ∷ vs) all =
    are_open box (with_open box found v) vs (open_with box found v (nat_lt 1 (set_size (set_at box v))) (list_any (λ w. w == v) found)
    (ltb-true 1 (set_size (set_at box v))) all)

-- a variable that there isn't has one number
pub open_within : (box : List (List (ℤ × ℤ))) (v : ℕ) → 1 < set_size (set_at box v) → v < length box
open_within [] v big = absurd (not_more (set_size (single (pos 0))) (size_of_one (pos 0)) big)
open_within (d ∷ ds) zero big = omega arith
open_within (d ∷ ds) (suc v) big = let below = open_within ds v big in omega (arith, below)

pub all_within : (box : List (List (ℤ × ℤ))) (vs : List ℕ) → AreOpen box vs → AllByRecursion (λ v. v < length box) vs
all_within box [] all = tt
all_within box (v ∷ vs) all = (open_within box v all.0, all_within box vs all.1)

pub below_all : (box : List (List (ℤ × ℤ))) (vs several : List ℕ) → several ≡ open_after box [] vs → AllByRecursion (λ v. v < length box) several
below_all box vs several is = subst (λ (us : List ℕ). AllByRecursion (λ v. v < length box) us) (sym is) (all_within box (open_after box [] vs) (are_open box [] vs tt))
