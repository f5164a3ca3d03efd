-- The halves of a split have fewer assignments than the box.
use Rattle.std.proofs.Common.{◌≡◌, ℕ, zero, suc, ◌+◌, ◌-◌, ◌*◌, ◌<◌, ◌≤◌, ℤ, pos, negsuc, ◌+ℤ◌, ◌-ℤ◌, ◌≤ℤ◌, ◌<ℤ◌, inl, inr, List, [], ◌∷◌, ◌++◌, refl, sym, ap, subst, ◌∙◌, arith, length, set, true, false, Bool, cond}
use Rattle.std.specs.Prelude.{Option, Some, None, nat_abs, nat_lt}
use Rattle.std.specs.Int.{int_min, int_max, int_div_euclid}
use Rattle.std.proofs.lemmas.Bool.{ltb-true}
use Rattle.std.proofs.lemmas.Int.{ints, by_lt_z}
use Rattle.std.proofs.lemmas.Nat.{mul-le}
use Rattle.std.proofs.Math.Nat.{add-mul, mul-add}
use Rattle.fz_sets.specs.Sets.{AreRanges, IsInSet, interval, set_size}
use Rattle.fz_sets.proofs.Sizes.{some_size}
use Rattle.fz_dom.specs.Shape.{least, greatest}
use Rattle.fz_dom.proofs.Ranges.{AreRanges-head, AreRanges-tail, least_is_in, greatest_is_in, size_bound}
use Rattle.fz_refutes.specs.Boxes.{AreSets, HasEmpty, set_at, up_to, above, low_half, high_half}
use Rattle.fz_refutes.specs.Trees.{IsEmpty, Fails, IsBehind, Splits, IsOpen, IsFirstOpen, IsPicked, goal_variable, middle}
use Rattle.fz_refutes.specs.Makers.{FitsShorten, box_size, most_lines_of}
use Rattle.fz_refutes.proofs.Halves.{whole, none, up_to_of, above_of}
use Rattle.fz_refutes.proofs.Hulls.{some_length}
use Rattle.fz_refutes.proofs.Insides.{ranges_of}
use Rattle.fz_refutes.proofs.Opening.{open_within}

-- ---- the numbers of a set lie in its halves

size_joined : (xs ys : List (ℤ × ℤ)) → set_size (xs ++ ys) ≡ set_size xs + set_size ys
size_joined [] ys = omega arith
size_joined (x ∷ xs) ys = let rest = size_joined xs ys in omega (arith, rest)

interval_some : (l u : ℤ) → l ≤ℤ u → set_size (interval l u) ≡ nat_abs (u -ℤ l) + 1
interval_some l u le = ap set_size (whole l u le) ∙ omega arith

interval_none : (l u : ℤ) → u <ℤ l → set_size (interval l u) ≡ 0
interval_none l u lt = ap set_size (none l u lt)

min_first : (a b : ℤ) → a ≤ℤ b → int_min a b ≡ a
min_first a b le = grind (arith, ints)

min_second : (a b : ℤ) → b <ℤ a → int_min a b ≡ b
min_second a b lt = grind (arith, ints)

max_first : (a b : ℤ) → b ≤ℤ a → int_max a b ≡ a
max_first a b le = grind (arith, ints)

max_second : (a b : ℤ) → a <ℤ b → int_max a b ≡ b
max_second a b lt = grind (arith, ints)

range_halves : (n l u : ℤ) → l ≤ℤ u → set_size (interval l (int_min u n)) + set_size (interval (int_max l (n +ℤ pos 1)) u) ≡ nat_abs (u -ℤ l) + 1
range_halves n l u rises =
    by_lt_z n l
    (λ under.
    let low = ap (λ (x : ℤ). set_size (interval l x)) (min_second u n (omega (arith, ints, rises, under))) ∙ interval_none l n under in
    let high = ap (λ (x : ℤ). set_size (interval x u)) (max_first l (n +ℤ pos 1) (omega (arith, ints, under))) ∙ interval_some l u rises in
    omega (arith, low, high))
    (λ from. by_lt_z n u
    (λ between.
    let low = ap (λ (x : ℤ). set_size (interval l x)) (min_second u n between) ∙ interval_some l n from in
    let high = ap (λ (x : ℤ). set_size (interval x u)) (max_second l (n +ℤ pos 1) (omega (arith, ints, from))) ∙ interval_some (n +ℤ pos 1) u (omega (arith, ints, between)) in
    omega (arith, ints, low, high, from, between))
    (λ over.
    let low = ap (λ (x : ℤ). set_size (interval l x)) (min_first u n over) ∙ interval_some l u rises in
    let high = ap (λ (x : ℤ). set_size (interval x u)) (max_second l (n +ℤ pos 1) (omega (arith, ints, from))) ∙ interval_none (n +ℤ pos 1) u (omega (arith, ints, over)) in
    omega (arith, low, high)))

pub half_sizes : (n : ℤ) (d : List (ℤ × ℤ)) → AreRanges d → set_size (up_to n d) + set_size (above n d) ≡ set_size d
half_sizes n [] are = refl
half_sizes n (r ∷ rs) are =
    let first = range_halves n r.0 r.1 (AreRanges-head r rs are) in
    let rest = half_sizes n rs (AreRanges-tail r rs are) in
    let low = size_joined (interval r.0 (int_min r.1 n)) (up_to n rs) in
    let high = size_joined (interval (int_max r.0 (n +ℤ pos 1)) r.1) (above n rs) in
    omega (arith, first, rest, low, high)

-- ---- and neither half at the middle is empty

middle_between : (sum low high : ℤ) → sum ≡ low +ℤ high → low <ℤ high → (low ≤ℤ int_div_euclid sum (pos 2)) × (int_div_euclid sum (pos 2) <ℤ high)
middle_between (pos n) low high is apart = (omega (arith, ints, is, apart), omega (arith, ints, is, apart))
middle_between (negsuc n) low high is apart = (omega (arith, ints, is, apart), omega (arith, ints, is, apart))

pub record HasMiddle (d : List (ℤ × ℤ)) : Type 0 where
  pub low : IsInSet (up_to (middle d) d) (least d)
  pub high : IsInSet (above (middle d) d) (greatest d)

pub has_middle : (d : List (ℤ × ℤ)) → AreRanges d → 2 ≤ set_size d → HasMiddle d
has_middle [] are several = absurd (omega (arith, several))
has_middle (r ∷ rs) are several =
    let d : List (ℤ × ℤ) = r ∷ rs in
    let size = size_bound r rs are in
    let between = middle_between (least d +ℤ greatest d) (least d) (greatest d) refl (omega (arith, ints, several, size)) in
    record {
      low = up_to_of (middle d) d (least d) (least_is_in r rs are) between.0;
      high = above_of (middle d) d (greatest d) (greatest_is_in r rs are) between.1;
    }

not_empty : (d : List (ℤ × ℤ)) (x : ℤ) → IsInSet d x → d ≡ [] → ⊥
not_empty d x i e = subst (λ (s : List (ℤ × ℤ)). IsInSet s x) e i

-- ---- boxes

pub some_assignment : (box : List (List (ℤ × ℤ))) → (HasEmpty box → ⊥) → 1 ≤ box_size box
some_assignment [] full = omega arith
some_assignment (d ∷ ds) full =
    let here = some_size d (some_length d (λ e. full (inl e))) in
    let rest = some_assignment ds (λ e. full (inr e)) in
    let both = mul-le 1 1 (set_size d) (box_size ds) (omega (arith, here)) rest in
    omega (arith, both)

full_after : (box : List (List (ℤ × ℤ))) (v : ℕ) (d : List (ℤ × ℤ)) → (HasEmpty box → ⊥) → (d ≡ [] → ⊥) → HasEmpty (set box v d) → ⊥
full_after [] v d full some e = e
full_after (s ∷ ss) zero d full some (inl e) = some e
full_after (s ∷ ss) zero d full some (inr e) = full (inr e)
full_after (s ∷ ss) (suc v) d full some (inl e) = full (inl e)
full_after (s ∷ ss) (suc v) d full some (inr e) = full_after ss v d (λ f. full (inr f)) some e

size_halves : (box : List (List (ℤ × ℤ))) (v : ℕ) (low high : List (ℤ × ℤ)) → v < length box → set_size low + set_size high ≡ set_size (set_at box v)
    → box_size (set box v low) + box_size (set box v high) ≡ box_size box
size_halves [] v low high within is = absurd (omega (arith, within))
size_halves (s ∷ ss) zero low high within is = sym (add-mul (set_size low) (set_size high) (box_size ss)) ∙ ap (λ (k : ℕ). k * box_size ss) is
size_halves (s ∷ ss) (suc v) low high within is =
    sym (mul-add (set_size s) (box_size (set ss v low)) (box_size (set ss v high))) ∙ ap (λ (k : ℕ). set_size s * k) (size_halves ss v low high (omega (arith, within)) is)

pub record AreSmaller (box low high : List (List (ℤ × ℤ))) : Type 0 where
  pub both : box_size low + box_size high ≡ box_size box
  pub some_low : 1 ≤ box_size low
  pub some_high : 1 ≤ box_size high

pub are_smaller : (box : List (List (ℤ × ℤ))) (v : ℕ) (n : ℤ) → AreSets box → (HasEmpty box → ⊥) → IsOpen box v → n ≡ middle (set_at box v) → AreSmaller box (low_half v n box) (high_half v n box)
are_smaller box v n are full several is =
    let d = set_at box v in
    let ranges = ranges_of box v are in
    let ends = has_middle d ranges several in
    subst (λ (k : ℤ). AreSmaller box (low_half v k box) (high_half v k box)) (sym is) (record {
      both = size_halves box v (up_to (middle d) d) (above (middle d) d) (open_within box v (omega (arith, several))) (half_sizes (middle d) d ranges);
      some_low = some_assignment (low_half v (middle d) box) (full_after box v (up_to (middle d) d) full (not_empty (up_to (middle d) d) (least d) ends.low));
      some_high = some_assignment (high_half v (middle d) box) (full_after box v (above (middle d) d) full (not_empty (above (middle d) d) (greatest d) ends.high));
    })

-- ---- a split is at an open variable

picked_by : (test : Bool) (box : List (List (ℤ × ℤ))) (goal v : ℕ) → nat_lt 1 (set_size (set_at box goal)) ≡ test → cond test (v ≡ goal) (IsFirstOpen box v) → IsOpen box v
picked_by true box goal v is picked = subst (IsOpen box) (sym picked) (let more = ltb-true 1 (set_size (set_at box goal)) is in omega (arith, more))
picked_by false box goal v is picked = picked.open_now

pub picked_open : (goal : Option ℕ) (box : List (List (ℤ × ℤ))) (v : ℕ) → IsPicked goal box v → IsOpen box v
picked_open None box v picked = picked.open_now
picked_open (Some g) box v picked = picked_by (nat_lt 1 (set_size (set_at box g))) box g v refl picked

-- ---- lines

fewer_lines : (whole low high rest : ℕ) → low + high ≡ whole → 1 ≤ low → 1 ≤ high → ((2 * low - 2) + 1) + (((2 * high - 2) + 1) + rest) < ((2 * whole - 2) + 1) + rest
fewer_lines whole low high rest is some_low some_high = omega (arith, is, some_low, some_high)

behind_leaf : (k rest : ℕ) → rest < (k + 1) + rest
behind_leaf k rest = omega arith

pub fits_shorten : FitsShorten
fits_shorten m head box boxes IsEmpty are fits = behind_leaf (2 * box_size box - 2) (most_lines_of boxes)
fits_shorten m head box boxes (Fails c) are fits = behind_leaf (2 * box_size box - 2) (most_lines_of boxes)
fits_shorten m head box boxes IsBehind are fits = behind_leaf (2 * box_size box - 2) (most_lines_of boxes)
fits_shorten m head box boxes (Splits v n) are fits =
    let smaller = are_smaller box v n are fits.full (picked_open (goal_variable m.goal) box v fits.picked) fits.number in
    fewer_lines (box_size box) (box_size (low_half v n box)) (box_size (high_half v n box)) (most_lines_of boxes) smaller.both smaller.some_low smaller.some_high
