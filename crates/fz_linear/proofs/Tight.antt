-- One term is narrowed by the slack.
use Rattle.std.proofs.Common.{◌≡◌, ℕ, zero, suc, ◌<◌, ◌≤◌, ◌*◌, List, refl, sym, subst, arith, length}
use Rattle.std.specs.Prelude.{nat_abs, ℤ, pos, negsuc, ◌+ℤ◌, ◌-ℤ◌, ◌*ℤ◌, ◌≤ℤ◌}
use Rattle.std.proofs.lemmas.Int.{ints}
use Rattle.fz_sets.specs.Sets.{IsInSet}
use Rattle.fz_dom.specs.Shape.{least, greatest}
use Rattle.fz_dom.specs.declared.change.Change.{Change}
use Rattle.fz_dom.specs.declared.change.Change.TheVariants.{Same, Changed, Wiped}
use Rattle.fz_spec.specs.declared.term.Term.{Term}
use Rattle.fz_spec.specs.declared.term.Term.TheVariants.{Num, Var}
use Rattle.fz_spec.specs.Constraints.{term_value}
use Rattle.fz_strength.specs.Domains.{term_set, IsTermOf}
use Rattle.fz_strength.specs.Sums.{least_product, greatest_product}
use Rattle.fz_prop.specs.Stores.{Stored, Shrinks, IsTermChange}
use Rattle.fz_prop.proofs.TermChanges.{term_within, within_kept, none_kept, falls_of}
use Rattle.fz_strength.proofs.Terms.{is_single}
use Rattle.fz_linear.specs.declared.side.Side.{Side}
use Rattle.fz_linear.specs.declared.side.Side.TheVariants.{Above, Below}
use Rattle.fz_linear.specs.Sides.{seen_from}
use Rattle.fz_shift.specs.Spans.{IsSpanned}
use Rattle.fz_linear.specs.Passes.{IsStep, IsTightened}
use Rattle.fz_shift.proofs.Spans.{away_up, away_down}

pub seen_size : (side : Side) (k : ℤ) → nat_abs (seen_from side k) ≡ nat_abs k
seen_size Above k = refl
seen_size Below (pos zero) = refl
seen_size Below (pos (suc n)) = refl
seen_size Below (negsuc n) = refl

-- where nothing left, all numbers have the property
all_keep : (t : Term) (P : ℤ → Type 0) (r s : Stored) (x : ℤ) → IsTermChange Same t P r s → IsInSet (term_set r.doms t) x → P x
all_keep (Var v) P r s x h is = h.1 x is
all_keep (Num n) P r s x h is = subst P (sym (is_single x n is)) h.1

distance_of : (z x y : ℤ) → z ≡ (x -ℤ y) → y ≤ℤ x → (e : ℕ) × (x ≡ (y +ℤ pos e))
distance_of (pos e) x y is le = (e, omega (arith, ints, is))
distance_of (negsuc e) x y is le = absurd (omega (arith, ints, is, le))

distance : (x y : ℤ) → y ≤ℤ x → (e : ℕ) × (x ≡ (y +ℤ pos e))
distance x y le = distance_of (x -ℤ y) x y refl le

-- ---- the products of a set that is so wide

wide_up : (n width : ℕ) (d : List (ℤ × ℤ)) → greatest d ≡ (least d +ℤ pos width) → greatest_product (pos n) d ≡ (least_product (pos n) d +ℤ pos (n * width))
wide_up n width d e = away_up n width (greatest d) (least d) e

wide_down : (n width : ℕ) (d : List (ℤ × ℤ)) → greatest d ≡ (least d +ℤ pos width) → greatest_product (negsuc n) d ≡ (least_product (negsuc n) d +ℤ pos (suc n * width))
wide_down n width d e = away_down n width (least d) (greatest d) (omega (arith, ints, e))

pub narrow_enough : (k : ℤ) (size width slack : ℕ) (d : List (ℤ × ℤ)) → size ≡ nat_abs k → greatest d ≡ (least d +ℤ pos width) → size * width ≤ slack
    → greatest_product k d ≤ℤ (least_product k d +ℤ pos slack)
narrow_enough (pos n) size width slack d is wide small = let e = wide_up n width d wide in omega (arith, ints, e, subst (λ (m : ℕ). m * width ≤ slack) is small)
narrow_enough (negsuc n) size width slack d is wide small = let e = wide_down n width d wide in omega (arith, ints, e, subst (λ (m : ℕ). m * width ≤ slack) is small)

pub still : (k : ℤ) (t : Term) (size width slack : ℕ) (s : Stored) → size ≡ nat_abs k → IsSpanned (term_set s.doms t) → greatest (term_set s.doms t) ≡ (least (term_set s.doms t) +ℤ pos width)
    → size * width ≤ slack → IsTightened Same k t (pos slack) s s
still k t size width slack s is spanned wide small = record {
  spanned = spanned;
  kept = λ a within near. within;
  step = (refl, narrow_enough k size width slack (term_set s.doms t) is wide small);
}

-- ---- a term that is to be low

near_low : (k : ℤ) (d : List (ℤ × ℤ)) (size slack r : ℕ) (x high : ℤ) → pos 0 ≤ℤ k → size ≡ nat_abs k → IsSpanned d → ((e : ℕ) → size * e ≤ slack → e ≤ r)
    → high ≡ (least d +ℤ pos r) → IsInSet d x → (k *ℤ x) ≤ℤ (least_product k d +ℤ pos slack) → x ≤ℤ high
near_low (negsuc n) d size slack r x high rising is spanned most at is_in near = absurd (omega (arith, ints, rising))
near_low (pos n) d size slack r x high rising is spanned most at is_in near =
    let far = distance x (least d) (spanned.above x is_in) in
    let away = away_up n far.0 x (least d) far.1 in
    let small : n * far.0 ≤ slack = omega (arith, ints, near, away) in
    let reached : far.0 ≤ r = most far.0 (subst (λ (m : ℕ). m * far.0 ≤ slack) (sym is) small) in
    omega (arith, ints, far.1, reached, at)

low_step : (change : Change) (k : ℤ) (t : Term) (width slack r : ℕ) (high : ℤ) (s u : Stored) → IsSpanned (term_set s.doms t)
    → greatest (term_set s.doms t) ≡ (least (term_set s.doms t) +ℤ pos width) → r < width → high ≡ (least (term_set s.doms t) +ℤ pos r)
    → IsTermChange change t (λ x. x ≤ℤ high) s u → IsStep change k t (pos slack) s u
low_step Same k t width slack r high s u spanned wide short at h =
    let reached = all_keep t (λ x. x ≤ℤ high) s u (greatest (term_set s.doms t)) h spanned.high in
    absurd (omega (arith, ints, reached, wide, short, at))
low_step Changed k t width slack r high s u spanned wide short at h = falls_of t (λ x. x ≤ℤ high) s u h
low_step Wiped k t width slack r high s u spanned wide short at h =
    none_kept t (λ x. x ≤ℤ high) s u h (least (term_set s.doms t)) spanned.low (omega (arith, ints, at))

pub tightened_low : (change : Change) (k : ℤ) (t : Term) (size width slack r : ℕ) (high : ℤ) (s u : Stored) → pos 0 ≤ℤ k → size ≡ nat_abs k → IsTermOf (length s.doms) t
    → IsSpanned (term_set s.doms t) → greatest (term_set s.doms t) ≡ (least (term_set s.doms t) +ℤ pos width) → r < width → ((e : ℕ) → size * e ≤ slack → e ≤ r)
    → high ≡ (least (term_set s.doms t) +ℤ pos r) → Shrinks s u → IsTermChange change t (λ x. x ≤ℤ high) s u → IsTightened change k t (pos slack) s u
tightened_low change k t size width slack r high s u rising is is_t spanned wide short most at shrinks h = record {
  spanned = spanned;
  kept = λ a within near. within_kept change t (λ x. x ≤ℤ high) s u a h shrinks within
      (near_low k (term_set s.doms t) size slack r (term_value a t) high rising is spanned most at (term_within s.doms a t is_t within) near);
  step = low_step change k t width slack r high s u spanned wide short at h;
}

-- ---- a term that is to be high

near_high : (k : ℤ) (d : List (ℤ × ℤ)) (size slack r : ℕ) (x low : ℤ) → (pos 0 ≤ℤ k → ⊥) → size ≡ nat_abs k → IsSpanned d → ((e : ℕ) → size * e ≤ slack → e ≤ r)
    → low ≡ (greatest d -ℤ pos r) → IsInSet d x → (k *ℤ x) ≤ℤ (least_product k d +ℤ pos slack) → low ≤ℤ x
near_high (pos n) d size slack r x low falling is spanned most at is_in near = absurd (falling (omega (arith, ints)))
near_high (negsuc n) d size slack r x low falling is spanned most at is_in near =
    let far = distance (greatest d) x (spanned.below x is_in) in
    let away = away_down n far.0 x (greatest d) (omega (arith, ints, far.1)) in
    let small : suc n * far.0 ≤ slack = omega (arith, ints, near, away) in
    let reached : far.0 ≤ r = most far.0 (subst (λ (m : ℕ). m * far.0 ≤ slack) (sym is) small) in
    omega (arith, ints, far.1, reached, at)

high_step : (change : Change) (k : ℤ) (t : Term) (width slack r : ℕ) (low : ℤ) (s u : Stored) → IsSpanned (term_set s.doms t)
    → greatest (term_set s.doms t) ≡ (least (term_set s.doms t) +ℤ pos width) → r < width → low ≡ (greatest (term_set s.doms t) -ℤ pos r)
    → IsTermChange change t (λ x. low ≤ℤ x) s u → IsStep change k t (pos slack) s u
high_step Same k t width slack r low s u spanned wide short at h =
    let reached = all_keep t (λ x. low ≤ℤ x) s u (least (term_set s.doms t)) h spanned.low in
    absurd (omega (arith, ints, reached, wide, short, at))
high_step Changed k t width slack r low s u spanned wide short at h = falls_of t (λ x. low ≤ℤ x) s u h
high_step Wiped k t width slack r low s u spanned wide short at h =
    none_kept t (λ x. low ≤ℤ x) s u h (greatest (term_set s.doms t)) spanned.high (omega (arith, ints, at))

pub tightened_high : (change : Change) (k : ℤ) (t : Term) (size width slack r : ℕ) (low : ℤ) (s u : Stored) → (pos 0 ≤ℤ k → ⊥) → size ≡ nat_abs k → IsTermOf (length s.doms) t
    → IsSpanned (term_set s.doms t) → greatest (term_set s.doms t) ≡ (least (term_set s.doms t) +ℤ pos width) → r < width → ((e : ℕ) → size * e ≤ slack → e ≤ r)
    → low ≡ (greatest (term_set s.doms t) -ℤ pos r) → Shrinks s u → IsTermChange change t (λ x. low ≤ℤ x) s u → IsTightened change k t (pos slack) s u
tightened_high change k t size width slack r low s u falling is is_t spanned wide short most at shrinks h = record {
  spanned = spanned;
  kept = λ a within near. within_kept change t (λ x. low ≤ℤ x) s u a h shrinks within
      (near_high k (term_set s.doms t) size slack r (term_value a t) low falling is spanned most at (term_within s.doms a t is_t within) near);
  step = high_step change k t width slack r low s u spanned wide short at h;
}
