-- One alternative for each value of a set: they are a choice, and say which set it is.
use Rattle.std.proofs.Common.{◌≡◌, ℕ, zero, suc, ◌+◌, ◌-◌, ◌<◌, ◌≤◌, List, [], ◌∷◌, refl, sym, ap, subst, ◌∙◌, arith, Bool, true, false, cond, length, map, get_or, Option, Some, None, inl, inr, ◌↔◌}
use Rattle.std.specs.Prelude.{ℤ, pos, ◌+ℤ◌, ◌-ℤ◌, ◌≤ℤ◌, ◌<ℤ◌, IsTrue, nat_lt, nat_abs, count_by}
use Rattle.std.specs.Ordering.{int_eq}
use Rattle.std.specs.List.{AllByRecursion, slice_get, range_with_len, list_any}
use Rattle.std.proofs.lemmas.Bool.{ltb-true, ltb-false, lt-ltb, le-ltb, cond-true, cond-false}
use Rattle.std.proofs.lemmas.Bool.Decides.{Decides-int_eq}
use Rattle.std.proofs.lemmas.Int.{ints}
use Rattle.std.proofs.lemmas.List.FromFn.{length-map-range_with_len, get_or-map-range_with_len}
use Rattle.std.proofs.lemmas.List.Folds.{list_any_at}
use Rattle.fz_sets.specs.Sets.{AreRanges, AreOneSet, IsInSet, range_size, set_size}
use Rattle.fz_dom.proofs.Ranges.{AreRanges-head, AreRanges-tail, above_gap}
use Rattle.fz_tree.specs.declared.decision.Comparison.{Comparison}
use Rattle.fz_tree.specs.declared.decision.Comparison.TheVariants.{Equal, NotEqual, AtMost, Above}
use Rattle.fz_tree.specs.declared.decision.Decision.{Decision}
use Rattle.fz_tree.specs.Choice.{compares_if_there, meets, opposite, pair_of, IsChoice}
use Rattle.fz_tree.proofs.Counts.{one_if, count_cons}
use Rattle.fz_region.specs.Each.{value_at, value_is, each_of}

-- ---- the values of a set

value_at_range : (r : ℤ × ℤ) (rs : List (ℤ × ℤ)) (k : ℕ) (b : Bool) → nat_lt k (range_size r) ≡ b → r.0 ≤ℤ r.1 → (range_size r ≤ k → IsInSet rs (value_at rs (k - range_size r)))
    → IsInSet (r ∷ rs) (cond b (r.0 +ℤ pos k) (value_at rs (k - range_size r)))
value_at_range r rs k true is rises behind = inl (omega (arith, ints), omega (arith, ints, ltb-true k (range_size r) is, rises))
value_at_range r rs k false is rises behind = inr (behind (ltb-false k (range_size r) is))

pub value_in : (d : List (ℤ × ℤ)) (k : ℕ) → AreRanges d → k < set_size d → IsInSet d (value_at d k)
value_in [] k ranges h = absurd (omega (arith, h))
value_in (r ∷ rs) k ranges h =
    value_at_range r rs k (nat_lt k (range_size r)) refl (AreRanges-head r rs ranges) (λ past. value_in rs (k - range_size r) (AreRanges-tail r rs ranges) (omega (arith, h, past)))

-- each value of the set has a place
pub record HasPlace (d : List (ℤ × ℤ)) (x : ℤ) : Type 0 where
  pub place : ℕ
  pub within : place < set_size d
  pub is : value_at d place ≡ x

pub place_of : (d : List (ℤ × ℤ)) (x : ℤ) → IsInSet d x → HasPlace d x
place_of [] x h = absurd h
place_of (r ∷ rs) x (inl h) =
    let k = nat_abs (x -ℤ r.0) in
    let small : k < range_size r = omega (arith, ints, h.0, h.1) in
    let sum : r.0 +ℤ pos k ≡ x = omega (arith, ints, h.0, h.1) in
    record { place = k; within = omega (arith, small); is = cond-true (nat_lt k (range_size r)) (r.0 +ℤ pos k) (value_at rs (k - range_size r)) (lt-ltb k (range_size r) small) ∙ sum }
place_of (r ∷ rs) x (inr h) =
    let p = place_of rs x h in
    let k = range_size r + p.place in
    let rest : k - range_size r ≡ p.place = omega arith in
    record {
      place = k;
      within = omega (arith, p.within);
      is = cond-false (nat_lt k (range_size r)) (r.0 +ℤ pos k) (value_at rs (k - range_size r)) (le-ltb k (range_size r) (omega arith)) ∙ ap (value_at rs) rest ∙ p.is;
    }

-- they rise
rises_range : (r : ℤ × ℤ) (rs : List (ℤ × ℤ)) (j k : ℕ) (b c : Bool) → nat_lt j (range_size r) ≡ b → nat_lt k (range_size r) ≡ c → r.0 ≤ℤ r.1 → j < k
    → (range_size r ≤ k → r.1 <ℤ value_at rs (k - range_size r)) → (range_size r ≤ j → value_at rs (j - range_size r) <ℤ value_at rs (k - range_size r))
    → cond b (r.0 +ℤ pos j) (value_at rs (j - range_size r)) <ℤ cond c (r.0 +ℤ pos k) (value_at rs (k - range_size r))
rises_range r rs j k true true is_b is_c rises order above behind = omega (arith, ints, order)
rises_range r rs j k true false is_b is_c rises order above behind = omega (arith, ints, ltb-true j (range_size r) is_b, rises, above (ltb-false k (range_size r) is_c))
rises_range r rs j k false true is_b is_c rises order above behind = absurd (omega (arith, order, ltb-false j (range_size r) is_b, ltb-true k (range_size r) is_c))
rises_range r rs j k false false is_b is_c rises order above behind = behind (ltb-false j (range_size r) is_b)

rise : (d : List (ℤ × ℤ)) (j k : ℕ) → AreRanges d → j < k → k < set_size d → value_at d j <ℤ value_at d k
rise [] j k ranges order h = absurd (omega (arith, h))
rise (r ∷ rs) j k ranges order h =
    let tail = AreRanges-tail r rs ranges in
    let above : range_size r ≤ k → r.1 <ℤ value_at rs (k - range_size r) = λ past. omega (arith, ints, above_gap r rs (value_at rs (k - range_size r)) ranges (value_in rs (k - range_size r) tail (omega (arith, h, past)))) in
    let behind : range_size r ≤ j → value_at rs (j - range_size r) <ℤ value_at rs (k - range_size r) = λ past. rise rs (j - range_size r) (k - range_size r) tail (omega (arith, order, past)) (omega (arith, h, order, past)) in
    rises_range r rs j k (nat_lt j (range_size r)) (nat_lt k (range_size r)) refl refl (AreRanges-head r rs ranges) order above behind

-- ---- at most one passes

module _ {X : Type 0} (p : X → Bool) (f : ℕ → X) where
  count_none : (s n : ℕ) → ((k : ℕ) → s ≤ k → k < s + n → p (f k) ≡ false) → count_by p (map f (range_with_len s n)) ≡ 0
  count_none s zero none = refl
  count_none s (suc n) none =
      let cons : count_by p (map f (range_with_len s (suc n))) ≡ one_if (p (f s)) + count_by p (map f (range_with_len (s + 1) n)) = count_cons p (f s) (map f (range_with_len (s + 1) n)) in
      let here : one_if (p (f s)) ≡ 0 = ap one_if (none s (omega arith) (omega arith)) in
      let rest = count_none (s + 1) n (λ k from to. none k (omega (arith, from)) (omega (arith, to))) in
      omega (arith, cons, here, rest)

  count_one : (s n : ℕ) → ((j k : ℕ) → s ≤ j → j < k → k < s + n → p (f j) ≡ true → p (f k) ≡ false) → count_by p (map f (range_with_len s n)) ≤ 1
  count_one s zero apart = let none : count_by p (map f (range_with_len s zero)) ≡ 0 = refl in omega (arith, none)
  count_one s (suc n) apart =
      let cons : count_by p (map f (range_with_len s (suc n))) ≡ one_if (p (f s)) + count_by p (map f (range_with_len (s + 1) n)) = count_cons p (f s) (map f (range_with_len (s + 1) n)) in
      elim (p (f s)) as (λ b. p (f s) ≡ b → count_by p (map f (range_with_len s (suc n))) ≤ 1) [
        | true ↦ λ is. (
            let here : one_if (p (f s)) ≡ 1 = ap one_if is in
            let rest = count_none (s + 1) n (λ k from to. apart s k (omega arith) (omega (arith, from)) (omega (arith, to)) is) in
            omega (arith, cons, here, rest)
            )
        | false ↦ λ is. (
            let here : one_if (p (f s)) ≡ 0 = ap one_if is in
            let rest = count_one (s + 1) n (λ j k from order to met. apart j k (omega (arith, from)) order (omega (arith, to)) met) in
            omega (arith, cons, here, rest)
            )
      ] refl

-- ---- they are a choice

pub each_length : (v : ℕ) (d : List (ℤ × ℤ)) → length (each_of v d) ≡ set_size d
each_length v d = length-map-range_with_len (value_is v d) 0 (set_size d)

pub each_at : (v : ℕ) (d : List (ℤ × ℤ)) (i : ℕ) (e : Decision) → i < set_size d → get_or (each_of v d) i e ≡ value_is v d i
each_at v d i e h = get_or-map-range_with_len (value_is v d) 0 (set_size d) i i e h (omega arith)

all_range : (P : Decision → Type 0) (f : ℕ → Decision) (s n : ℕ) → ((k : ℕ) → s ≤ k → k < s + n → P (f k)) → AllByRecursion P (map f (range_with_len s n))
all_range P f s zero h = tt
all_range P f s (suc n) h = (h s (omega arith) (omega arith), all_range P f (s + 1) n (λ k from to. h k (omega (arith, from)) (omega (arith, to))))

pub each_of_all : (P : Decision → Type 0) (v : ℕ) (d : List (ℤ × ℤ)) → ((k : ℕ) → k < set_size d → P (value_is v d k)) → AllByRecursion P (each_of v d)
each_of_all P v d h = all_range P (value_is v d) 0 (set_size d) (λ k from to. h k (omega (arith, to)))

apart_if_there : (o : Option ℤ) (y z : ℤ) → y <ℤ z → compares_if_there o Equal y ≡ true → compares_if_there o Equal z ≡ false
apart_if_there None y z order met = refl
apart_if_there (Some x) y z order met =
    elim (int_eq x z) as (λ b. int_eq x z ≡ b → b ≡ false) [ true ↦ λ e. absurd (omega (arith, ints, order, (Decides-int_eq x y).0 met, (Decides-int_eq x z).0 e)) | false ↦ λ e. refl ] refl

pub each_is_choice : (v : ℕ) (d : List (ℤ × ℤ)) → AreRanges d → 2 ≤ set_size d → IsChoice (each_of v d)
each_is_choice v d ranges several = record {
  several = omega (arith, each_length v d, several);
  variable = v;
  on_it = each_of_all (λ (e : Decision). e.variable ≡ v) v d (λ k h. refl);
  at_most_one = λ a. count_one (meets a) (value_is v d) 0 (set_size d)
      (λ j k from order to met. apart_if_there (slice_get a v) (value_at d j) (value_at d k) (rise d j k ranges order (omega (arith, to))) met);
}

-- an assignment that has a value of the set meets one
meets_value : (o : Option ℤ) (x y : ℤ) → o ≡ Some x → y ≡ x → compares_if_there o Equal y ≡ true
meets_value o x y there same = ap (λ q. compares_if_there q Equal y) there ∙ (Decides-int_eq x y).1 (sym same)

pub each_meets : (a : List ℤ) (v : ℕ) (d : List (ℤ × ℤ)) (x : ℤ) → slice_get a v ≡ Some x → IsInSet d x → IsTrue (list_any (meets a) (each_of v d))
each_meets a v d x there member =
    let p = place_of d x member in
    let e = value_is v d p.place in
    list_any_at (meets a) (each_of v d) p.place e (omega (arith, p.within, each_length v d))
    (ap (meets a) (each_at v d p.place e p.within) ∙ meets_value (slice_get a v) x (value_at d p.place) there p.is)

-- ---- which set it is

-- at each place the same value
places_same : (v w : ℕ) (d e : List (ℤ × ℤ)) → each_of v d ≡ each_of w e → (k : ℕ) → k < set_size d → (k < set_size e) × (value_is v d k ≡ value_is w e k)
places_same v w d e is k h =
    let sizes : set_size d ≡ set_size e = sym (each_length v d) ∙ ap length is ∙ each_length w e in
    let there : k < set_size e = omega (arith, h, sizes) in
    let blank = value_is v d k in
    (there, sym (each_at v d k blank h) ∙ ap (λ (es : List Decision). get_or es k blank) is ∙ each_at w e k blank there)

one_in_other : (v w : ℕ) (d e : List (ℤ × ℤ)) → AreRanges e → each_of v d ≡ each_of w e → (x : ℤ) → IsInSet d x → IsInSet e x
one_in_other v w d e ranges is x member =
    let p = place_of d x member in
    let same = places_same v w d e is p.place p.within in
    subst (IsInSet e) (sym (ap (λ (n : Decision). n.value) same.1) ∙ p.is) (value_in e p.place ranges same.0)

pub each_same : (v w : ℕ) (d e : List (ℤ × ℤ)) → 2 ≤ length (each_of v d) → AreRanges d → AreRanges e → each_of v d ≡ each_of w e → (v ≡ w) × AreOneSet d e
each_same v w d e several of_d of_e is = (
  ap (λ (n : Decision). n.variable) (places_same v w d e is 0 (omega (arith, several, each_length v d))).1,
  λ x. (one_in_other v w d e of_e is x, one_in_other w v e d of_d (sym is) x),
)

both_equal : (c : Comparison) → c ≡ Equal → opposite c ≡ Equal → ⊥
both_equal Equal e f = absurd (let g : NotEqual ≡ Equal = f in cc)
both_equal NotEqual e f = absurd (let g : NotEqual ≡ Equal = e in cc)
both_equal AtMost e f = absurd (let g : AtMost ≡ Equal = e in cc)
both_equal Above e f = absurd (let g : Above ≡ Equal = e in cc)

-- a pair isn't one for each value
pub pair_is_other : (p : Decision) (v : ℕ) (d : List (ℤ × ℤ)) → pair_of p ≡ each_of v d → ⊥
pair_is_other p v d is =
    let size : 2 ≡ set_size d = ap length is ∙ each_length v d in
    both_equal p.comparison (ap (λ (es : List Decision). (get_or es 0 p).comparison) is ∙ ap (λ (e : Decision). e.comparison) (each_at v d 0 p (omega (arith, size))))
    (ap (λ (es : List Decision). (get_or es 1 p).comparison) is ∙ ap (λ (e : Decision). e.comparison) (each_at v d 1 p (omega (arith, size))))

-- ---- as the code says it

abbrev is_value : ℕ → ℤ → Decision
is_value v x = record { variable = v; comparison = Equal; value = x }

pub decision_code : (v alternative : ℕ) (d : List (ℤ × ℤ)) (choice : List Decision) (x : ℤ) → each_of v d ≡ choice → alternative < length choice → x ≡ value_at d alternative
    → is_value v x ≡ get_or choice alternative (is_value v x)
decision_code v alternative d choice x is h found =
    let within : alternative < set_size d = omega (arith, h, ap length is, each_length v d) in
    ap (is_value v) found ∙ sym (each_at v d alternative (is_value v x) within) ∙ ap (λ (es : List Decision). get_or es alternative (is_value v x)) is

pub same_code : (v w : ℕ) (d e : List (ℤ × ℤ)) (this that : List Decision) (b : Bool) → each_of v d ≡ this → each_of w e ≡ that → 2 ≤ length this → AreRanges d → AreRanges e → v ≡ w → (IsTrue b ↔ (d ≡ e)) → (IsTrue b ↔ AreOneSet d e)
    → IsTrue b ↔ (this ≡ that)
same_code v w d e this that b is_this is_that several of_d of_e first same one = (
  λ h. sym is_this ∙ ap (λ (u : ℕ). each_of u d) first ∙ ap (each_of w) (same.0 h) ∙ is_that,
  λ is. one.1 (each_same v w d e (subst (λ (es : List Decision). 2 ≤ length es) (sym is_this) several) of_d of_e (is_this ∙ is ∙ sym is_that)).1,
)
