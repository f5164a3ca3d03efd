-- What the divisor of its factors says of a sum.
use Rattle.std.proofs.Common.{◌≡◌, ℕ, zero, suc, ℤ, pos, negsuc, ◌+ℤ◌, ◌-ℤ◌, ◌*ℤ◌, ◌<ℤ◌, List, [], ◌∷◌, ◌∙◌, sym, ap, subst, arith, true, false, Bool}
use Rattle.std.proofs.lemmas.Int.{ints, by_lt_z}
use Rattle.std.proofs.Math.IntN.{zero-*ℤ, *ℤ-zero, *ℤ_comm}
use Rattle.std.specs.List.{AllByRecursion}
use Rattle.fz_num.proofs.Euclid.{one_more, one_less}
use Rattle.fz_num.proofs.Products.{mul_le}
use Rattle.fz_spec.specs.Truth.{weighted_sum, Relates}
use Rattle.fz_spec.specs.declared.term.Term.{Term}
use Rattle.fz_spec.specs.Constraints.{term_values}
use Rattle.fz_spec.specs.declared.shape.Relation.{Relation}
use Rattle.fz_plain.specs.Plain.{IsDecided, IsMultipleOf, SumRelates}
use Rattle.fz_plain.proofs.Spread.{spread, num_up, num_down, minus_one}

-- no multiple lies between a multiple and the next one
pub none_between : (q m : ℤ) (d : ℕ) → (q *ℤ pos d) <ℤ (m *ℤ pos d) → (m *ℤ pos d) <ℤ ((q *ℤ pos d) +ℤ pos d) → ⊥
none_between q m d above below =
    by_lt_z q m
    (λ less.
    let one = spread q (pos 1) (pos d) in
    let next = mul_le d (q +ℤ pos 1) m (omega (arith, ints, less)) in
    let a = *ℤ_comm (pos d) (q +ℤ pos 1) in
    let b = *ℤ_comm (pos d) m in
    let c : (pos 1 *ℤ pos d) ≡ pos d = omega (arith, ints) in
    omega (arith, ints, one, next, a, b, c, below))
    (λ more.
    let next = mul_le d m q more in
    let a = *ℤ_comm (pos d) q in
    let b = *ℤ_comm (pos d) m in
    omega (arith, ints, next, a, b, above))

up : (n : ℕ) (d : ℤ) → (pos (suc n) *ℤ d) ≡ ((pos n *ℤ d) +ℤ d)
up n d = ap (λ (m : ℤ). m *ℤ d) (num_up n) ∙ one_more (pos n) d

down : (n : ℕ) (d : ℤ) → (negsuc (suc n) *ℤ d) ≡ ((negsuc n *ℤ d) -ℤ d)
down n d = ap (λ (m : ℤ). m *ℤ d) (num_down n) ∙ one_less (negsuc n) d

minus : (d : ℤ) → (negsuc 0 *ℤ d) ≡ (pos 0 -ℤ d)
minus d = let less = ap (λ (m : ℤ). m *ℤ d) minus_one ∙ one_less (pos 0) d in let none = zero-*ℤ d in omega (arith, ints, less, none)

spread_less : (k l x : ℤ) → ((k -ℤ l) *ℤ x) ≡ ((k *ℤ x) -ℤ (l *ℤ x))
spread_less k l x =
    let back : ((k -ℤ l) +ℤ l) ≡ k = omega (arith, ints) in
    let whole = sym (spread (k -ℤ l) l x) ∙ ap (λ (m : ℤ). m *ℤ x) back in
    omega (arith, ints, whole)

pub regroup : (q d x : ℤ) → ((q *ℤ d) *ℤ x) ≡ ((q *ℤ x) *ℤ d)
regroup (pos zero) d x = ap (λ (m : ℤ). m *ℤ x) (zero-*ℤ d) ∙ zero-*ℤ x ∙ sym (ap (λ (m : ℤ). m *ℤ d) (zero-*ℤ x) ∙ zero-*ℤ d)
regroup (pos (suc n)) d x =
    let left = ap (λ (m : ℤ). m *ℤ x) (up n d) ∙ spread (pos n *ℤ d) d x in
    let right = ap (λ (m : ℤ). m *ℤ d) (up n x) ∙ spread (pos n *ℤ x) x d in
    let rest = regroup (pos n) d x in
    let turned = *ℤ_comm d x in
    omega (arith, ints, left, right, rest, turned)
regroup (negsuc zero) d x =
    let left = ap (λ (m : ℤ). m *ℤ x) (minus d) ∙ spread_less (pos 0) d x in
    let right = ap (λ (m : ℤ). m *ℤ d) (minus x) ∙ spread_less (pos 0) x d in
    let none = zero-*ℤ x in
    let nil = zero-*ℤ d in
    let turned = *ℤ_comm d x in
    omega (arith, ints, left, right, none, nil, turned)
regroup (negsuc (suc n)) d x =
    let left = ap (λ (m : ℤ). m *ℤ x) (down n d) ∙ spread_less (negsuc n *ℤ d) d x in
    let right = ap (λ (m : ℤ). m *ℤ d) (down n x) ∙ spread_less (negsuc n *ℤ x) x d in
    let rest = regroup (negsuc n) d x in
    let turned = *ℤ_comm d x in
    omega (arith, ints, left, right, rest, turned)

-- a sum of multiples is one
pub sum_multiple : (d : ℤ) (ks xs : List ℤ) → AllByRecursion (IsMultipleOf d) ks → IsMultipleOf d (weighted_sum ks xs)
sum_multiple d [] xs all = (pos 0, sym (zero-*ℤ d))
sum_multiple d (k ∷ ks) [] all = (pos 0, sym (zero-*ℤ d))
sum_multiple d (k ∷ ks) (x ∷ xs) all =
    let rest = sum_multiple d ks xs all.1 in
    let here : (k *ℤ x) ≡ ((all.0.0 *ℤ x) *ℤ d) = ap (λ (j : ℤ). j *ℤ x) all.0.1 ∙ regroup all.0.0 d x in
    let both = spread (all.0.0 *ℤ x) rest.0 d in
    ((all.0.0 *ℤ x) +ℤ rest.0, let is = rest.1 in omega (arith, ints, here, is, both))

pub sum_none : (d : ℤ) (ks xs : List ℤ) → d ≡ pos 0 → AllByRecursion (IsMultipleOf d) ks → weighted_sum ks xs ≡ pos 0
sum_none d ks xs none all = let m = sum_multiple d ks xs all in m.1 ∙ ap (λ (j : ℤ). m.0 *ℤ j) none ∙ *ℤ-zero m.0

pub zero_decided : (b : Bool) (relation : Relation) (ks : List ℤ) (ts : List Term) (c d : ℤ) → d ≡ pos 0 → AllByRecursion (IsMultipleOf d) ks → IsDecided b (λ (a : List ℤ). Relates relation (pos 0) c)
    → IsDecided b (SumRelates relation ks ts c)
zero_decided true relation ks ts c d none all h = λ a. subst (λ (s : ℤ). Relates relation s c) (sym (sum_none d ks (term_values a ts) none all)) (h a)
zero_decided false relation ks ts c d none all h = λ a holds. h a (subst (λ (s : ℤ). Relates relation s c) (sum_none d ks (term_values a ts) none all) holds)

-- a sum of multiples isn't a number that is none
pub never_equal : (ks : List ℤ) (ts : List Term) (c d : ℤ) → AllByRecursion (IsMultipleOf d) ks → (IsMultipleOf d c → ⊥) → (a : List ℤ) → weighted_sum ks (term_values a ts) ≡ c → ⊥
never_equal ks ts c d all not a same = not (subst (IsMultipleOf d) same (sum_multiple d ks (term_values a ts) all))
