-- Multiples, and Euclid's step.
use Rattle.std.proofs.Common.{◌≡◌, ◌↔◌, ℕ, zero, suc, ◌+◌, ◌*◌, ◌/◌, ◌%◌, ◌<◌, ℤ, pos, negsuc, ◌+ℤ◌, ◌-ℤ◌, ◌*ℤ◌, nat_abs, List, [], ◌∷◌, ◌++◌, ◌∙◌, refl, sym, ap, subst, arith}
use Rattle.std.proofs.lemmas.Int.{ints}
use Rattle.std.proofs.lemmas.Nat.{div-add-mod'}
use Rattle.std.proofs.Math.Nat.{mod-lt}
use Rattle.std.proofs.Math.IntN.{zero-*ℤ, *ℤ-zero, *ℤ_comm}
use Rattle.std.specs.List.{AllByRecursion}
use Rattle.fz_plain.specs.Plain.{IsMultipleOf}
use Rattle.fz_plain.proofs.Spread.{spread}
use Rattle.fz_plain.proofs.Deciding.{none_between, regroup}

pub zero_multiple : (d : ℤ) → IsMultipleOf d (pos 0)
zero_multiple d = (pos 0, sym (zero-*ℤ d))

pub sum_of_multiples : (d m n : ℤ) → IsMultipleOf d m → IsMultipleOf d n → IsMultipleOf d (m +ℤ n)
sum_of_multiples d m n a b = let s = spread a.0 b.0 d in let x = a.1 in let y = b.1 in (a.0 +ℤ b.0, omega (arith, ints, s, x, y))

pub product_of_multiple : (d q m : ℤ) → IsMultipleOf d m → IsMultipleOf d (q *ℤ m)
product_of_multiple d q m a = (a.0 *ℤ q, *ℤ_comm q m ∙ ap (λ (n : ℤ). n *ℤ q) a.1 ∙ regroup a.0 d q)

pub multiple_of_multiple : (d e n : ℤ) → IsMultipleOf d e → IsMultipleOf e n → IsMultipleOf d n
multiple_of_multiple d e n a b = subst (IsMultipleOf d) (sym b.1) (product_of_multiple d b.0 e a)

pub negated_multiple : (d n m : ℤ) → (n +ℤ m) ≡ pos 0 → IsMultipleOf d n → IsMultipleOf d m
negated_multiple d n m none a =
    let s = spread a.0 (pos 0 -ℤ a.0) d in
    let back : (a.0 +ℤ (pos 0 -ℤ a.0)) ≡ pos 0 = omega (arith, ints) in
    let z = zero-*ℤ d in
    let t : ((a.0 *ℤ d) +ℤ ((pos 0 -ℤ a.0) *ℤ d)) ≡ pos 0 = sym s ∙ ap (λ (q : ℤ). q *ℤ d) back ∙ z in
    let x = a.1 in
    (pos 0 -ℤ a.0, omega (arith, ints, t, x, none))

-- a number and its size
pub size_multiple : (d n : ℤ) → IsMultipleOf d n → IsMultipleOf d (pos (nat_abs n))
size_multiple d (pos n) a = a
size_multiple d (negsuc n) a = negated_multiple d (negsuc n) (pos (suc n)) (omega (arith, ints)) a

pub sized_multiple : (d n : ℤ) → IsMultipleOf d (pos (nat_abs n)) → IsMultipleOf d n
sized_multiple d (pos n) a = a
sized_multiple d (negsuc n) a = negated_multiple d (pos (suc n)) (negsuc n) (omega (arith, ints)) a

pos_sum : (m n : ℕ) → pos (m + n) ≡ (pos m +ℤ pos n)
pos_sum m n = omega (arith, ints)

pub divided : (m n : ℕ) → pos m ≡ ((pos (m / n) *ℤ pos n) +ℤ pos (m % n))
divided m n = ap pos (sym (div-add-mod' m n)) ∙ pos_sum (m / n * n) (m % n)

-- the divisors of two numbers are those of the second and of what is left of the first
pub step_down : (d : ℤ) (m n : ℕ) → IsMultipleOf d (pos m) → IsMultipleOf d (pos n) → IsMultipleOf d (pos (m % n))
step_down d m n a b =
    let e = divided m n in
    let p = negated_multiple d (pos (m / n) *ℤ pos n) (pos 0 -ℤ (pos (m / n) *ℤ pos n)) (omega (arith, ints)) (product_of_multiple d (pos (m / n)) (pos n) b) in
    let s = sum_of_multiples d (pos m) (pos 0 -ℤ (pos (m / n) *ℤ pos n)) a p in
    subst (IsMultipleOf d) (omega (arith, ints, e)) s

pub step_up : (d : ℤ) (m n : ℕ) → IsMultipleOf d (pos n) → IsMultipleOf d (pos (m % n)) → IsMultipleOf d (pos m)
step_up d m n b r = subst (IsMultipleOf d) (sym (divided m n)) (sum_of_multiples d (pos (m / n) *ℤ pos n) (pos (m % n)) (product_of_multiple d (pos (m / n)) (pos n) b) r)

pub step_both : (d : ℤ) (m n : ℕ) → (IsMultipleOf d (pos m) × IsMultipleOf d (pos n)) ↔ (IsMultipleOf d (pos n) × IsMultipleOf d (pos (m % n)))
step_both d m n = ((λ h. (h.1, step_down d m n h.0 h.1)), (λ h. (step_up d m n h.0 h.1, h.0)))

-- a number of which nothing is left is a multiple, and the other way round
pub no_rest : (m n : ℕ) → m % n ≡ 0 → IsMultipleOf (pos n) (pos m)
no_rest m n none = let e = divided m n in (pos (m / n), omega (arith, ints, e, none))

pub rest_multiple : (n : ℤ) (d : ℕ) → nat_abs n % d ≡ 0 → IsMultipleOf (pos d) n
rest_multiple n d none = sized_multiple (pos d) n (no_rest (nat_abs n) d none)

pub itself : (d : ℤ) → IsMultipleOf d d
itself d = (pos 1, let z = zero-*ℤ d in omega (arith, ints, z))

small_multiple : (r d : ℕ) → r < d → IsMultipleOf (pos d) (pos r) → r ≡ 0
small_multiple zero d below a = refl
small_multiple (suc r) d below a =
    let e = a.1 in
    let z = zero-*ℤ (pos d) in
    absurd (none_between (pos 0) a.0 d (omega (arith, ints, e, z)) (omega (arith, ints, e, z, below)))

pub multiple_rest : (n : ℤ) (d : ℕ) → 0 < d → IsMultipleOf (pos d) n → nat_abs n % d ≡ 0
multiple_rest n d some a = small_multiple (nat_abs n % d) d (mod-lt (nat_abs n) some) (step_down (pos d) (nat_abs n) d (size_multiple (pos d) n a) (itself (pos d)))

pub none_multiple : (n : ℤ) → IsMultipleOf (pos 0) n → nat_abs n ≡ 0
none_multiple n a = let e = a.1 ∙ *ℤ-zero a.0 in ap nat_abs e

-- a divisor of these and of one more
all_more : (P : ℤ → Type 0) (ks : List ℤ) (k : ℤ) → AllByRecursion P (ks ++ k ∷ []) ↔ (AllByRecursion P ks × P k)
all_more P [] k = ((λ h. (tt, h.0)), (λ h. (h.1, tt)))
all_more P (j ∷ ks) k = let rest = all_more P ks k in ((λ h. let r = rest.0 h.1 in ((h.0, r.0), r.1)), (λ h. (h.0.0, rest.1 (h.0.1, h.1))))

pub divisor_more : (d : ℤ) (ks : List ℤ) (k : ℤ) (g r : ℕ) → (AllByRecursion (IsMultipleOf d) ks ↔ IsMultipleOf d (pos g)) → ((IsMultipleOf d (pos g) × IsMultipleOf d (pos (nat_abs k))) ↔ IsMultipleOf d (pos r))
    → AllByRecursion (IsMultipleOf d) (ks ++ k ∷ []) ↔ IsMultipleOf d (pos r)
divisor_more d ks k g r so both =
    let more = all_more (IsMultipleOf d) ks k in
    ((λ h. let one = more.0 h in both.0 (so.0 one.0, size_multiple d k one.1)), (λ h. let one = both.1 h in more.1 (so.1 one.0, sized_multiple d k one.1)))
