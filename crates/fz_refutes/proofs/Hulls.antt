-- The least and the greatest of a set.
use Rattle.std.proofs.Common.{◌≡◌, ◌<◌, List, [], ◌∷◌, refl, arith, length}
use Rattle.std.specs.Prelude.{ℤ, ◌≤ℤ◌, ◌↔◌, IsTrue, Bool}
use Rattle.std.proofs.lemmas.Int.{ints}
use Rattle.fz_sets.specs.Sets.{AreRanges, IsInSet}
use Rattle.fz_dom.specs.Shape.{least, greatest}
use Rattle.fz_dom.proofs.Ranges.{least_member, greatest_member}

pub some_length : (d : List (ℤ × ℤ)) → (d ≡ [] → ⊥) → 0 < length d
some_length [] some = absurd (some refl)
some_length (r ∷ rs) some = omega arith

pub below_is : (d : List (ℤ × ℤ)) (n : ℤ) (test : Bool) → AreRanges d → (d ≡ [] → ⊥) → IsTrue test ↔ (n ≤ℤ least d) → IsTrue test ↔ ((x : ℤ) → IsInSet d x → n ≤ℤ x)
below_is d n test are some is =
    let first = least_member d (some_length d some) are in
    ((λ t x i. let low = is.0 t in let more = first.1 x i in omega (arith, ints, low, more)), (λ all. is.1 (all (least d) first.0)))

pub above_is : (d : List (ℤ × ℤ)) (n : ℤ) (test : Bool) → AreRanges d → (d ≡ [] → ⊥) → IsTrue test ↔ (greatest d ≤ℤ n) → IsTrue test ↔ ((x : ℤ) → IsInSet d x → x ≤ℤ n)
above_is d n test are some is =
    let last = greatest_member d (some_length d some) are in
    ((λ t x i. let high = is.0 t in let less = last.1 x i in omega (arith, ints, high, less)), (λ all. is.1 (all (greatest d) last.0)))
