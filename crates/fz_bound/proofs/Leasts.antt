-- The least of what views put, and their parts, when one view changes.
use Rattle.std.proofs.Common.{◌≡◌, ℕ, ◌+◌, ◌≤◌, min, zero, suc, List, [], ◌∷◌, ◌++◌, set, refl, sym, ap, arith}
use mathlib.Core.Option.{some, some-injective, some-ne-none}
use lib.ListN.{get_elem?}
use Rattle.fz_bound.specs.declared.known.Known.{Known}
use Rattle.fz_bound.specs.Rule.{UNSET, least_of, parts_of, IsIdle}

pub least_small : (vs : List Known) → least_of vs ≤ UNSET
least_small [] = omega arith
least_small (x ∷ xs) = let h = least_small xs in omega arith

pub least_at : (vs : List Known) (i : ℕ) (v : Known) → get_elem? vs i ≡ some v → least_of vs ≤ v.least
least_at [] i v at = absurd (some-ne-none v (sym at))
least_at (x ∷ xs) zero v at = let e : x.least ≡ v.least = ap (λ (u : Known). u.least) (some-injective x v at) in omega arith
least_at (x ∷ xs) (suc i) v at = let h = least_at xs i v at in omega arith

pub least_set : (vs : List Known) (i : ℕ) (v w : Known) → get_elem? vs i ≡ some v → min (least_of (set vs i w)) v.least ≡ min (least_of vs) w.least
least_set [] i v w at = absurd (some-ne-none v (sym at))
least_set (x ∷ xs) zero v w at = let e : x.least ≡ v.least = ap (λ (u : Known). u.least) (some-injective x v at) in omega arith
least_set (x ∷ xs) (suc i) v w at = let h = least_set xs i v w at in omega arith

pub least_snoc : (vs : List Known) (w : Known) → least_of (vs ++ w ∷ []) ≡ min (least_of vs) w.least
least_snoc [] w = omega arith
least_snoc (x ∷ xs) w = let h = least_snoc xs w in omega arith

pub parts_at : (vs : List Known) (i : ℕ) (v : Known) → get_elem? vs i ≡ some v → v.parts ≤ parts_of vs
parts_at [] i v at = absurd (some-ne-none v (sym at))
parts_at (x ∷ xs) zero v at = let e : x.parts ≡ v.parts = ap (λ (u : Known). u.parts) (some-injective x v at) in omega arith
parts_at (x ∷ xs) (suc i) v at = let h = parts_at xs i v at in omega arith

pub parts_set : (vs : List Known) (i : ℕ) (v w : Known) → get_elem? vs i ≡ some v → parts_of (set vs i w) + v.parts ≡ parts_of vs + w.parts
parts_set [] i v w at = absurd (some-ne-none v (sym at))
parts_set (x ∷ xs) zero v w at = let e : x.parts ≡ v.parts = ap (λ (u : Known). u.parts) (some-injective x v at) in omega arith
parts_set (x ∷ xs) (suc i) v w at = let h = parts_set xs i v w at in omega arith

pub parts_snoc : (vs : List Known) (w : Known) → parts_of (vs ++ w ∷ []) ≡ parts_of vs + w.parts
parts_snoc [] w = omega arith
parts_snoc (x ∷ xs) w = let h = parts_snoc xs w in omega arith

-- where no view has parts, none has put anything
pub none_left : (vs : List Known) → parts_of vs ≡ 0 → ((i : ℕ) (v : Known) → get_elem? vs i ≡ some v → IsIdle v) → least_of vs ≡ UNSET
none_left [] none idle = refl
none_left (x ∷ xs) none idle =
    let e : x.least ≡ UNSET = ap (λ (u : Known). u.least) (idle 0 x refl (omega arith)) in
    let h = none_left xs (omega arith) (λ i v at. idle (suc i) v at) in
    omega arith

-- where one view has all parts, the least is what it put
pub all_here : (vs : List Known) (i : ℕ) (v : Known) → get_elem? vs i ≡ some v → parts_of vs ≡ v.parts → ((j : ℕ) (u : Known) → get_elem? vs j ≡ some u → IsIdle u) → least_of vs ≡ min v.least UNSET
all_here [] i v at all idle = absurd (some-ne-none v (sym at))
all_here (x ∷ xs) zero v at all idle =
    let s : x ≡ v = some-injective x v at in
    let p : x.parts ≡ v.parts = ap (λ (u : Known). u.parts) s in
    let e : x.least ≡ v.least = ap (λ (u : Known). u.least) s in
    let h = none_left xs (omega arith) (λ j u here. idle (suc j) u here) in
    omega arith
all_here (x ∷ xs) (suc i) v at all idle =
    let p = parts_at xs i v at in
    let e : x.least ≡ UNSET = ap (λ (u : Known). u.least) (idle 0 x refl (omega arith)) in
    let h = all_here xs i v at (omega arith) (λ j u here. idle (suc j) u here) in
    omega arith
