-- What holds of all numbers of a set can be decided, and so can that no values make a constraint true.
use Rattle.std.proofs.Common.{ℕ, zero, suc, ◌+◌, ◌<◌, inl, inr, List, [], ◌∷◌, subst, arith, set}
use Rattle.std.specs.Prelude.{ℤ, pos, ◌+ℤ◌, ◌-ℤ◌, ◌≤ℤ◌, nat_abs}
use Rattle.std.proofs.lemmas.Bool.{cases_lt}
use Rattle.std.proofs.lemmas.Int.{ints, by_lt_z}
use Rattle.fz_sets.specs.Sets.{IsInRange, IsInSet}
use Rattle.fz_spec.specs.Constraints.{Constraint}
use Rattle.fz_language.proofs.Decisions.{Decided, by, both}
use Rattle.fz_refutes.specs.Boxes.{set_at}
use Rattle.fz_refutes.specs.Smalls.{NeverFrom}
use Rattle.fz_spec.specs.Signatures.{shape_of}
use Rattle.fz_refutes.proofs.Decisions.{holds, without}

last_or_less : (P : ℕ → Type 0) (n k : ℕ) → ((j : ℕ) → j < n → P j) → P n → k < suc n → P k
last_or_less P n k all last less = elim (cases_lt k n) [ inl below ↦ all k below | inr over ↦ subst P (omega (arith, less, over)) last ]

each_below : (P : ℕ → Type 0) → ((k : ℕ) → Decided (P k)) → (n : ℕ) → Decided ((k : ℕ) → k < n → P k)
each_below P decide zero = inl (λ k less. absurd (omega (arith, less)))
each_below P decide (suc n) = by (λ h k less. last_or_less P n k h.0 h.1 less) (λ all. ((λ k less. all k (omega (arith, less))), all n (omega arith))) (both (each_below P decide n) (decide n))

in_range : (P : ℤ → Type 0) (low high x : ℤ) → ((k : ℕ) → k < nat_abs (high -ℤ low) + 1 → P (low +ℤ pos k)) → low ≤ℤ x → x ≤ℤ high → P x
in_range P low high x all over under = subst P (omega (arith, ints, over)) (all (nat_abs (x -ℤ low)) (omega (arith, ints, over, under)))

each_between : (P : ℤ → Type 0) → ((x : ℤ) → Decided (P x)) → (r : ℤ × ℤ) → Decided ((x : ℤ) → IsInRange r x → P x)
each_between P decide r =
    by_lt_z r.1 r.0
    (λ none. inl (λ x i. let low = i.0 in let high = i.1 in absurd (omega (arith, ints, none, low, high))))
    (λ rises. by (λ all x i. in_range P r.0 r.1 x all i.0 i.1) (λ all k less. all (r.0 +ℤ pos k) (omega (arith, ints), omega (arith, ints, rises, less)))
    (each_below (λ (k : ℕ). P (r.0 +ℤ pos k)) (λ k. decide (r.0 +ℤ pos k)) (nat_abs (r.1 -ℤ r.0) + 1)))

pub each_in : (P : ℤ → Type 0) → ((x : ℤ) → Decided (P x)) → (d : List (ℤ × ℤ)) → Decided ((x : ℤ) → IsInSet d x → P x)
each_in P decide [] = inl (λ x i. absurd i)
each_in P decide (r ∷ rs) =
    by (λ h x i. elim i [ inl j ↦ h.0 x j | inr j ↦ h.1 x j ]) (λ all. ((λ x j. all x (inl j)), (λ x j. all x (inr j)))) (both (each_between P decide r) (each_in P decide rs))

pub never_from : (c : Constraint) (box : List (List (ℤ × ℤ))) (vs : List ℕ) (a : List ℤ) → Decided (NeverFrom c box vs a)
never_from c box [] a = without (holds (shape_of c.name) c.arguments a)
never_from c box (v ∷ vs) a = each_in (λ (x : ℤ). NeverFrom c box vs (set a v x)) (λ x. never_from c box vs (set a v x)) (set_at box v)
