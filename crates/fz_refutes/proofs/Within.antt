-- Boxes of parts of the declared sets.
use Rattle.std.proofs.Common.{◌≡◌, ℕ, zero, suc, ◌<◌, ℤ, pos, negsuc, List, [], ◌∷◌, refl, ap, subst, arith, length, set}
use Rattle.std.specs.List.{AllByRecursion}
use Rattle.std.proofs.lemmas.Int.{ints}
use Rattle.fz_sets.specs.Sets.{IsInSet, IsWithinLimits}
use Rattle.fz_dom.proofs.Ranges.{within_limits}
use Rattle.fz_spec.specs.declared.kind.Kind.{Kind}
use Rattle.fz_spec.specs.declared.kind.Kind.TheVariants as kinds
use Rattle.fz_spec.specs.Instance.{Variable}
use Rattle.fz_model.specs.Kept.{IsVariable, HasSetOf}
use Rattle.fz_refutes.specs.Boxes.{IsWord, declared_box, set_at, up_to, above, low_half, high_half}
use Rattle.fz_refutes.specs.Makers.{IsPartOf}
use Rattle.fz_refutes.proofs.Halves.{of_up_to, of_above}

pub declared_part : (vs : List Variable) → IsPartOf vs (declared_box vs)
declared_part [] = tt
declared_part (v ∷ vs) = ((λ x i. i), declared_part vs)

pub part_length : (vs : List Variable) (box : List (List (ℤ × ℤ))) → IsPartOf vs box → length box ≡ length vs
part_length [] [] part = refl
part_length [] (d ∷ ds) part = absurd part
part_length (v ∷ vs) [] part = absurd part
part_length (v ∷ vs) (d ∷ ds) part = ap suc (part_length vs ds part.1)

part_after : (vs : List Variable) (box : List (List (ℤ × ℤ))) (v : ℕ) (d : List (ℤ × ℤ)) → IsPartOf vs box → ((x : ℤ) → IsInSet d x → IsInSet (set_at box v) x) → IsPartOf vs (set box v d)
part_after [] [] v d part inside = tt
part_after [] (e ∷ es) v d part inside = absurd part
part_after (u ∷ us) [] v d part inside = absurd part
part_after (u ∷ us) (e ∷ es) zero d part inside = ((λ x i. part.0 x (inside x i)), part.1)
part_after (u ∷ us) (e ∷ es) (suc v) d part inside = (part.0, part_after us es v d part.1 inside)

pub low_part : (vs : List Variable) (box : List (List (ℤ × ℤ))) (v : ℕ) (n : ℤ) → IsPartOf vs box → IsPartOf vs (low_half v n box)
low_part vs box v n part = part_after vs box v (up_to n (set_at box v)) part (λ x i. (of_up_to n (set_at box v) x i).0)

pub high_part : (vs : List Variable) (box : List (List (ℤ × ℤ))) (v : ℕ) (n : ℤ) → IsPartOf vs box → IsPartOf vs (high_half v n box)
high_part vs box v n part = part_after vs box v (above n (set_at box v)) part (λ x i. (of_above n (set_at box v) x i).0)

-- ---- their numbers

pub set_limits : (kind : Kind) (set : List (ℤ × ℤ)) (x : ℤ) → HasSetOf kind set → IsInSet set x → IsWithinLimits x
set_limits kinds.Bool set x is inside = within_limits ((pos 0, pos 1) ∷ []) x ((omega (arith, ints), omega (arith, ints)), (omega (arith, ints), omega (arith, ints)), tt) (subst (λ (s : List (ℤ × ℤ)). IsInSet s x) is inside)
set_limits kinds.Int set x is inside = within_limits set x is.within inside

pub part_limits : (vs : List Variable) (box : List (List (ℤ × ℤ))) (v : ℕ) (x : ℤ) → AllByRecursion IsVariable vs → IsPartOf vs box → v < length box → IsInSet (set_at box v) x → IsWithinLimits x
part_limits vs [] v x fits part within i = absurd (omega (arith, within))
part_limits [] (d ∷ ds) v x fits part within i = absurd part
part_limits (u ∷ us) (d ∷ ds) zero x fits part within i = set_limits u.kind u.set x fits.0 (part.0 x i)
part_limits (u ∷ us) (d ∷ ds) (suc v) x fits part within i = part_limits us ds v x fits.1 part.1 (omega (arith, within)) i

pub word_limits : (n : ℤ) → IsWithinLimits n → IsWord n
word_limits (pos n) is = let high = is.1 in (omega (arith, ints), omega (arith, ints, high))
word_limits (negsuc n) is = let low = is.0 in (omega (arith, ints, low), omega (arith, ints))
