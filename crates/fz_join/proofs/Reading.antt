-- What runs printed is read so.
use Rattle.std.proofs.Common.{◌≡◌, ℕ, zero, suc, ◌<◌, Bool, true, false, cond, List, [], ◌∷◌, ◌++◌, length, bytes_eq, flat_map, Contains, Option, Some, option_map, get_or, inl, inr, ◌⊎◌, refl, ap, ◌∙◌, arith}
use Rattle.std.proofs.lemmas.Slice.Eq.{bytes_eq-Decides}
use Rattle.std.specs.List.{AllByRecursion}
use Rattle.fz_spec.specs.Instance.{Instance}
use Rattle.fz_tree.specs.declared.decision.Decision.{Decision}
use Rattle.fz_part.specs.Texts.{part_text}
use Rattle.fz_model.specs.Kept.{IsModel}
use Rattle.fz_join.specs.Joins.{AreNamed, ArePartsOf, AreRuns, IsRan, Ran}
use Rattle.fz_join.specs.Machine.{State, begun, counted, none_ran, one_more, read_text}
use Rattle.fz_join.specs.After.{after_runs, state_after}
use Rattle.fz_join.proofs.ReadLines.{begins, between}
use Rattle.fz_join.proofs.ReadRuns.{run_read}

-- the part of this text is known
abbrev IsKnown : (List ℕ → Option ℕ) → Ran → Type 0
IsKnown times r = (n : ℕ) × (times (part_text r.part) ≡ Some n)

-- it stays known
counted_known : (t : Bool) (o : Option ℕ) (n : ℕ) → o ≡ Some n → (k : ℕ) × (cond t (option_map one_more o) o ≡ Some k)
counted_known true o n is = (one_more n, ap (option_map one_more) is)
counted_known false o n is = (n, is)

still_known : (name : List ℕ) (times : List ℕ → Option ℕ) (rs : List Ran) → AllByRecursion (IsKnown times) rs → AllByRecursion (IsKnown (counted name times)) rs
still_known name times [] known = tt
still_known name times (r ∷ rs) known = (counted_known (bytes_eq name (part_text r.part)) (times (part_text r.part)) known.0.0 known.0.1, still_known name times rs known.1)

all_read : (m : Instance) (all : Bool) (s : State) (rs : List Ran) (printed : List ℕ) → IsModel m → AreNamed m → AllByRecursion (IsRan m all) rs → AllByRecursion (IsKnown s.times) rs
    → read_text m all (begins (between s) printed) (flat_map (λ (r : Ran). r.text) rs) ≡ after_runs m all (begins (between s) printed) rs
all_read m all s [] printed model named each known = refl
all_read m all s (r ∷ rs) printed model named each known =
    run_read m all s r known.0.0 printed (r.text ++ flat_map (λ (u : Ran). u.text) rs) (flat_map (λ (u : Ran). u.text) rs) model named each.0 known.0.1 refl
    ∙ all_read m all (state_after m (between s) r) rs _ model named each.1 (still_known (part_text r.part) s.times rs known.1)

-- ---- at first

first_known : (t : Bool) (o : Option ℕ) → (t ≡ true) ⊎ ((n : ℕ) × (o ≡ Some n)) → (n : ℕ) × (cond t (Some 0) o ≡ Some n)
first_known true o is = (0, refl)
first_known false o (inl is) = absurd (cc is)
first_known false o (inr known) = known

part_known : (ps : List (List Decision)) (p : List Decision) (k : ℕ) → k < length ps → get_or ps k p ≡ p → (n : ℕ) × (none_ran ps (part_text p) ≡ Some n)
part_known [] p k below is = absurd (omega (arith, below))
part_known (q ∷ ps) p zero below is = first_known (bytes_eq (part_text q) (part_text p)) (none_ran ps (part_text p)) (inl ((bytes_eq-Decides (part_text q) (part_text p)).1 (ap part_text is)))
part_known (q ∷ ps) p (suc k) below is = first_known (bytes_eq (part_text q) (part_text p)) (none_ran ps (part_text p)) (inr (part_known ps p k (omega (arith, below)) is))

all_known : (ps : List (List Decision)) (rs : List Ran) → AllByRecursion (λ (r : Ran). Contains ps r.part) rs → AllByRecursion (IsKnown (none_ran ps)) rs
all_known ps [] known = tt
all_known ps (r ∷ rs) known = (part_known ps r.part known.0.0 known.0.1 known.0.2, all_known ps rs known.1)

pub read_runs : (m : Instance) (all : Bool) (ps : List (List Decision)) (rs : List Ran) (text : List ℕ) → IsModel m → AreNamed m → ArePartsOf m ps → AreRuns m all ps rs text → read_text m all (begun ps) text ≡ after_runs m all (begun ps) rs
read_runs m all ps rs text model named parts runs = ap (read_text m all (begun ps)) runs.is
    ∙ all_read m all (begun ps).state rs [] model named runs.each (all_known ps rs runs.known)
