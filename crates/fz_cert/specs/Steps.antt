-- What a line of a tree does to the boxes that are left.
use Rattle.std.specs.Prelude.{◌≡◌, ◌↔◌, ℕ, Bool, true, false, ℤ, List, ◌∷◌, length, slice_get, Option}
use Rattle.std.specs.List.{AllByRecursion}
use Rattle.fz_spec.specs.Instance.{Instance}
use Rattle.fz_cert.specs.declared.step.Step.{Step}
use Rattle.fz_cert.specs.declared.step.Step.TheVariants as steps
use Rattle.fz_refutes.specs.Boxes.{HasEmpty}
use Rattle.fz_refutes.specs.Refuted.{RefutesIfThere, IsWorse}
use Rattle.fz_refutes.specs.Trees.{Line, IsEmpty, Fails, IsBehind, Splits, IsSplitOf, AreRefutedBy}
use Rattle.fz_cert.specs.Walks.{IsSplitAt}

abbrev pub line_of : Step → Line
line_of steps.Empty = IsEmpty
line_of (steps.Failing c) = Fails c
line_of steps.Worse = IsBehind
line_of (steps.Split v n) = Splits v n

-- as many sets in each box
abbrev pub HaveLength : ℕ → List (List (List (ℤ × ℤ))) → Type 0
HaveLength count boxes = AllByRecursion (λ (box : List (List (ℤ × ℤ))). length box ≡ count) boxes

-- a line that splits nothing refutes a box
abbrev pub ClosesBox : Instance → Option (List ℤ) → Step → List (List (ℤ × ℤ)) → Type 0
ClosesBox m head steps.Empty box = HasEmpty box
ClosesBox m head (steps.Failing c) box = RefutesIfThere (slice_get m.constraints c) box
ClosesBox m head steps.Worse box = IsWorse m.goal box head
ClosesBox m head (steps.Split v n) box = ⊥

abbrev pub IsSplitTaken : Instance → ℕ → ℤ → Bool → List (List (List (ℤ × ℤ))) → List (List (List (ℤ × ℤ))) → Type 0
IsSplitTaken m v n false old new = IsSplitOf m v n → ⊥
IsSplitTaken m v n true old new = IsSplitOf m v n × IsSplitAt v n old new

-- Where the line is taken, the boxes that are left then are refuted by further lines exactly where those before were by it and
-- them; where it isn't, no lines that it begins refute them.
abbrev pub IsTaken : Instance → Option (List ℤ) → Step → Bool → List (List (List (ℤ × ℤ))) → List (List (List (ℤ × ℤ))) → Type 0
IsTaken m head step true old new = (lines : List Line) → AreRefutedBy m head old (line_of step ∷ lines) ↔ AreRefutedBy m head new lines
IsTaken m head step false old new = (lines : List Line) → AreRefutedBy m head old (line_of step ∷ lines) → ⊥
