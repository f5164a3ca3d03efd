-- Trees that refute boxes: how an output proves its answer.
use Rattle.std.specs.Prelude.{◌≡◌, ℕ, ◌<◌, ◌≤◌, ℤ, pos, ◌+ℤ◌, List, [], ◌∷◌, ◌++◌, length, slice_get, Option, Some, None, cond, nat_lt}
use Rattle.std.specs.Int.{int_div_euclid}
use Rattle.fz_sets.specs.Sets.{set_size}
use Rattle.fz_dom.specs.Shape.{least, greatest}
use Rattle.fz_spec.specs.declared.term.Term.TheVariants.{Var}
use Rattle.fz_spec.specs.declared.goal.Goal.{Goal}
use Rattle.fz_spec.specs.declared.goal.Goal.TheVariants.{Minimize, Maximize}
use Rattle.fz_spec.specs.Instance.{Instance}
use Rattle.fz_refutes.specs.Boxes.{HasEmpty, IsWord, set_at, low_half, high_half}
use Rattle.fz_refutes.specs.Refuted.{RefutesIfThere, IsWorse}

-- Some set is empty; the constraint of this number is refuted; no value of the goal is better; or the box is split at a number of a
-- variable, with a tree for each half.
pub data Tree : Type 0 where
  Empty : Tree
  Failing : (constraint : ℕ) → Tree
  Worse : Tree
  Split : (variable : ℕ) (number : ℤ) (low : Tree) (high : Tree) → Tree

-- a variable of the model, and a number of 32 bits
abbrev pub IsSplitOf : Instance → ℕ → ℤ → Type 0
IsSplitOf m v n = (v < length m.variables) × IsWord n

abbrev pub IsRefutedBy : Instance → Option (List ℤ) → List (List (ℤ × ℤ)) → Tree → Type 0
IsRefutedBy m head box Empty = HasEmpty box
IsRefutedBy m head box (Failing c) = RefutesIfThere (slice_get m.constraints c) box
IsRefutedBy m head box Worse = IsWorse m.goal box head
IsRefutedBy m head box (Split v n low high) = IsSplitOf m v n × IsRefutedBy m head (low_half v n box) low × IsRefutedBy m head (high_half v n box) high

-- ---- the tree of a box: the first form that fits

-- more than one number is left
abbrev pub IsOpen : List (List (ℤ × ℤ)) → ℕ → Type 0
IsOpen box v = 2 ≤ set_size (set_at box v)

abbrev pub goal_variable : Goal → Option ℕ
goal_variable (Minimize (Var v)) = Some v
goal_variable (Maximize (Var v)) = Some v
goal_variable goal = None

-- the first variable with more than one number
pub record IsFirstOpen (box : List (List (ℤ × ℤ))) (v : ℕ) : Type 0 where
  pub open_now : IsOpen box v
  pub first : (u : ℕ) → u < v → IsOpen box u → ⊥

-- the goal's variable where it is open, else the first that is
abbrev pub IsPicked : Option ℕ → List (List (ℤ × ℤ)) → ℕ → Type 0
IsPicked None box v = IsFirstOpen box v
IsPicked (Some goal) box v = cond (nat_lt 1 (set_size (set_at box goal))) (v ≡ goal) (IsFirstOpen box v)

-- the middle of the hull, rounded down
abbrev pub middle : List (ℤ × ℤ) → ℤ
middle d = int_div_euclid (least d +ℤ greatest d) (pos 2)

-- the constraint of this number is refuted, and none before it is
pub record IsFirstFailing (m : Instance) (box : List (List (ℤ × ℤ))) (c : ℕ) : Type 0 where
  pub refuted : RefutesIfThere (slice_get m.constraints c) box
  pub first : (b : ℕ) → b < c → RefutesIfThere (slice_get m.constraints b) box → ⊥

abbrev pub NoneFails : Instance → List (List (ℤ × ℤ)) → Type 0
NoneFails m box = (c : ℕ) → RefutesIfThere (slice_get m.constraints c) box → ⊥

pub record IsFailing (m : Instance) (box : List (List (ℤ × ℤ))) (c : ℕ) : Type 0 where
  pub full : HasEmpty box → ⊥
  pub failing : IsFirstFailing m box c

pub record IsHopeless (m : Instance) (head : Option (List ℤ)) (box : List (List (ℤ × ℤ))) : Type 0 where
  pub full : HasEmpty box → ⊥
  pub none_fails : NoneFails m box
  pub worse : IsWorse m.goal box head

pub record IsSplit (m : Instance) (head : Option (List ℤ)) (box : List (List (ℤ × ℤ))) (v : ℕ) (n : ℤ) : Type 0 where
  pub full : HasEmpty box → ⊥
  pub none_fails : NoneFails m box
  pub hope : IsWorse m.goal box head → ⊥
  pub within : IsSplitOf m v n
  pub picked : IsPicked (goal_variable m.goal) box v
  pub number : n ≡ middle (set_at box v)

abbrev pub IsTreeOf : Instance → Option (List ℤ) → List (List (ℤ × ℤ)) → Tree → Type 0
IsTreeOf m head box Empty = HasEmpty box
IsTreeOf m head box (Failing c) = IsFailing m box c
IsTreeOf m head box Worse = IsHopeless m head box
IsTreeOf m head box (Split v n low high) = IsSplit m head box v n × IsTreeOf m head (low_half v n box) low × IsTreeOf m head (high_half v n box) high

-- ---- lines of trees, in preorder

pub data Line : Type 0 where
  IsEmpty : Line
  Fails : (constraint : ℕ) → Line
  IsBehind : Line
  Splits : (variable : ℕ) (number : ℤ) → Line

abbrev pub lines_of : Tree → List Line
lines_of Empty = IsEmpty ∷ []
lines_of (Failing c) = Fails c ∷ []
lines_of Worse = IsBehind ∷ []
lines_of (Split v n low high) = Splits v n ∷ (lines_of low ++ lines_of high)

-- lines refute boxes, one tree for each
abbrev pub AreRefutedBy : Instance → Option (List ℤ) → List (List (List (ℤ × ℤ))) → List Line → Type 0
AreRefutedBy m head [] [] = Unit {0}
AreRefutedBy m head [] (line ∷ lines) = ⊥
AreRefutedBy m head (box ∷ boxes) [] = ⊥
AreRefutedBy m head (box ∷ boxes) (IsEmpty ∷ lines) = HasEmpty box × AreRefutedBy m head boxes lines
AreRefutedBy m head (box ∷ boxes) (Fails c ∷ lines) = RefutesIfThere (slice_get m.constraints c) box × AreRefutedBy m head boxes lines
AreRefutedBy m head (box ∷ boxes) (IsBehind ∷ lines) = IsWorse m.goal box head × AreRefutedBy m head boxes lines
AreRefutedBy m head (box ∷ boxes) (Splits v n ∷ lines) = IsSplitOf m v n × AreRefutedBy m head (low_half v n box ∷ high_half v n box ∷ boxes) lines
