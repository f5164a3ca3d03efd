-- How a certificate is made: line by line, each the first that fits the box that is next.
use Rattle.std.specs.Prelude.{◌≡◌, ℕ, ◌+◌, ◌-◌, ◌*◌, ◌<◌, ℤ, List, [], ◌∷◌, ◌++◌, Option}
use Rattle.fz_sets.specs.Sets.{IsInSet, set_size}
use Rattle.fz_spec.specs.Instance.{Instance, Variable, Satisfies}
use Rattle.fz_refutes.specs.Boxes.{AreSets, HasEmpty, declared_box, low_half, high_half}
use Rattle.fz_refutes.specs.Refuted.{IsWorse}
use Rattle.fz_refutes.specs.Trees.{Tree, Line, IsEmpty, Fails, IsBehind, Splits, IsOpen, NoneFails, IsFailing, IsHopeless, IsSplit, IsTreeOf, lines_of}
use Rattle.fz_refutes.specs.Texts.{IsCert, IsHead, cert_text}
use Rattle.fz_refutes.specs.Laws.{Betters}

-- nothing that satisfies is better than the head
abbrev pub HasNoBetter : Instance → Option (List ℤ) → Type 0
HasNoBetter m head = (b : List ℤ) → Satisfies m b → Betters m b head → ⊥

-- one set for each variable, a part of its declared set
abbrev pub IsPartOf : List Variable → List (List (ℤ × ℤ)) → Type 0
IsPartOf [] [] = Unit {0}
IsPartOf (v ∷ vs) (d ∷ ds) = ((x : ℤ) → IsInSet d x → IsInSet v.set x) × IsPartOf vs ds
IsPartOf [] (d ∷ ds) = ⊥
IsPartOf (v ∷ vs) [] = ⊥

-- a line is that of the first form of a tree that fits a box
abbrev pub IsFirstFit : Instance → Option (List ℤ) → List (List (ℤ × ℤ)) → Line → Type 0
IsFirstFit m head box IsEmpty = HasEmpty box
IsFirstFit m head box (Fails c) = IsFailing m box c
IsFirstFit m head box IsBehind = IsHopeless m head box
IsFirstFit m head box (Splits v n) = IsSplit m head box v n

-- the boxes that are left after a line of the first of them
abbrev pub boxes_after : Line → List (List (ℤ × ℤ)) → List (List (List (ℤ × ℤ))) → List (List (List (ℤ × ℤ)))
boxes_after (Splits v n) box boxes = low_half v n box ∷ high_half v n box ∷ boxes
boxes_after line box boxes = boxes

-- lines begin with those of the tree of a box, and these are after it
pub record BeginsWithTree (m : Instance) (head : Option (List ℤ)) (box : List (List (ℤ × ℤ))) (lines rest : List Line) : Type 0 where
  pub tree : Tree
  pub is_tree : IsTreeOf m head box tree
  pub is : lines ≡ lines_of tree ++ rest

-- lines are those of the trees of boxes, one tree after another
abbrev pub AreTreesOf : Instance → Option (List ℤ) → List (List (List (ℤ × ℤ))) → List Line → Type 0
AreTreesOf m head [] lines = lines ≡ []
AreTreesOf m head (box ∷ boxes) lines = (rest : List Line) × BeginsWithTree m head box lines rest × AreTreesOf m head boxes rest

-- ---- how long a tree can be

-- how many assignments a box has
abbrev pub box_size : List (List (ℤ × ℤ)) → ℕ
box_size [] = 1
box_size (d ∷ ds) = set_size d * box_size ds

-- A tree of a box has one line where the box has no assignment, and at most 2k - 1 where it has k.
abbrev pub most_lines : List (List (ℤ × ℤ)) → ℕ
most_lines box = (2 * box_size box - 2) + 1

abbrev pub most_lines_of : List (List (List (ℤ × ℤ))) → ℕ
most_lines_of [] = 0
most_lines_of (box ∷ boxes) = most_lines box + most_lines_of boxes

-- ---- laws

-- Where no other line fits a box, several numbers are left of some variable.
abbrev pub SomeIsOpen : Type 0
SomeIsOpen = (m : Instance) (head : Option (List ℤ)) (box : List (List (ℤ × ℤ))) → IsHead m head → HasNoBetter m head → IsPartOf m.variables box → AreSets box
    → (HasEmpty box → ⊥) → NoneFails m box → (IsWorse m.goal box head → ⊥) → ((v : ℕ) → IsOpen box v → ⊥) → ⊥

-- A line that fits the first of some boxes, before those of trees of the boxes that it leaves, is of trees of them all.
abbrev pub FitsBefore : Type 0
FitsBefore = (m : Instance) (head : Option (List ℤ)) (box : List (List (ℤ × ℤ))) (boxes : List (List (List (ℤ × ℤ)))) (line : Line) (lines : List Line)
    → IsFirstFit m head box line → AreTreesOf m head (boxes_after line box boxes) lines → AreTreesOf m head (box ∷ boxes) (line ∷ lines)

-- After it fewer lines can come.
abbrev pub FitsShorten : Type 0
FitsShorten = (m : Instance) (head : Option (List ℤ)) (box : List (List (ℤ × ℤ))) (boxes : List (List (List (ℤ × ℤ)))) (line : Line)
    → AreSets box → IsFirstFit m head box line → most_lines_of (boxes_after line box boxes) < most_lines_of (box ∷ boxes)

-- The lines of the tree of the declared sets make the certificate.
abbrev pub TreesCertify : Type 0
TreesCertify = (m : Instance) (head : Option (List ℤ)) (lines : List Line) → AreTreesOf m head (declared_box m.variables ∷ []) lines → IsCert m head (cert_text head lines)
