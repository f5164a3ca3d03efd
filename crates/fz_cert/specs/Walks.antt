-- How a walk keeps the boxes that are still to be refuted: the next one, and the splits above it, the lowest first.
use Rattle.std.specs.Prelude.{◌≡◌, ℕ, ◌<◌, Bool, true, false, cond, ℤ, List, [], ◌∷◌, length, slice_set}
use Rattle.std.specs.List.{AllByRecursion}
use Rattle.fz_cert.specs.declared.walk.Turn.{Turn}
use Rattle.fz_refutes.specs.Boxes.{low_half, high_half}

-- the box that a split divided
abbrev pub whole_of : List (List (ℤ × ℤ)) → Turn → List (List (ℤ × ℤ))
whole_of box turn = slice_set box turn.variable turn.whole

-- the boxes after a box
abbrev pub boxes_behind : List (List (ℤ × ℤ)) → List Turn → List (List (List (ℤ × ℤ)))
boxes_behind box [] = []
boxes_behind box (turn ∷ turns) = cond turn.is_high (boxes_behind (whole_of box turn) turns)
    (high_half turn.variable turn.number (whole_of box turn) ∷ boxes_behind (whole_of box turn) turns)

abbrev pub boxes_left : Bool → List (List (ℤ × ℤ)) → List Turn → List (List (List (ℤ × ℤ)))
boxes_left true box turns = []
boxes_left false box turns = box ∷ boxes_behind box turns

-- the splits are of variables that there are
abbrev pub AreTurns : ℕ → List Turn → Type 0
AreTurns count turns = AllByRecursion (λ (turn : Turn). turn.variable < count) turns

-- a variable of the box that is next
abbrev pub IsPlace : ℕ → List (List (List (ℤ × ℤ))) → Type 0
IsPlace v [] = ⊥
IsPlace v (box ∷ boxes) = v < length box

-- the box that is next is split, and is taken away
abbrev pub IsSplitAt : ℕ → ℤ → List (List (List (ℤ × ℤ))) → List (List (List (ℤ × ℤ))) → Type 0
IsSplitAt v n [] new = ⊥
IsSplitAt v n (box ∷ boxes) new = new ≡ low_half v n box ∷ high_half v n box ∷ boxes

abbrev pub IsClosed : List (List (List (ℤ × ℤ))) → List (List (List (ℤ × ℤ))) → Type 0
IsClosed [] new = ⊥
IsClosed (box ∷ boxes) new = new ≡ boxes
