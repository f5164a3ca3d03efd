-- Each box has a tree.
use Rattle.std.proofs.Common.{ℕ, zero, suc, ◌<◌, List, refl, arith}
use Rattle.std.specs.Prelude.{ℤ, Option}
use Rattle.fz_spec.specs.Instance.{Instance}
use Rattle.fz_model.specs.Kept.{IsModel}
use Rattle.fz_refutes.specs.Boxes.{AreSets, declared_box, low_half, high_half}
use Rattle.fz_refutes.specs.Trees.{Tree, Empty, Failing, Worse, Split, IsTreeOf, Line, IsEmpty, Fails, IsBehind, Splits, goal_variable, lines_of}
use Rattle.fz_refutes.specs.Texts.{IsHead, cert_text}
use Rattle.fz_refutes.specs.Makers.{HasNoBetter, IsPartOf, IsFirstFit, box_size}
use Rattle.fz_refutes.proofs.Insides.{low_sets, high_sets}
use Rattle.fz_refutes.proofs.Soundness.{declared_sets}
use Rattle.fz_refutes.proofs.Shrinking.{are_smaller, picked_open}
use Rattle.fz_refutes.proofs.Within.{declared_part, low_part, high_part}
use Rattle.fz_refutes.proofs.Fitting.{some_fits}
use Rattle.fz_refutes.specs.Certain.{TreeExists, CertExists}

-- what is known of each box on the way
record IsBoxOf (m : Instance) (box : List (List (ℤ × ℤ))) : Type 0 where
  part : IsPartOf m.variables box
  are : AreSets box

-- by the number of its assignments
grown : (fuel : ℕ) (m : Instance) (head : Option (List ℤ)) (box : List (List (ℤ × ℤ))) → box_size box < fuel → IsModel m → IsHead m head → HasNoBetter m head → IsBoxOf m box
    → (line : Line) → IsFirstFit m head box line → (tree : Tree) × IsTreeOf m head box tree
grown zero m head box less is is_head best of line fits = absurd (omega (arith, less))
grown (suc fuel) m head box less is is_head best of IsEmpty fits = (Empty, fits)
grown (suc fuel) m head box less is is_head best of (Fails c) fits = (Failing c, fits)
grown (suc fuel) m head box less is is_head best of IsBehind fits = (Worse, fits)
grown (suc fuel) m head box less is is_head best of (Splits v n) fits =
    let smaller = are_smaller box v n of.are fits.full (picked_open (goal_variable m.goal) box v fits.picked) fits.number in
    let both = smaller.both in
    let some_low = smaller.some_low in
    let some_high = smaller.some_high in
    let low_box : IsBoxOf m (low_half v n box) = record { part = low_part m.variables box v n of.part; are = low_sets box v n of.are } in
    let high_box : IsBoxOf m (high_half v n box) = record { part = high_part m.variables box v n of.part; are = high_sets box v n of.are } in
    let low_line = some_fits m head (low_half v n box) is is_head best low_box.part low_box.are in
    let high_line = some_fits m head (high_half v n box) is is_head best high_box.part high_box.are in
    let low = grown fuel m head (low_half v n box) (omega (arith, both, some_high, less)) is is_head best low_box low_line.0 low_line.1 in
    let high = grown fuel m head (high_half v n box) (omega (arith, both, some_low, less)) is is_head best high_box high_line.0 high_line.1 in
    (Split v n low.0 high.0, (fits, low.1, high.1))

pub tree_exists : TreeExists
tree_exists m head box is is_head best part are =
    let line = some_fits m head box is is_head best part are in
    grown (suc (box_size box)) m head box (omega arith) is is_head best (record { part = part; are = are }) line.0 line.1

pub cert_exists : CertExists
cert_exists m head is is_head best =
    let tree = tree_exists m head (declared_box m.variables) is is_head best (declared_part m.variables) (declared_sets m.variables is.sets) in
    (cert_text head (lines_of tree.0), record { tree = tree.0; is_tree = tree.1; is_text = refl })
