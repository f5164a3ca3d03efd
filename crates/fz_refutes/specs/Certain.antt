-- Where nothing is better there is a certificate, whether or not there is memory to make it.
use Rattle.std.specs.Prelude.{ℕ, ℤ, List, Option}
use Rattle.fz_spec.specs.Instance.{Instance}
use Rattle.fz_model.specs.Kept.{IsModel}
use Rattle.fz_refutes.specs.Boxes.{AreSets}
use Rattle.fz_refutes.specs.Trees.{Tree, Line, IsTreeOf}
use Rattle.fz_refutes.specs.Texts.{IsCert, IsHead}
use Rattle.fz_refutes.specs.Makers.{HasNoBetter, IsPartOf, IsFirstFit}

-- a line fits each box
abbrev pub SomeFits : Type 0
SomeFits = (m : Instance) (head : Option (List ℤ)) (box : List (List (ℤ × ℤ))) → IsModel m → IsHead m head → HasNoBetter m head → IsPartOf m.variables box → AreSets box
    → (line : Line) × IsFirstFit m head box line

-- each box has a tree
abbrev pub TreeExists : Type 0
TreeExists = (m : Instance) (head : Option (List ℤ)) (box : List (List (ℤ × ℤ))) → IsModel m → IsHead m head → HasNoBetter m head → IsPartOf m.variables box → AreSets box
    → (tree : Tree) × IsTreeOf m head box tree

abbrev pub CertExists : Type 0
CertExists = (m : Instance) (head : Option (List ℤ)) → IsModel m → IsHead m head → HasNoBetter m head → (text : List ℕ) × IsCert m head text
