-- Something is always ahead of a maker that hasn't failed.
use Rattle.std.proofs.Common.{◌≡◌, ℤ, List, [], ◌∷◌, ◌++◌, refl, codes}
use Rattle.std.specs.Prelude.{Option}
use Rattle.fz_spec.specs.Instance.{Instance}
use Rattle.fz_model.specs.Kept.{IsModel}
use Rattle.fz_refutes.specs.Trees.{Line, lines_of}
use Rattle.fz_refutes.specs.Texts.{IsHead, comment, head_text, lines_text, cert_text}
use Rattle.fz_refutes.specs.Makers.{HasNoBetter, AreTreesOf}
use Rattle.fz_refutes.proofs.Growing.{tree_exists}
use Rattle.fz_maker.specs.declared.maker.Stage.{Stage}
use Rattle.fz_maker.specs.declared.maker.Stage.TheVariants as stages
use Rattle.fz_maker.specs.Making.{AreBoxes, AreKept, HasRest, IsMaker, Making}

trees_exist : (m : Instance) (head : Option (List ℤ)) (boxes : List (List (List (ℤ × ℤ)))) → IsModel m → IsHead m head → HasNoBetter m head → AreBoxes m.variables boxes → (lines : List Line) × AreTreesOf m head boxes lines
trees_exist m head [] is is_head best are = ([], refl)
trees_exist m head (box ∷ boxes) is is_head best are =
    let tree = tree_exists m head box is is_head best are.0.part are.0.sets in
    let later = trees_exist m head boxes is is_head best are.1 in
    (lines_of tree.0 ++ later.0, (later.0, record { tree = tree.0; is_tree = tree.1; is = refl }, later.1))

rest_at : (stage : Stage) (m : Instance) (head : Option (List ℤ)) (boxes : List (List (List (ℤ × ℤ)))) → IsModel m → IsHead m head → HasNoBetter m head → (stage ≡ stages.Failed → ⊥) → AreKept stage m.variables boxes
    → HasRest (record { model = m; head = head; stage = stage; boxes = boxes })
rest_at stages.First m head boxes is is_head best sound kept =
    let lines = trees_exist m head boxes is is_head best kept in
    (cert_text head lines.0, record { lines = lines.0; are = lines.1; ahead = refl })
rest_at stages.Head m head boxes is is_head best sound kept =
    let lines = trees_exist m head boxes is is_head best kept in
    (comment (head_text head) ++ (lines_text lines.0 ++ comment (codes "end")), record { lines = lines.0; are = lines.1; ahead = refl })
rest_at stages.Tree m head boxes is is_head best sound kept =
    let lines = trees_exist m head boxes is is_head best kept in
    (lines_text lines.0 ++ comment (codes "end"), record { lines = lines.0; are = lines.1; ahead = refl })
rest_at stages.Done m head [] is is_head best sound kept = ([], record { lines = []; are = refl; ahead = refl })
rest_at stages.Done m head (box ∷ boxes) is is_head best sound kept = absurd (cc kept)
rest_at stages.Failed m head boxes is is_head best sound kept = absurd (sound refl)

pub has_rest : (k : Making) (values : List ℤ) → IsModel k.model → IsMaker k values → (k.stage ≡ stages.Failed → ⊥) → HasRest k
has_rest k values is maker sound = rest_at k.stage k.model k.head k.boxes is maker.is_head maker.best sound maker.boxes
