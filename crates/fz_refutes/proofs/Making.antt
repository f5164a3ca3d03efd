-- Lines that are made one by one are those of trees.
use Rattle.std.proofs.Common.{◌≡◌, ℤ, List, [], ◌∷◌, ◌++◌, refl, sym, ap, ◌∙◌, append_assoc, append-nil}
use Rattle.std.specs.Prelude.{Option}
use Rattle.fz_spec.specs.Instance.{Instance}
use Rattle.fz_refutes.specs.Trees.{Tree, Empty, Failing, Worse, Split, IsTreeOf, Line, IsEmpty, Fails, IsBehind, Splits, lines_of}
use Rattle.fz_refutes.specs.Texts.{cert_text}
use Rattle.fz_refutes.specs.Makers.{AreTreesOf, FitsBefore, TreesCertify}

-- a tree of one line
leaf : (m : Instance) (head : Option (List ℤ)) (box : List (List (ℤ × ℤ))) (boxes : List (List (List (ℤ × ℤ)))) (tree : Tree) (line : Line) (lines : List Line)
    → lines_of tree ≡ line ∷ [] → IsTreeOf m head box tree → AreTreesOf m head boxes lines → AreTreesOf m head (box ∷ boxes) (line ∷ lines)
leaf m head box boxes tree line lines one is later = (lines, record { tree = tree; is_tree = is; is = ap (λ (ls : List Line). ls ++ lines) (sym one) }, later)

pub fits_before : FitsBefore
fits_before m head box boxes IsEmpty lines fits later = leaf m head box boxes Empty IsEmpty lines refl fits later
fits_before m head box boxes (Fails c) lines fits later = leaf m head box boxes (Failing c) (Fails c) lines refl fits later
fits_before m head box boxes IsBehind lines fits later = leaf m head box boxes Worse IsBehind lines refl fits later
fits_before m head box boxes (Splits v n) lines fits later =
    let low = later.1 in
    let high = later.2.1 in (
      later.2.0,
      record {
        tree = Split v n low.tree high.tree;
        is_tree = (fits, low.is_tree, high.is_tree);
        is = ap (λ (ls : List Line). Splits v n ∷ ls) (low.is ∙ ap (λ (ls : List Line). lines_of low.tree ++ ls) high.is ∙ sym (append_assoc (lines_of low.tree) (lines_of high.tree) later.2.0));
      },
      later.2.2,
    )

pub trees_certify : TreesCertify
trees_certify m head lines later =
    let first = later.1 in
    let is : lines ≡ lines_of first.tree = first.is ∙ ap (λ (ls : List Line). lines_of first.tree ++ ls) later.2 ∙ append-nil (lines_of first.tree) in
    record { tree = first.tree; is_tree = first.is_tree; is_text = ap (cert_text head) is }
