-- What the checker read proves.
use Rattle.std.proofs.Common.{◌≡◌, ℕ, suc, List, [], ◌∷◌, ◌++◌, refl, sym, ap, subst, ◌∙◌, length, append_assoc, codes}
use Rattle.std.specs.Prelude.{ℤ, Option}
use Rattle.fz_spec.specs.Instance.{Instance, Variable}
use Rattle.fz_refutes.specs.Boxes.{declared_box}
use Rattle.fz_refutes.specs.Trees.{Line, AreRefutedBy}
use Rattle.fz_cert.specs.Steps.{HaveLength}
use Rattle.fz_refutes.specs.Texts.{comment, head_text, front_text, lines_text, cert_text, IsHead, ProvesHead}
use Rattle.fz_refutes.proofs.Preorder.{checked_is_refuted}

declared_length : (vs : List Variable) → length (declared_box vs) ≡ length vs
declared_length [] = refl
declared_length (v ∷ vs) = ap suc (declared_length vs)

pub one_box : (vs : List Variable) (box : List (List (ℤ × ℤ))) (boxes : List (List (List (ℤ × ℤ)))) → box ≡ declared_box vs → boxes ≡ box ∷ [] → HaveLength (length vs) boxes
one_box vs box boxes is are = subst (HaveLength (length vs)) (sym are) (ap length is ∙ declared_length vs, tt)

pub proved : (m : Instance) (head : Option (List ℤ)) (box : List (List (ℤ × ℤ))) (boxes : List (List (List (ℤ × ℤ)))) (output front rest : List ℕ) (lines : List Line) → IsHead m head → box ≡ declared_box m.variables → boxes ≡ box ∷ []
    → output ≡ front ++ rest → front ≡ front_text m head ++ (comment (codes "fzcert 1") ++ comment (head_text head)) → AreRefutedBy m head boxes lines → rest ≡ lines_text lines ++ comment (codes "end")
    → ProvesHead m head output
proved m head box boxes output front rest lines is_head is are at begins out ends =
    let found = checked_is_refuted m head (declared_box m.variables) lines (subst (λ (b : List (List (ℤ × ℤ))). AreRefutedBy m head (b ∷ []) lines) is (subst (λ (bs : List (List (List (ℤ × ℤ)))). AreRefutedBy m head bs lines) are out)) in
    let first = comment (codes "fzcert 1") in
    let second = comment (head_text head) in
    let last = lines_text lines ++ comment (codes "end") in
    record {
      is_head = is_head;
      tree = found.0;
      refuted = found.1;
      text = at ∙ ap (λ (t : List ℕ). t ++ rest) begins ∙ ap (λ (t : List ℕ). (front_text m head ++ (first ++ second)) ++ t) ends
          ∙ append_assoc (front_text m head) (first ++ second) last ∙ ap (λ (t : List ℕ). front_text m head ++ t) (append_assoc first second last)
          ∙ ap (λ (ls : List Line). front_text m head ++ cert_text head ls) found.2;
    }
