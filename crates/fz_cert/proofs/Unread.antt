-- Lines that refute the boxes of a walk are read to their end.
use Rattle.std.proofs.Common.{◌≡◌, ℕ, List, [], ◌∷◌, ◌++◌, refl, sym, ap, subst, ◌∙◌, length, drop, append_assoc, codes}
use Rattle.std.specs.Prelude.{ℤ, Option, Some, None, ◌↔◌, Bool, false, IsTrue}
use Rattle.std.proofs.lemmas.Bool.{false≢true}
use Rattle.fz_spec.specs.Instance.{Instance}
use Rattle.fz_model.specs.Kept.{IsModel}
use Rattle.fz_refutes.specs.Boxes.{declared_box}
use Rattle.fz_refutes.specs.Trees.{Line, AreRefutedBy, lines_of}
use Rattle.fz_refutes.specs.Texts.{comment, line_text, lines_text, head_text, front_text, cert_text, IsHead, Proves, ProvesHead}
use Rattle.fz_refutes.proofs.Preorder.{lines_are_checked}
use Rattle.fz_cert.specs.declared.step.Step.{Step}
use Rattle.fz_cert.specs.Steps.{line_of, IsTaken}
use Rattle.fz_cert.specs.Guesses.{HasWords, IsGuessed}
use Rattle.fz_cert.proofs.Wording.{drop_front}
use Rattle.fz_cert.proofs.Heading.{first_words}

abbrev pub last_line : List ℕ
last_line = comment (codes "end")

-- a text is lines that refute boxes, and the line of the end
pub record IsTreeText (m : Instance) (head : Option (List ℤ)) (boxes : List (List (List (ℤ × ℤ)))) (text : List ℕ) : Type 0 where
  pub lines : List Line
  pub refuted : AreRefutedBy m head boxes lines
  pub is : text ≡ lines_text lines ++ last_line

-- the same with the words of a clause
abbrev pub HasLines : Instance → Option (List ℤ) → List (List (List (ℤ × ℤ))) → List ℕ → Type 0
HasLines m head boxes text = (lines : List Line) × AreRefutedBy m head boxes lines × (text ≡ lines_text lines ++ last_line)

pub tree_of : (m : Instance) (head : Option (List ℤ)) (boxes : List (List (List (ℤ × ℤ)))) (text : List ℕ) → HasLines m head boxes text → IsTreeText m head boxes text
tree_of m head boxes text found = record { lines = found.0; refuted = found.1; is = found.2 }

pub refused : (m : Instance) (head : Option (List ℤ)) (boxes : List (List (List (ℤ × ℤ)))) (text : List ℕ) → (IsTreeText m head boxes text → ⊥) → IsTrue false ↔ HasLines m head boxes text
refused m head boxes text none = ((λ wrong. absurd (false≢true wrong)), (λ found. absurd (none (tree_of m head boxes text found))))

-- the first of them
pub record HasLine (m : Instance) (head : Option (List ℤ)) (boxes : List (List (List (ℤ × ℤ)))) (text : List ℕ) : Type 0 where
  pub line : Line
  pub lines : List Line
  pub refuted : AreRefutedBy m head boxes (line ∷ lines)
  pub words : HasWords line
  pub is : text ≡ comment (line_text line) ++ (lines_text lines ++ last_line)

some_line : (m : Instance) (head : Option (List ℤ)) (boxes : List (List (List (ℤ × ℤ)))) (text : List ℕ) (lines : List Line) → IsModel m → (boxes ≡ [] → ⊥) → AreRefutedBy m head boxes lines → text ≡ lines_text lines ++ last_line → HasLine m head boxes text
some_line m head [] text lines is some out at = absurd (some refl)
some_line m head (box ∷ boxes) text [] is some out at = absurd out
some_line m head (box ∷ boxes) text (line ∷ lines) is some out at = record {
  line = line;
  lines = lines;
  refuted = out;
  words = first_words m head (box ∷ boxes) line lines is out;
  is = at ∙ append_assoc (comment (line_text line)) (lines_text lines) last_line;
}

pub line_of_text : (m : Instance) (head : Option (List ℤ)) (boxes : List (List (List (ℤ × ℤ)))) (text : List ℕ) → IsModel m → (boxes ≡ [] → ⊥) → IsTreeText m head boxes text → HasLine m head boxes text
line_of_text m head boxes text is some tree = some_line m head boxes text tree.lines is some tree.refuted tree.is

abbrev pub Guesses : Option Step → List ℕ → Type 0
Guesses guess text = (line : Line) (rest : List ℕ) → HasWords line → text ≡ comment (line_text line) ++ rest → IsGuessed guess line

-- some line is guessed
pub none_guessed : (m : Instance) (head : Option (List ℤ)) (boxes : List (List (List (ℤ × ℤ)))) (text : List ℕ) → IsModel m → (boxes ≡ [] → ⊥) → IsTreeText m head boxes text → Guesses None text → ⊥
none_guessed m head boxes text is some tree guesses =
    let found = line_of_text m head boxes text is some tree in
    guesses found.line (lines_text found.lines ++ last_line) found.words found.is

-- it is that line, and stands there
pub none_behind : (m : Instance) (head : Option (List ℤ)) (boxes : List (List (List (ℤ × ℤ)))) (text piece : List ℕ) (step : Step) → IsModel m → (boxes ≡ [] → ⊥) → IsTreeText m head boxes text → Guesses (Some step) text
    → piece ≡ comment (line_text (line_of step)) → ((rest : List ℕ) → text ≡ piece ++ rest → ⊥) → ⊥
none_behind m head boxes text piece step is some tree guesses printed none =
    let found = line_of_text m head boxes text is some tree in
    let rest = lines_text found.lines ++ last_line in
    let same = guesses found.line rest found.words found.is in
    none rest (found.is ∙ ap (λ (line : Line). comment (line_text line) ++ rest) (sym same) ∙ ap (λ (t : List ℕ). t ++ rest) (sym printed))

-- it is taken
pub none_taken : (m : Instance) (head : Option (List ℤ)) (old new : List (List (List (ℤ × ℤ)))) (text : List ℕ) (step : Step) (taken : Bool) → IsModel m → (old ≡ [] → ⊥) → IsTreeText m head old text → Guesses (Some step) text
    → IsTaken m head step taken old new → taken ≡ false → ⊥
none_taken m head old new text step taken is some tree guesses takes not =
    let found = line_of_text m head old text is some tree in
    let same = guesses found.line (lines_text found.lines ++ last_line) found.words found.is in
    subst (λ (t : Bool). IsTaken m head step t old new) not takes found.lines (subst (λ (line : Line). AreRefutedBy m head old (line ∷ found.lines)) (sym same) found.refuted)

-- what is after it refutes the boxes that are left then
pub rest_of_tree : (m : Instance) (head : Option (List ℤ)) (old new : List (List (List (ℤ × ℤ)))) (text piece rest : List ℕ) (step : Step) → IsModel m → (old ≡ [] → ⊥) → IsTreeText m head old text → Guesses (Some step) text
    → piece ≡ comment (line_text (line_of step)) → text ≡ piece ++ rest → ((lines : List Line) → AreRefutedBy m head old (line_of step ∷ lines) ↔ AreRefutedBy m head new lines) → IsTreeText m head new rest
rest_of_tree m head old new text piece rest step is some tree guesses printed at taken =
    let found = line_of_text m head old text is some tree in
    let later = lines_text found.lines ++ last_line in
    let same = guesses found.line later found.words found.is in
    let both : piece ++ rest ≡ piece ++ later = sym at ∙ found.is ∙ ap (λ (line : Line). comment (line_text line) ++ later) (sym same) ∙ ap (λ (t : List ℕ). t ++ later) (sym printed) in
    record {
      lines = found.lines;
      refuted = (taken found.lines).0 (subst (λ (line : Line). AreRefutedBy m head old (line ∷ found.lines)) (sym same) found.refuted);
      is = sym (drop_front piece rest) ∙ ap (drop (length piece)) both ∙ drop_front piece later;
    }

-- where no box is left, the end is
pub ends : (m : Instance) (head : Option (List ℤ)) (boxes : List (List (List (ℤ × ℤ)))) (text : List ℕ) → boxes ≡ [] → IsTreeText m head boxes text → text ≡ last_line
ends m head boxes text none tree = tree.is ∙ ap (λ (ls : List Line). lines_text ls ++ last_line) (nothing tree.lines (subst (λ (bs : List (List (List (ℤ × ℤ)))). AreRefutedBy m head bs tree.lines) none tree.refuted))
  where
    nothing : (lines : List Line) → AreRefutedBy m head [] lines → lines ≡ []
    nothing [] out = refl
    nothing (line ∷ lines) out = absurd out

-- ---- the text of a tree in an output that proves

cert_is : (m : Instance) (head : Option (List ℤ)) (lines : List Line) → front_text m head ++ cert_text head lines
    ≡ (front_text m head ++ (comment (codes "fzcert 1") ++ comment (head_text head))) ++ (lines_text lines ++ last_line)
cert_is m head lines =
    let first = comment (codes "fzcert 1") in
    let second = comment (head_text head) in
    let later = lines_text lines ++ last_line in
    ap (λ (t : List ℕ). front_text m head ++ t) (sym (append_assoc first second later)) ∙ sym (append_assoc (front_text m head) (first ++ second) later)

pub front_there : (m : Instance) (head : Option (List ℤ)) (output front : List ℕ) (proof : ProvesHead m head output) → front ≡ front_text m head ++ (comment (codes "fzcert 1") ++ comment (head_text head))
    → output ≡ front ++ (lines_text (lines_of proof.tree) ++ last_line)
front_there m head output front proof is = proof.text ∙ cert_is m head (lines_of proof.tree) ∙ ap (λ (t : List ℕ). t ++ (lines_text (lines_of proof.tree) ++ last_line)) (sym is)

pub tree_there : (m : Instance) (head : Option (List ℤ)) (box : List (List (ℤ × ℤ))) (boxes : List (List (List (ℤ × ℤ)))) (output front rest : List ℕ) → ProvesHead m head output → front ≡ front_text m head ++ (comment (codes "fzcert 1") ++ comment (head_text head))
    → output ≡ front ++ rest → box ≡ declared_box m.variables → boxes ≡ box ∷ [] → IsTreeText m head boxes rest
tree_there m head box boxes output front rest proof is at first are =
    let later = lines_text (lines_of proof.tree) ++ last_line in
    let both : front ++ rest ≡ front ++ later = sym at ∙ front_there m head output front proof is in
    record {
      lines = lines_of proof.tree;
      refuted = subst (λ (bs : List (List (List (ℤ × ℤ)))). AreRefutedBy m head bs (lines_of proof.tree)) (sym (are ∙ ap (λ (b : List (List (ℤ × ℤ))). b ∷ []) first)) (lines_are_checked m head (declared_box m.variables) proof.tree proof.refuted);
      is = sym (drop_front front rest) ∙ ap (drop (length front)) both ∙ drop_front front later;
    }

pub lines_there : (m : Instance) (head : Option (List ℤ)) (box : List (List (ℤ × ℤ))) (boxes : List (List (List (ℤ × ℤ)))) (output front rest : List ℕ) → ProvesHead m head output → front ≡ front_text m head ++ (comment (codes "fzcert 1") ++ comment (head_text head))
    → output ≡ front ++ rest → box ≡ declared_box m.variables → boxes ≡ box ∷ [] → HasLines m head boxes rest
lines_there m head box boxes output front rest proof is at first are =
    let tree = tree_there m head box boxes output front rest proof is at first are in (tree.lines, tree.refuted, tree.is)

pub no_front : (m : Instance) (head : Option (List ℤ)) (output front : List ℕ) → front ≡ front_text m head ++ (comment (codes "fzcert 1") ++ comment (head_text head)) → ((rest : List ℕ) → output ≡ front ++ rest → ⊥) → IsTrue false ↔ ProvesHead m head output
no_front m head output front is none = ((λ wrong. absurd (false≢true wrong)), (λ proof. absurd (none (lines_text (lines_of proof.tree) ++ last_line) (front_there m head output front proof is))))

-- ---- the head that is guessed

abbrev pub GuessesHead : Instance → List ℕ → Option (List ℤ) → Type 0
GuessesHead m output guess = (head : Option (List ℤ)) → ProvesHead m head output → guess ≡ head

pub no_head : (m : Instance) (output : List ℕ) (guess : Option (List ℤ)) (may : Bool) → GuessesHead m output guess → IsTrue may ↔ IsHead m guess → may ≡ false → IsTrue false ↔ Proves m output
no_head m output guess may guesses is not = (
  (λ wrong. absurd (false≢true wrong)),
  (λ found. absurd (false≢true (sym not ∙ is.1 (subst (IsHead m) (sym (guesses found.0 found.1)) found.1.is_head)))),
)

pub by_head : (m : Instance) (output : List ℕ) (guess : Option (List ℤ)) (proves : Bool) → GuessesHead m output guess → IsTrue proves ↔ ProvesHead m guess output → IsTrue proves ↔ Proves m output
by_head m output guess proves guesses is = ((λ t. (guess, is.0 t)), (λ found. is.1 (subst (λ (h : Option (List ℤ)). ProvesHead m h output) (sym (guesses found.0 found.1)) found.1)))
