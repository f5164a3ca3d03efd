-- Lines that were read, and what is left of the text.
use Rattle.std.proofs.Common.{◌≡◌, ℕ, List, [], ◌∷◌, ◌++◌, refl, sym, ap, subst, ◌∙◌, arith, length, append_assoc, append-nil}
use Rattle.std.specs.Prelude.{ℤ, Option, ◌↔◌, Bool, true, false, bytes_eq, take, nat_eq}
use Rattle.std.proofs.lemmas.Bool.{false≢true}
use Rattle.fz_cert.specs.declared.step.Step.{Step}
use Rattle.fz_cert.proofs.Wording.{take_front}
use Rattle.fz_cert.specs.Steps.{IsTaken, line_of}
use Rattle.fz_spec.specs.Instance.{Instance}
use Rattle.fz_refutes.specs.Trees.{Line, AreRefutedBy}
use Rattle.fz_refutes.specs.Texts.{comment, line_text, lines_text}

pub record IsRead (m : Instance) (head : Option (List ℤ)) (old new : List (List (List (ℤ × ℤ)))) (text rest : List ℕ) : Type 0 where
  pub lines : List Line
  pub text_is : text ≡ lines_text lines ++ rest
  pub later : (more : List Line) → AreRefutedBy m head new more → AreRefutedBy m head old (lines ++ more)

one_later : (lines more : List Line) (line : Line) → (lines ++ line ∷ []) ++ more ≡ lines ++ line ∷ more
one_later lines more line = append_assoc lines (line ∷ []) more

text_more : (lines : List Line) (line : Line) → lines_text (lines ++ line ∷ []) ≡ lines_text lines ++ comment (line_text line)
text_more [] line = append-nil (comment (line_text line))
text_more (l ∷ ls) line = ap (λ (t : List ℕ). comment (line_text l) ++ t) (text_more ls line) ∙ sym (append_assoc (comment (line_text l)) (lines_text ls) (comment (line_text line)))

pub one_read : (m : Instance) (head : Option (List ℤ)) (old now new : List (List (List (ℤ × ℤ)))) (text rest later piece : List ℕ) (line : Line) → IsRead m head old now text rest
    → piece ≡ comment (line_text line) → rest ≡ piece ++ later → ((more : List Line) → AreRefutedBy m head now (line ∷ more) ↔ AreRefutedBy m head new more) → IsRead m head old new text later
one_read m head old now new text rest later piece line read is at taken = record {
  lines = read.lines ++ line ∷ [];
  text_is = read.text_is ∙ ap (λ (t : List ℕ). lines_text read.lines ++ t) (at ∙ ap (λ (t : List ℕ). t ++ later) is)
      ∙ sym (append_assoc (lines_text read.lines) (comment (line_text line)) later) ∙ ap (λ (t : List ℕ). t ++ later) (sym (text_more read.lines line));
  later = λ more out. subst (λ (ls : List Line). AreRefutedBy m head old ls) (sym (one_later read.lines more line)) (read.later (line ∷ more) ((taken more).1 out));
}

-- ---- what the code compares

bytes_self : (xs : List ℕ) → bytes_eq xs xs ≡ true
bytes_self [] = refl
bytes_self (x ∷ xs) = let here : nat_eq x x ≡ true = grind arith in rw here (bytes_self xs)

pub bytes_same : (xs ys : List ℕ) → xs ≡ ys → bytes_eq xs ys ≡ true
bytes_same xs ys e = subst (λ (zs : List ℕ). bytes_eq xs zs ≡ true) e (bytes_self xs)

pub no_front : (text piece front rest : List ℕ) → front ≡ take (length piece) text → bytes_eq front piece ≡ false → text ≡ piece ++ rest → ⊥
no_front text piece front rest is differ at =
    let same : front ≡ piece = is ∙ ap (take (length piece)) at ∙ take_front piece rest in
    false≢true (sym differ ∙ bytes_same front piece same)

pub all_read : (m : Instance) (head : Option (List ℤ)) (old new : List (List (List (ℤ × ℤ)))) (text rest last : List ℕ) → IsRead m head old new text rest → new ≡ [] → rest ≡ last
    → (lines : List Line) × AreRefutedBy m head old lines × (text ≡ lines_text lines ++ last)
all_read m head old new text rest last read none is = (
  read.lines,
  subst (λ (ls : List Line). AreRefutedBy m head old ls) (append-nil read.lines) (read.later [] (subst (λ (boxes : List (List (List (ℤ × ℤ)))). AreRefutedBy m head boxes []) (sym none) tt)),
  read.text_is ∙ ap (λ (t : List ℕ). lines_text read.lines ++ t) is,
)

pub when_taken : (m : Instance) (head : Option (List ℤ)) (step : Step) (taken_one : Bool) (old new : List (List (List (ℤ × ℤ)))) → IsTaken m head step taken_one old new → taken_one ≡ true
    → (more : List Line) → AreRefutedBy m head old (line_of step ∷ more) ↔ AreRefutedBy m head new more
when_taken m head step taken_one old new taken is = subst (λ (b : Bool). IsTaken m head step b old new) is taken
