-- What is ahead of a maker, line by line.
use Rattle.std.proofs.Common.{◌≡◌, ℕ, ℤ, List, [], ◌∷◌, ◌++◌, sym, ap, subst, ◌∙◌, arith, length, append_assoc, append-nil, codes}
use Rattle.std.specs.Prelude.{Option}
use Rattle.fz_spec.specs.Instance.{Instance, Variable}
use Rattle.fz_refutes.specs.Boxes.{AreSets, low_half, high_half}
use Rattle.fz_refutes.specs.Trees.{Line, IsEmpty, Fails, IsBehind, Splits}
use Rattle.fz_refutes.specs.Texts.{comment, line_text, head_text, lines_text}
use Rattle.fz_refutes.specs.Makers.{IsPartOf, IsFirstFit, boxes_after, AreTreesOf, most_lines_of}
use Rattle.fz_refutes.proofs.Insides.{low_sets, high_sets}
use Rattle.fz_refutes.proofs.Making.{fits_before}
use Rattle.fz_refutes.proofs.Shrinking.{fits_shorten}
use Rattle.fz_refutes.proofs.Within.{part_length, low_part, high_part}
use Rattle.fz_maker.specs.declared.maker.Stage.{Stage}
use Rattle.fz_maker.specs.declared.maker.Stage.TheVariants as stages
use Rattle.fz_maker.specs.Making.{AreBoxes, IsBoxOf, IsGoneOn, IsMade, Making, IsWritten}

-- ---- boxes

first_part : (vs : List Variable) (boxes : List (List (List (ℤ × ℤ)))) (box : List (List (ℤ × ℤ))) (rest : List (List (List (ℤ × ℤ)))) → boxes ≡ box ∷ rest → AreBoxes vs boxes → IsPartOf vs box
first_part vs boxes box rest is parts = (subst (AreBoxes vs) is parts).0.part

pub first_length : (vs : List Variable) (boxes : List (List (List (ℤ × ℤ)))) (box : List (List (ℤ × ℤ))) (rest : List (List (List (ℤ × ℤ)))) → boxes ≡ box ∷ rest → AreBoxes vs boxes → length box ≡ length vs
first_length vs boxes box rest is parts = part_length vs box (first_part vs boxes box rest is parts)

pub made : (m : Instance) (head : Option (List ℤ)) (line : Line) (old : List (List (List (ℤ × ℤ)))) (box : List (List (ℤ × ℤ))) (rest new : List (List (List (ℤ × ℤ))))
    → old ≡ box ∷ rest → AreSets box → IsFirstFit m head box line → IsGoneOn line old new → IsMade m head line old new
made m head line old box rest new is sets fits gone =
    subst (λ (boxes : List (List (List (ℤ × ℤ)))). IsMade m head line boxes new) (sym is)
    (record { sets = sets; fits = fits; left = subst (λ (boxes : List (List (List (ℤ × ℤ)))). IsGoneOn line boxes new) is gone })

left_after : (vs : List Variable) (line : Line) (box : List (List (ℤ × ℤ))) (boxes : List (List (List (ℤ × ℤ)))) → AreBoxes vs (box ∷ boxes) → AreBoxes vs (boxes_after line box boxes)
left_after vs IsEmpty box boxes parts = parts.1
left_after vs (Fails c) box boxes parts = parts.1
left_after vs IsBehind box boxes parts = parts.1
left_after vs (Splits v n) box boxes parts =
    let here = parts.0 in
    let low : IsBoxOf vs (low_half v n box) = record { part = low_part vs box v n here.part; sets = low_sets box v n here.sets } in
    let high : IsBoxOf vs (high_half v n box) = record { part = high_part vs box v n here.part; sets = high_sets box v n here.sets } in
    (low, (high, parts.1))

pub boxes_made : (m : Instance) (head : Option (List ℤ)) (line : Line) (old new : List (List (List (ℤ × ℤ)))) → AreBoxes m.variables old → IsMade m head line old new → AreBoxes m.variables new
boxes_made m head line [] new parts made = absurd made
boxes_made m head line (box ∷ boxes) new parts made = subst (AreBoxes m.variables) (sym made.left) (left_after m.variables line box boxes parts)

-- ---- lines

abbrev pub making : Instance → Option (List ℤ) → Stage → List (List (List (ℤ × ℤ))) → Making
making m head stage boxes = record { model = m; head = head; stage = stage; boxes = boxes }

pub first_written : (m : Instance) (head : Option (List ℤ)) (boxes : List (List (List (ℤ × ℤ)))) (line : List ℕ) → line ≡ comment (codes "fzcert 1") → IsWritten line (making m head stages.First boxes) (making m head stages.Head boxes)
first_written m head boxes line is = record {
  text = λ later ahead. record { lines = ahead.lines; are = ahead.are; ahead = ap (λ (t : List ℕ). t ++ later) is ∙ ap (λ (t : List ℕ). comment (codes "fzcert 1") ++ t) ahead.ahead };
  fewer = omega arith;
  sound = λ e. absurd (cc e);
}

pub head_written : (m : Instance) (head : Option (List ℤ)) (boxes : List (List (List (ℤ × ℤ)))) (line : List ℕ) → line ≡ comment (head_text head) → IsWritten line (making m head stages.Head boxes) (making m head stages.Tree boxes)
head_written m head boxes line is = record {
  text = λ later ahead. record { lines = ahead.lines; are = ahead.are; ahead = ap (λ (t : List ℕ). t ++ later) is ∙ ap (λ (t : List ℕ). comment (head_text head) ++ t) ahead.ahead };
  fewer = omega arith;
  sound = λ e. absurd (cc e);
}

pub end_written : (m : Instance) (head : Option (List ℤ)) (boxes : List (List (List (ℤ × ℤ)))) (line : List ℕ) → boxes ≡ [] → line ≡ comment (codes "end") → IsWritten line (making m head stages.Tree boxes) (making m head stages.Done boxes)
end_written m head boxes line none is = record {
  text = λ later ahead.
      let no_lines : ahead.lines ≡ [] = subst (λ (bs : List (List (List (ℤ × ℤ)))). AreTreesOf m head bs ahead.lines) none ahead.are in
      record {
        lines = ahead.lines;
        are = ahead.are;
        ahead = ap (λ (t : List ℕ). line ++ t) ahead.ahead ∙ append-nil line ∙ is ∙ ap (λ (ls : List Line). lines_text ls ++ comment (codes "end")) (sym no_lines);
      };
  fewer = omega arith;
  sound = λ e. absurd (cc e);
}

pub step_written : (m : Instance) (head : Option (List ℤ)) (step : Line) (old new : List (List (List (ℤ × ℤ)))) (line : List ℕ) → IsMade m head step old new → line ≡ comment (line_text step)
    → IsWritten line (making m head stages.Tree old) (making m head stages.Tree new)
step_written m head step [] new line made is = absurd made
step_written m head step (box ∷ boxes) new line made is = record {
  text = λ later ahead. record {
    lines = step ∷ ahead.lines;
    are = fits_before m head box boxes step ahead.lines made.fits (subst (λ (bs : List (List (List (ℤ × ℤ)))). AreTreesOf m head bs ahead.lines) made.left ahead.are);
    ahead = ap (λ (t : List ℕ). t ++ later) is ∙ ap (λ (t : List ℕ). comment (line_text step) ++ t) ahead.ahead ∙ sym (append_assoc (comment (line_text step)) (lines_text ahead.lines) (comment (codes "end")));
  };
  fewer =
      let less = fits_shorten m head box boxes step made.sets made.fits in
      let same = ap most_lines_of made.left in
      omega (arith, less, same);
  sound = λ e. absurd (cc e);
}

pub as_written : (line piece : List ℕ) (old from new to : Making) → line ≡ piece → old ≡ from → new ≡ to → IsWritten piece from to → IsWritten line old new
as_written line piece old from new to is before after written = rw (is, before, after) written
