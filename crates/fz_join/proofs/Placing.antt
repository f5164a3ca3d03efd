-- Which line of a text is of no part.
use Rattle.std.proofs.Common.{◌≡◌, ◌≢◌, ◌∙◌, ℕ, suc, List, [], ◌∷◌, ◌++◌, refl, sym, arith, subst, length}
use Rattle.std.specs.Prelude.{codes}
use Rattle.std.specs.List.{AllByRecursion}
use Rattle.fz_sets.proofs.Lists.{all_right}
use Rattle.fz_spec.specs.Instance.{Instance}
use Rattle.fz_tree.specs.declared.decision.Decision.{Decision}
use Rattle.fz_part.specs.Parts.{IsPartOf}
use Rattle.fz_part.specs.Texts.{part_text}
use Rattle.fz_join.specs.Joining.{IsLine}
use Rattle.fz_join.specs.Joins.{parts_text}
use Rattle.fz_join.specs.Parting.{IsMisplaced}
use Rattle.fz_join.proofs.LineBytes.{above_line, part_above}

part_line : (p : List Decision) → IsLine (part_text p)
part_line p = above_line 32 (part_text p) (omega arith) (part_above p)

-- two lines that texts begin with
same_line : (first second later more : List ℕ) → IsLine first → IsLine second → first ++ 10 ∷ later ≡ second ++ 10 ∷ more → first ≡ second
same_line [] [] later more f s is = refl
same_line [] (b ∷ bs) later more f s is = absurd (s.0 (let h : 10 ≡ b = cc in sym h))
same_line (a ∷ az) [] later more f s is = absurd (f.0 cc)
same_line (a ∷ az) (b ∷ bs) later more f s is =
    let head : a ≡ b = cc in
    let rest : az ++ 10 ∷ later ≡ bs ++ 10 ∷ more = cc in
    let same = same_line az bs later more f.1 s.1 rest in cc

not_empty : (line later : List ℕ) → line ++ 10 ∷ later ≢ []
not_empty [] later is = cc
not_empty (b ∷ bs) later is = cc

-- the next line is of no part
pub line_misplaced : (m : Instance) (text left line later : List ℕ) (ps : List (List Decision)) (place : ℕ) → text ≡ parts_text ps ++ left → AllByRecursion (IsPartOf m) ps → IsLine line → left ≡ line ++ 10 ∷ later → place ≡ suc (length ps)
    → ((p : List Decision) → IsPartOf m p → part_text p ≡ line → ⊥) → IsMisplaced m text place
line_misplaced m text left line later ps place is of_model is_line begins place_is none = record {
  front = ps;
  of_model = of_model;
  place = place_is;
  rest = left;
  is = is;
  some = λ empty. not_empty line later (sym begins ∙ empty);
  other = λ p more part begins_so. none p part (same_line (part_text p) line more later (part_line p) is_line (sym begins_so ∙ begins));
}

-- what is left has no end of a line
pub rest_misplaced : (m : Instance) (text left : List ℕ) (ps : List (List Decision)) (place : ℕ) → text ≡ parts_text ps ++ left → AllByRecursion (IsPartOf m) ps → IsLine left → left ≢ [] → place ≡ suc (length ps) → IsMisplaced m text place
rest_misplaced m text left ps place is of_model is_line some place_is = record {
  front = ps;
  of_model = of_model;
  place = place_is;
  rest = left;
  is = is;
  some = some;
  other = λ p more part begins. (all_right (λ (byte : ℕ). byte ≢ 10) (part_text p) (codes "\n" ++ more) (subst IsLine begins is_line)).0 refl;
}
