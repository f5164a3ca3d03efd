-- The line of a comparison, and of one with a Boolean: it lasts, and is the truth where one number is left of each term.
use Rattle.std.proofs.Common.{◌≡◌, List, [], ◌∷◌, ◌∙◌, refl, ap, arith, length}
use Rattle.std.specs.Prelude.{ℤ, pos}
use Rattle.std.proofs.lemmas.Int.{ints}
use Rattle.fz_sets.specs.Sets.{IsInSet, single}
use Rattle.fz_sets.proofs.Lists.{all_left, all_right, all_both}
use Rattle.fz_dom.specs.Shape.{least}
use Rattle.fz_spec.specs.declared.term.Term.{Term}
use Rattle.fz_spec.specs.Constraints.{term_value}
use Rattle.fz_spec.specs.Truth.{IsReified, Relates}
use Rattle.fz_spec.specs.declared.shape.Relation.{Relation}
use Rattle.fz_spec.specs.declared.shape.Relation.TheVariants.{Equal, NotEqual, AtMost, Below}
use Rattle.fz_strength.specs.declared.event.Event.TheVariants.{Any}
use Rattle.fz_strength.specs.Domains.{term_set}
use Rattle.fz_strength.specs.Events.{IsQuiet, wait_for, waits_for}
use Rattle.fz_strength.specs.Lines.{IsReifiedLine}
use Rattle.fz_strength.specs.Meanings.{IsLawful}
use Rattle.fz_strength.specs.Relations.{RestsAs, RestsAgainst, RestsIf, IsShown, IsRefuted, event_of, reified_event, comparison, reified_comparison}
use Rattle.fz_strength.proofs.Terms.{Quiet, in_single, term_narrower, term_quiet, terms_quiet, term_alone, terms_alone, wait_below, waits_below}
use Rattle.fz_strength.proofs.Terms as terms

-- ---- it lasts

pub kept_as : (relation : Relation) (d e f g : List (ℤ × ℤ)) → ((x : ℤ) → IsInSet f x → IsInSet d x) → ((x : ℤ) → IsInSet g x → IsInSet e x)
    → IsQuiet (event_of relation) d f → IsQuiet (event_of relation) e g → RestsAs relation d e → RestsAs relation f g
kept_as Equal d e f g to_d to_e at_d at_e h = cc
kept_as NotEqual d e f g to_d to_e at_d at_e h = (
  (λ x only is. h.0 x (at_d x only ∙ only) (to_e x is)),
  (λ x only is. h.1 x (at_e x only ∙ only) (to_d x is)),
)
kept_as AtMost d e f g to_d to_e at_d at_e h = rw (← at_d.0, ← at_d.1, ← at_e.0, ← at_e.1) h
kept_as Below d e f g to_d to_e at_d at_e h = rw (← at_d.0, ← at_d.1, ← at_e.0, ← at_e.1) h

pub kept_line : (relation : Relation) (d e r f g s : List (ℤ × ℤ)) → IsQuiet (reified_event relation) d f → IsQuiet (reified_event relation) e g → r ≡ s
    → RestsIf relation d e r → RestsIf relation f g s
kept_line Equal d e r f g s at_d at_e at_r h = rw (← at_d, ← at_e, ← at_r) h
kept_line NotEqual d e r f g s at_d at_e at_r h = rw (← at_d, ← at_e, ← at_r) h
kept_line AtMost d e r f g s at_d at_e at_r h = rw (← at_d.0, ← at_d.1, ← at_e.0, ← at_e.1, ← at_r) h
kept_line Below d e r f g s at_d at_e at_r h = rw (← at_d.0, ← at_d.1, ← at_e.0, ← at_e.1, ← at_r) h

-- ---- where one number is left of each

pub true_as : (relation : Relation) (x y : ℤ) → RestsAs relation (single x) (single y) → Relates relation x y
true_as Equal x y h = ap least h
true_as NotEqual x y h = λ same. h.0 x refl (in_single x y same)
true_as AtMost x y h = h.0
true_as Below x y h = h.0

pub shown_as : (relation : Relation) (x y : ℤ) → Relates relation x y → IsShown relation (single x) (single y)
shown_as Equal x y h = (omega (arith, ints, h), omega (arith, ints, h))
shown_as NotEqual x y h = grind (arith, ints)
shown_as AtMost x y h = h
shown_as Below x y h = h

pub reified_line : (relation : Relation) (x y r : ℤ)
    → IsReifiedLine (IsShown relation (single x) (single y)) (IsRefuted relation (single x) (single y)) (RestsAs relation (single x) (single y)) (RestsAgainst relation (single x) (single y)) (single r)
    → IsReified (Relates relation x y) r
reified_line relation x y r h = (
  (λ one. true_as relation x y (h.line_if_one (ap single one))),
  (λ holds. let e : single r ≡ single (pos 1) = h.one_if_shown (shown_as relation x y holds) in ap least e),
)

-- ---- what they mean

pub comparison_lawful : (relation : Relation) (x y : Term) → IsLawful (comparison relation x y)
comparison_lawful relation x y = record {
  kept = λ ds es domains narrower quiet h. (
      let q = terms_quiet (event_of relation) (x ∷ y ∷ []) ds es quiet in
      kept_as relation (term_set ds x) (term_set ds y) (term_set es x) (term_set es y) (term_narrower x ds es narrower) (term_narrower y ds es narrower) q.0 q.1.0 h);
  alone = λ ds a below alone h. (
      let at = terms_alone (event_of relation) (x ∷ y ∷ []) ds a below alone in true_as relation (term_value a x) (term_value a y) (rw (at.0, at.1.0) at h));
  below = λ n all. waits_below (event_of relation) (x ∷ y ∷ []) n all;
}

pub reified_comparison_lawful : (relation : Relation) (x y r : Term) → IsLawful (reified_comparison relation x y r)
reified_comparison_lawful relation x y r = record {
  kept = λ ds es domains narrower quiet h. (
      let ws = waits_for (reified_event relation) (x ∷ y ∷ []) in
      let q = terms_quiet (reified_event relation) (x ∷ y ∷ []) ds es (all_left (Quiet ds es) ws (wait_for Any r) quiet) in
      kept_line relation (term_set ds x) (term_set ds y) (term_set ds r) (term_set es x) (term_set es y) (term_set es r) q.0 q.1.0
      (term_quiet Any r ds es (all_right (Quiet ds es) ws (wait_for Any r) quiet)) h);
  alone = λ ds a below alone h. (
      let ws = waits_for (reified_event relation) (x ∷ y ∷ []) in
      let at = terms_alone (reified_event relation) (x ∷ y ∷ []) ds a (all_left (terms.Below (length ds)) ws (wait_for Any r) below) alone in
      let of_r = term_alone ds a Any r (all_right (terms.Below (length ds)) ws (wait_for Any r) below) alone in
      reified_line relation (term_value a x) (term_value a y) (term_value a r) (rw (at.0, at.1.0, of_r) at h));
  below = λ n all. all_both (terms.Below n) (waits_for (reified_event relation) (x ∷ y ∷ [])) (wait_for Any r) (waits_below (reified_event relation) (x ∷ y ∷ []) n (all.0, (all.1.0, tt))) (wait_below Any r n all.1.1.0);
}
