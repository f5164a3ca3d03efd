-- The line of a term in a set, and of one with a Boolean: it lasts, and is the truth where one number is left of each term.
use Rattle.std.proofs.Common.{◌≡◌, List, [], ◌∷◌, refl, sym, ap, subst}
use Rattle.std.specs.Prelude.{ℤ, pos}
use Rattle.fz_sets.specs.Sets.{IsInSet, single}
use Rattle.fz_dom.specs.Shape.{least}
use Rattle.fz_spec.specs.declared.term.Term.{Term}
use Rattle.fz_spec.specs.Constraints.{term_value}
use Rattle.fz_spec.specs.Truth.{IsReified}
use Rattle.fz_strength.specs.declared.event.Event.TheVariants.{Any, Fixed}
use Rattle.fz_strength.specs.Lines.{IsReifiedLine}
use Rattle.fz_strength.specs.Meanings.{IsLawful}
use Rattle.fz_strength.specs.Memberships.{LiesIn, LiesOutside, membership, reified_membership}
use Rattle.fz_strength.proofs.Terms.{in_single, is_single, term_narrower, terms_quiet, term_alone, terms_alone, wait_below, waits_below}

set_line : (x r : ℤ) (s : List (ℤ × ℤ)) → IsReifiedLine (LiesIn (single x) s) (LiesOutside (single x) s) (LiesIn (single x) s) (LiesOutside (single x) s) (single r) → IsReified (IsInSet s x) r
set_line x r s h = (
  (λ one. h.line_if_one (ap single one) x (in_single x x refl)),
  (λ holds. let e : single r ≡ single (pos 1) = h.one_if_shown (λ y i. subst (λ (z : ℤ). IsInSet s z) (sym (is_single y x i)) holds) in ap least e),
)

pub membership_lawful : (x : Term) (set : List (ℤ × ℤ)) → IsLawful (membership x set)
membership_lawful x set = record {
  kept = λ ds es domains narrower quiet h. (λ y is. h y (term_narrower x ds es narrower y is));
  alone = λ ds a below alone h. (
      let at_x : LiesIn (single (term_value a x)) set = rw (term_alone ds a Fixed x below alone) at h in at_x (term_value a x) (in_single (term_value a x) (term_value a x) refl));
  below = λ n all. wait_below Fixed x n all.0;
}

pub reified_membership_lawful : (x : Term) (set : List (ℤ × ℤ)) (r : Term) → IsLawful (reified_membership x set r)
reified_membership_lawful x set r = record {
  kept = λ ds es domains narrower quiet h. (let q = terms_quiet Any (x ∷ r ∷ []) ds es quiet in rw (← q.0, ← q.1.0) h);
  alone = λ ds a below alone h. (let at = terms_alone Any (x ∷ r ∷ []) ds a below alone in set_line (term_value a x) (term_value a r) set (rw (at.0, at.1.0) at h));
  below = λ n all. waits_below Any (x ∷ r ∷ []) n all;
}
