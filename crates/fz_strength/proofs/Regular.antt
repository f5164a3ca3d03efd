-- A list of terms that an automaton accepts: its line lasts, and where all terms are fixed it says that they are accepted.
use Rattle.std.proofs.Common.{List, sym, subst}
use Rattle.std.specs.Prelude.{ℤ}
use Rattle.fz_sets.specs.Sets.{IsInSet}
use Rattle.fz_sets.proofs.Lists.{all_at}
use Rattle.fz_spec.specs.declared.term.Term.{Term}
use Rattle.fz_spec.specs.Constraints.{term_values}
use Rattle.fz_spec.specs.Truth.{Automaton, IsAccepted}
use Rattle.fz_strength.specs.declared.event.Event.TheVariants.{Any}
use Rattle.fz_strength.specs.Domains.{term_set}
use Rattle.fz_strength.specs.Events.{IsQuiet, waits_for, AreQuiet, AreSingle}
use Rattle.fz_strength.specs.Meanings.{IsLawful}
use Rattle.fz_strength.specs.Regular.{IsLeftWord, IsRegularLine, regular}
use Rattle.fz_strength.proofs.Tables.{kept_within, row_values}
use Rattle.fz_strength.proofs.Terms.{terms_quiet, terms_alone, waits_below}

kept_regular : (automaton : Automaton) (xs : List Term) (ds es : List (List (ℤ × ℤ))) → AreQuiet (waits_for Any xs) ds es → IsRegularLine automaton xs ds → IsRegularLine automaton xs es
kept_regular automaton xs ds es quiet h =
    let is_quiet : Term → Type 0 = λ (t : Term). IsQuiet Any (term_set ds t) (term_set es t) in
    let at = terms_quiet Any xs ds es quiet in
    let kept : (word : List ℤ) → IsLeftWord automaton xs ds word → IsLeftWord automaton xs es word = λ word left.
    record { accepted = left.accepted; within = kept_within xs word ds es at left.within } in
    record {
      some = (h.some.0, kept h.some.0 h.some.1);
      supported = λ j t n get is.
          let same = all_at is_quiet xs j t at get in
          let by = h.supported j t n get (subst (λ (d : List (ℤ × ℤ)). IsInSet d n) (sym same) is) in
          (by.0, kept by.0 by.1, by.2);
    }

-- where one number is left of each term
pub regular_true : (automaton : Automaton) (xs : List Term) (ds : List (List (ℤ × ℤ))) (a : List ℤ) → AreSingle ds a xs → IsRegularLine automaton xs ds → IsAccepted automaton (term_values a xs)
regular_true automaton xs ds a single h =
    let word = h.some.0 in
    let left = h.some.1 in
    subst (IsAccepted automaton) (row_values xs word ds a single left.within) left.accepted

pub regular_lawful : (automaton : Automaton) (xs : List Term) → IsLawful (regular automaton xs)
regular_lawful automaton xs = record {
  kept = λ ds es domains narrower quiet h. kept_regular automaton xs ds es quiet h;
  alone = λ ds a below alone h. regular_true automaton xs ds a (terms_alone Any xs ds a below alone) h;
  below = λ n all. waits_below Any xs n all;
}
