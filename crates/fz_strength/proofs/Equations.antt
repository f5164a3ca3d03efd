-- Laws of equations on whole domains.
use Rattle.std.proofs.Common.{◌≡◌, List, [], ◌∷◌, refl, map}
use Rattle.std.specs.Prelude.{ℤ}
use Rattle.fz_sets.specs.Sets.{single}
use Rattle.fz_spec.specs.declared.term.Term.{Term}
use Rattle.fz_spec.specs.Constraints.{term_values}
use Rattle.fz_spec.specs.Truth.{weighted_sum}
use Rattle.fz_strength.specs.declared.event.Event.TheVariants.{Any}
use Rattle.fz_strength.specs.Events.{AreSingle}
use Rattle.fz_strength.specs.Equations.{sets_of, RestsByNumbers, partnered_sum}
use Rattle.fz_strength.proofs.Terms.{AreQuietAt, terms_quiet, terms_alone, waits_below}
use Rattle.fz_strength.specs.Meanings.{IsLawful}

same_sets : (ts : List Term) (ds es : List (List (ℤ × ℤ))) → AreQuietAt Any ds es ts → sets_of ds ts ≡ sets_of es ts
same_sets [] ds es quiet = refl
same_sets (t ∷ ts) ds es quiet = rw (quiet.0, same_sets ts ds es quiet.1) refl

pub numbers_kept : (ks : List ℤ) (ts : List Term) (c : ℤ) (ds es : List (List (ℤ × ℤ))) → AreQuietAt Any ds es ts → RestsByNumbers (sets_of ds ts) ks ts c → RestsByNumbers (sets_of es ts) ks ts c
numbers_kept ks ts c ds es quiet h = rw (← same_sets ts ds es quiet) h

single_sets : (ts : List Term) (ds : List (List (ℤ × ℤ))) (a : List ℤ) → AreSingle ds a ts → sets_of ds ts ≡ map single (term_values a ts)
single_sets [] ds a h = refl
single_sets (t ∷ ts) ds a h = rw (h.0, single_sets ts ds a h.1) refl

pub numbers_true : (ks : List ℤ) (ts : List Term) (c : ℤ) (ds : List (List (ℤ × ℤ))) (a : List ℤ) → AreSingle ds a ts → RestsByNumbers (sets_of ds ts) ks ts c → weighted_sum ks (term_values a ts) ≡ c
numbers_true ks ts c ds a single h = h.fixed a (single_sets ts ds a single)

-- ---- what it means

pub partnered_sum_lawful : (ks : List ℤ) (ts : List Term) (c : ℤ) → IsLawful (partnered_sum ks ts c)
partnered_sum_lawful ks ts c = record {
  kept = λ ds es domains narrower quiet h. numbers_kept ks ts c ds es (terms_quiet Any ts ds es quiet) h;
  alone = λ ds a below alone h. numbers_true ks ts c ds a (terms_alone Any ts ds a below alone) h;
  below = λ n all. waits_below Any ts n all;
}
