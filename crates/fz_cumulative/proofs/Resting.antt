-- Where the line holds and all terms are fixed the constraint is true for good.
use Rattle.std.proofs.Common.{◌≡◌, List, [], ◌∷◌, Bool, true, false, refl, sym, subst, ◌∙◌, length}
use Rattle.std.specs.Prelude.{ℤ}
use Rattle.std.specs.List.{AllByRecursion}
use Rattle.fz_spec.specs.declared.term.Term.{Term}
use Rattle.fz_spec.specs.Constraints.{term_value}
use Rattle.fz_strength.specs.declared.event.Event.TheVariants.{Bound}
use Rattle.fz_strength.specs.Cumulatives.{terms_of_tasks}
use Rattle.fz_strength.specs.Domains.{term_set, AreDomains, Within, IsNarrower, IsTermOf}
use Rattle.fz_strength.specs.Events.{IsQuiet, IsOnly, AllFixed, AreSingle}
use Rattle.fz_strength.proofs.Cumulatives.{all_of_tasks, kept_cumulative, cumulative_true}
use Rattle.fz_strength.proofs.Terms.{quiet_self}
use Rattle.fz_prop.specs.Answers.{IsAnswerOf}
use Rattle.fz_prop.specs.Outcomes.{rested_by}
use Rattle.fz_prop.proofs.Filled.{still_only}
use Rattle.fz_prop.proofs.TermChanges.{term_within, only_in}
use Rattle.fz_cumulative.specs.Cumulatives.{AreTermsOf, TasksShare, TasksRest}

single_of : (ts : List Term) (ds : List (List (ℤ × ℤ))) (a : List ℤ) → AllByRecursion (IsTermOf (length ds)) ts → AllFixed ds ts → Within ds a → AreSingle ds a ts
single_of [] ds a of fixed within = tt
single_of (t ∷ ts) ds a of fixed within = (
  subst (IsOnly (term_set ds t)) (sym (only_in (term_set ds t) fixed.0.0 (term_value a t) fixed.0.1 (term_within ds a t of.0 within))) fixed.0.1,
  single_of ts ds a of.1 fixed.1 within,
)

quiet_of : (ts : List Term) (ds es : List (List (ℤ × ℤ))) → AllByRecursion (IsTermOf (length ds)) ts → AllFixed ds ts → AreDomains es → IsNarrower ds es
    → AllByRecursion (λ (t : Term). IsQuiet Bound (term_set ds t) (term_set es t)) ts
quiet_of [] ds es of fixed domains narrower = tt
quiet_of (t ∷ ts) ds es of fixed domains narrower = (
  subst (IsQuiet Bound (term_set ds t)) (fixed.0.1 ∙ sym (still_only ds es t fixed.0.0 of.0 fixed.0.1 domains narrower)) (quiet_self Bound (term_set ds t)),
  quiet_of ts ds es of.1 fixed.1 domains narrower,
)

pub rested_answer : (fixed : Bool) (ds : List (List (ℤ × ℤ))) (ss dd us : List Term) (b : Term) → AreTermsOf (length ds) ss dd us b → TasksRest ss dd us b ds
    → (fixed ≡ true → AllFixed ds (terms_of_tasks ss dd us b)) → IsAnswerOf (rested_by fixed) (TasksShare ss dd us b) (TasksRest ss dd us b) ds ds
rested_answer false ds ss dd us b of rests all = rests
rested_answer true ds ss dd us b of rests all =
    let ts = terms_of_tasks ss dd us b in
    let h = all refl in (
      (λ a within. cumulative_true ss dd us b ds a (all_of_tasks (λ (t : Term). IsOnly (term_set ds t) (term_value a t)) ss dd us b (single_of ts ds a of h within)) rests),
      (λ fs domains narrower. kept_cumulative ss dd us b ds fs (all_of_tasks (λ (t : Term). IsQuiet Bound (term_set ds t) (term_set fs t)) ss dd us b (quiet_of ts ds fs of h domains narrower)) rests),
    )
