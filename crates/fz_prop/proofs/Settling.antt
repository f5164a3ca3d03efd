-- A run that keeps of one term the numbers that its constraint allows, where the other terms no longer matter.
use Rattle.std.proofs.Common.{◌≡◌, ℕ, List, sym, subst, length}
use Rattle.std.specs.Prelude.{ℤ}
use Rattle.fz_sets.specs.Sets.{IsInSet}
use Rattle.fz_dom.specs.declared.change.Change.{Change}
use Rattle.fz_dom.specs.declared.change.Change.TheVariants.{Same, Changed, Wiped}
use Rattle.fz_spec.specs.declared.term.Term.{Term}
use Rattle.fz_spec.specs.Constraints.{term_value}
use Rattle.fz_strength.specs.Domains.{term_set, IsTermOf}
use Rattle.fz_strength.proofs.Terms.{within_before}
use Rattle.fz_prop.specs.declared.answer.Answer.TheVariants.{Subsumed}
use Rattle.fz_prop.specs.Answers.{IsAnswerOf, IsCorrectOf}
use Rattle.fz_prop.specs.Outcomes.{settled_by}
use Rattle.fz_prop.specs.Stores.{Stored, Shrinks, IsTermChange}
pub use Rattle.fz_prop.specs.Truths.{IsAbout}
use Rattle.fz_prop.proofs.TermChanges.{term_within, narrower_term, within_kept, kept_term, none_kept}
use Rattle.fz_prop.proofs.Twice.{narrower_twice}

pub settled_correct : (change : Change) (t : Term) (P : ℤ → Type 0) (T : List ℤ → Type 0) (R : List (List (ℤ × ℤ)) → Type 0) (r s : Stored)
    → IsTermChange change t P r s → Shrinks r s → IsAbout t P T R r.doms → IsCorrectOf T r.doms s.doms
settled_correct change t P T R r s h shrinks about a holds within = within_kept change t P r s a h shrinks within (about.needs a within holds)

subsumed : (change : Change) (t : Term) (P : ℤ → Type 0) (T : List ℤ → Type 0) (R : List (List (ℤ × ℤ)) → Type 0) (r s : Stored)
    → IsTermOf (length r.doms) t → IsTermChange change t P r s → Shrinks r s → IsAbout t P T R r.doms → (change ≡ Wiped → ⊥) → IsAnswerOf Subsumed T R r.doms s.doms
subsumed change t P T R r s was_t h shrinks about not =
    let is_t : IsTermOf (length s.doms) t = subst (λ (n : ℕ). IsTermOf n t) (sym shrinks.narrower.size) was_t in
    let all : (x : ℤ) → IsInSet (term_set s.doms t) x → P x = λ x is. (kept_term change t P r s h not x is).1 in (
      (λ a within. about.enough a (within_before r.doms s.doms a shrinks.narrower within) (all (term_value a t) (term_within s.doms a t is_t within))),
      (λ es domains narrower. about.line es domains (narrower_twice r.doms s.doms es shrinks.narrower narrower) (λ x is. all x (narrower_term s.doms es t narrower x is))),
    )

pub settled_answer : (change : Change) (t : Term) (P : ℤ → Type 0) (T : List ℤ → Type 0) (R : List (List (ℤ × ℤ)) → Type 0) (r s : Stored)
    → IsTermOf (length r.doms) t → IsTermChange change t P r s → Shrinks r s → IsAbout t P T R r.doms → IsAnswerOf (settled_by change) T R r.doms s.doms
settled_answer Same t P T R r s is h shrinks about = subsumed Same t P T R r s is h shrinks about (λ e. cc)
settled_answer Changed t P T R r s is h shrinks about = subsumed Changed t P T R r s is h shrinks about (λ e. cc)
settled_answer Wiped t P T R r s is h shrinks about = λ a within holds.
    none_kept t P r s h (term_value a t) (term_within r.doms a t is within) (about.needs a within holds)
