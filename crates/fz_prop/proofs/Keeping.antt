-- Keeping terms one after the other.
use Rattle.std.proofs.Common.{◌≡◌, ◌<◌, Bool, true, false, List, refl, sym, subst, arith, length, Result, Ok, Err}
use Rattle.std.specs.Prelude.{ℤ, IfOk, OnErr}
use Rattle.fz_dom.specs.declared.change.Change.{Change}
use Rattle.fz_dom.specs.declared.change.Change.TheVariants.{Same, Changed, Wiped}
use Rattle.fz_spec.specs.declared.term.Term.{Term}
use Rattle.fz_spec.specs.Constraints.{term_value}
use Rattle.fz_strength.specs.Domains.{room, Within, IsTermOf}
use Rattle.fz_prop.specs.Answers.{IsCorrectOf}
use Rattle.fz_prop.specs.Outcomes.{IsOutcome}
use Rattle.fz_prop.specs.Stores.{Stored, Shrinks, IsTermChange}
use Rattle.fz_prop.proofs.Steps.{same_shrinks}
use Rattle.fz_prop.proofs.TermChanges.{term_within, within_kept, none_kept, falls_of, same_store}
use Rattle.fz_prop.proofs.Twice.{shrinks_twice, room_after}

-- ---- one term

pub change_correct : {E : Type 0} (o : Result Change E) (t : Term) (P : ℤ → Type 0) (T : List ℤ → Type 0) (r s : Stored) → ((a : List ℤ) → T a → P (term_value a t))
    → OnErr o (s ≡ r) → IfOk o (λ change. IsTermChange change t P r s) → Shrinks r s → IsCorrectOf T r.doms s.doms
change_correct {E} (Ok change) t P T r s needs err h shrinks = λ a holds within. within_kept change t P r s a h shrinks within (needs a holds)
change_correct {E} (Err error) t P T r s needs err h shrinks = λ a holds within. subst (λ (u : Stored). Within u.doms a) (sym err) within

pub change_outcome : (change : Change) (t : Term) (P : ℤ → Type 0) (T : List ℤ → Type 0) (r s : Stored) → IsTermOf (length r.doms) t → ((a : List ℤ) → T a → P (term_value a t))
    → IsTermChange change t P r s → IsOutcome change T r s
change_outcome Same t P T r s is needs h = same_store t P r s h
change_outcome Changed t P T r s is needs h = falls_of t P r s h
change_outcome Wiped t P T r s is needs h = λ a within holds. none_kept t P r s h (term_value a t) (term_within r.doms a t is within) (needs a holds)

-- ---- one after the other

-- A store became another one in which no assignment with the property is lost: the same, or one with less room.
pub record IsKept (T : List ℤ → Type 0) (r s : Stored) (has_changed : Bool) : Type 0 where
  pub shrinks : Shrinks r s
  pub correct : IsCorrectOf T r.doms s.doms
  pub same : has_changed ≡ false → s ≡ r
  pub less : has_changed ≡ true → room s.doms < room r.doms

pub kept_none : (T : List ℤ → Type 0) (r : Stored) → IsKept T r r false
kept_none T r = record { shrinks = same_shrinks r; correct = λ a holds within. within; same = λ e. refl; less = λ e. absurd (cc (e)) }

pub correct_more : (T P : List ℤ → Type 0) (r s t : Stored) → IsCorrectOf T r.doms s.doms → ((a : List ℤ) → T a → P a) → IsCorrectOf P s.doms t.doms → IsCorrectOf T r.doms t.doms
correct_more T P r s t h needs more = λ a holds within. more a (needs a holds) (h a holds within)

pub kept_same : (T P : List ℤ → Type 0) (r s t : Stored) (has_changed : Bool) → IsKept T r s has_changed → IsOutcome Same P s t → IsKept T r t has_changed
kept_same T P r s t has_changed h same = rw same h

pub kept_changed : (T P : List ℤ → Type 0) (r s t : Stored) (has_changed : Bool) → IsKept T r s has_changed → ((a : List ℤ) → T a → P a) → Shrinks s t → IsCorrectOf P s.doms t.doms
    → IsOutcome Changed P s t → IsKept T r t true
kept_changed T P r s t has_changed h needs shrinks correct less = record {
  shrinks = shrinks_twice r s t h.shrinks shrinks;
  correct = correct_more T P r s t h.correct needs correct;
  same = λ e. absurd (cc (e));
  less = λ e. (let before = room_after r s h.shrinks in omega (arith, before, less));
}

pub kept_wiped : (T P : List ℤ → Type 0) (r s t u : Stored) (has_changed : Bool) → IsKept T r s has_changed → ((a : List ℤ) → T a → P a) → IsOutcome Wiped P s t → IsOutcome Wiped T r u
kept_wiped T P r s t u has_changed h needs none = λ a within holds. none a (h.correct a holds within) (needs a holds)

-- what isn't wiped, nor the same, has changed
pub changed_of : (change : Change) (P : List ℤ → Type 0) (s t : Stored) → (change ≡ Wiped → ⊥) → (change ≡ Same → ⊥) → IsOutcome change P s t → IsOutcome Changed P s t
changed_of Same P s t wiped same h = absurd (same refl)
changed_of Changed P s t wiped same h = h
changed_of Wiped P s t wiped same h = absurd (wiped refl)
