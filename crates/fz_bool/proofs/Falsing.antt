-- Making literals false, one after the other.
use Rattle.std.proofs.Common.{◌≡◌, ℕ, ◌<◌, ◌≤◌, ◌+◌, List, sym, ap, subst, ◌∙◌, arith, length, inl, inr}
use Rattle.std.specs.Prelude.{ℤ, Some, slice_get}
use Rattle.fz_sets.proofs.Lists.{all_of, some_is, all_at}
use Rattle.fz_dom.specs.declared.change.Change.{Change}
use Rattle.fz_dom.specs.declared.change.Change.TheVariants.{Wiped}
use Rattle.fz_strength.specs.declared.literal.Literal.{Literal}
use Rattle.fz_strength.specs.Domains.{term_set, IsTermOf}
use Rattle.fz_strength.specs.Clauses.{false_number, MakesFalse, IsFalseIn}
use Rattle.fz_strength.proofs.Clauses.{only_still}
use Rattle.fz_prop.specs.declared.answer.Answer.TheVariants.{Subsumed}
use Rattle.fz_prop.specs.Answers.{IsAnswerOf, IsCorrectOf}
use Rattle.fz_prop.specs.Stores.{Stored, IsStore, Shrinks, IsTermChange}
use Rattle.fz_prop.proofs.Filled.{term_ranges, one_left}
use Rattle.fz_prop.proofs.TermChanges.{within_kept, kept_term}
use Rattle.fz_prop.proofs.Twice.{shrinks_twice}
use Rattle.fz_bool.specs.Looks.{AreTermsOf}
use Rattle.fz_bool.specs.Clausal.{AreMadeFalse, AreFalseIn}
use Rattle.fz_bool.proofs.Looks.{inside_of, split}
use Rattle.fz_bool.proofs.Within.{makes_false, all_false_still}

-- the first that many are false, and no assignment that makes all false is lost
pub record FalseSoFar (r s : Stored) (ls : List Literal) (n : ℕ) : Type 0 where
  pub store : IsStore s
  pub shrinks : Shrinks r s
  pub correct : IsCorrectOf (AreMadeFalse ls) r.doms s.doms
  pub fails : (j : ℕ) (l : Literal) → j < n → slice_get ls j ≡ Some l → IsFalseIn s.doms l

-- a term of the store before is one of the store after
term_after : (r s : Stored) (l : Literal) → Shrinks r s → IsTermOf (length r.doms) l.term → IsTermOf (length s.doms) l.term
term_after r s l shrinks is = subst (λ (n : ℕ). IsTermOf n l.term) (sym shrinks.narrower.size) is

pub term_at : (r s : Stored) (ls : List Literal) (n : ℕ) (l : Literal) → Shrinks r s → AreTermsOf r.doms ls → slice_get ls n ≡ Some l → IsTermOf (length s.doms) l.term
term_at r s ls n l shrinks are at = term_after r s l shrinks (all_at (λ (k : Literal). IsTermOf (length r.doms) k.term) ls n l are at)

made : (change : Change) (s t : Stored) (l : Literal) → IsTermOf (length s.doms) l.term → IsStore t → Shrinks s t → IsTermChange change l.term (λ x. x ≡ false_number l) s t → (change ≡ Wiped → ⊥)
    → IsFalseIn t.doms l
made change s t l is store shrinks h not =
    one_left (term_set t.doms l.term) (false_number l) (term_ranges t.doms l.term (term_after s t l shrinks is) store.domains)
    (λ x inside. (kept_term change l.term (λ (u : ℤ). u ≡ false_number l) s t h not x inside).1)

pub next_false : (change : Change) (r s t : Stored) (ls : List Literal) (n : ℕ) (l : Literal) → AreTermsOf r.doms ls → slice_get ls n ≡ Some l → FalseSoFar r s ls n → IsStore t → Shrinks s t
    → IsTermChange change l.term (λ x. x ≡ false_number l) s t → (change ≡ Wiped → ⊥) → FalseSoFar r t ls (n + 1)
next_false change r s t ls n l are at before store shrinks h not = record {
  store = store;
  shrinks = shrinks_twice r s t before.shrinks shrinks;
  correct = λ a holds within.
      within_kept change l.term (λ (u : ℤ). u ≡ false_number l) s t a h shrinks (before.correct a holds within) (all_at (MakesFalse a) ls n l holds at);
  fails = λ j k below at_k. elim (split j n below) [
    | inl e ↦ subst (IsFalseIn t.doms) (some_is l k (sym at ∙ ap (slice_get ls) (sym e) ∙ at_k)) (made change s t l (term_at r s ls n l before.shrinks are at) store shrinks h not)
    | inr less ↦ only_still k.term (false_number k) s.doms t.doms store.domains shrinks.narrower (before.fails j k less at_k)
  ];
}

pub all_made_false : (r s : Stored) (ls : List Literal) (n : ℕ) → AreTermsOf r.doms ls → length ls ≤ n → FalseSoFar r s ls n → IsAnswerOf Subsumed (AreMadeFalse ls) (AreFalseIn ls) r.doms s.doms
all_made_false r s ls n are whole before =
    let all : AreFalseIn ls s.doms = all_of (IsFalseIn s.doms) ls (λ i l at. let inside = inside_of ls i l at in before.fails i l (omega (arith, inside, whole)) at) in (
      (λ a within. all_of (MakesFalse a) ls (λ i l at. makes_false s.doms l a (term_at r s ls i l before.shrinks are at) within (all_at (IsFalseIn s.doms) ls i l all at))),
      (λ fs domains narrower. all_false_still s.doms fs ls domains narrower all),
    )
