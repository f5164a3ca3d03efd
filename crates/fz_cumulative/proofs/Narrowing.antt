-- What a run answers that narrowed one term, or found the line to hold.
use Rattle.std.proofs.Common.{sym, subst, arith, length}
use Rattle.std.specs.Prelude.{ℤ, ◌≤ℤ◌, ◌<ℤ◌}
use Rattle.std.proofs.lemmas.Int.{ints}
use Rattle.fz_sets.specs.Sets.{IsInSet}
use Rattle.fz_dom.specs.Shape.{least}
use Rattle.fz_dom.specs.declared.change.Change.{Change}
use Rattle.fz_dom.specs.declared.change.Change.TheVariants.{Same, Changed, Wiped}
use Rattle.fz_dom.proofs.Ranges.{least_member}
use Rattle.fz_spec.specs.declared.term.Term.{Term}
use Rattle.fz_spec.specs.declared.term.Term.TheVariants.{Num, Var}
use Rattle.fz_strength.specs.Domains.{term_set, AreDomains, IsTermOf}
use Rattle.fz_strength.proofs.Terms.{is_single}
use Rattle.fz_prop.specs.Stores.{Stored, IsTermChange}
use Rattle.fz_prop.proofs.Filled.{term_ranges}
use Rattle.fz_prop.proofs.TermChanges.{none_kept, falls_of}
use Rattle.fz_cumulative.specs.Outcomes.{answer_to, IsNarrowed}

all_same : (t : Term) (P : ℤ → Type 0) (r s : Stored) → IsTermChange Same t P r s → (x : ℤ) → IsInSet (term_set r.doms t) x → P x
all_same (Var v) P r s h x is = h.1 x is
all_same (Num n) P r s h x is = subst P (sym (is_single x n is)) h.1

pub narrowed : (change : Change) (t : Term) (P : ℤ → Type 0) (r s : Stored) (x : ℤ) → IsInSet (term_set r.doms t) x → (P x → ⊥) → IsTermChange change t P r s
    → IsNarrowed (answer_to change) t P r.doms s.doms
narrowed Same t P r s x is lacks h = absurd (lacks (all_same t P r s h x is))
narrowed Changed t P r s x is lacks h = falls_of t P r s h
narrowed Wiped t P r s x is lacks h = λ y in_r holds. none_kept t P r s h y in_r holds

pub narrowed_from : (change : Change) (t : Term) (value : ℤ) (r s : Stored) → IsTermOf (length r.doms) t → AreDomains r.doms → least (term_set r.doms t) <ℤ value
    → IsTermChange change t (λ x. value ≤ℤ x) r s → IsNarrowed (answer_to change) t (λ x. value ≤ℤ x) r.doms s.doms
narrowed_from change t value r s of domains below h =
    let has = term_ranges r.doms t of domains in
    narrowed change t (λ x. value ≤ℤ x) r s (least (term_set r.doms t)) (least_member (term_set r.doms t) has.some has.ranges).0 (λ above. omega (arith, ints, above, below)) h
