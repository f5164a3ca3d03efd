-- What changes of terms leave.
use Rattle.std.proofs.Common.{◌≡◌, ℕ, ◌<◌, List, refl, sym, ap, subst, ◌∙◌, arith, length, inl, inr}
use Rattle.std.specs.Prelude.{ℤ}
use Rattle.std.proofs.lemmas.Bool.{cases_eq}
use Rattle.fz_sets.specs.Sets.{IsInSet, set_size}
use Rattle.fz_sets.proofs.Sizes.{some_size, size_of_one}
use Rattle.fz_dom.specs.declared.change.Change.{Change}
use Rattle.fz_dom.specs.declared.change.Change.TheVariants.{Same, Changed, Wiped}
use Rattle.fz_spec.specs.declared.term.Term.{Term}
use Rattle.fz_spec.specs.declared.term.Term.TheVariants.{Num, Var}
use Rattle.fz_spec.specs.Constraints.{term_value}
use Rattle.fz_strength.specs.Domains.{dom_at, term_set, Within, IsNarrower, number_at, room, IsTermOf}
use Rattle.fz_strength.specs.Events.{IsOnly}
use Rattle.fz_strength.proofs.Terms.{in_single, is_single}
use Rattle.fz_prop.specs.Stores.{Stored, Shrinks, IsTermChange}

pub term_within : (ds : List (List (ℤ × ℤ))) (a : List ℤ) (t : Term) → IsTermOf (length ds) t → Within ds a → IsInSet (term_set ds t) (term_value a t)
term_within ds a (Num n) is within = in_single n n refl
term_within ds a (Var v) is within = within.members v is

pub narrower_term : (ds es : List (List (ℤ × ℤ))) (t : Term) → IsNarrower ds es → (x : ℤ) → IsInSet (term_set es t) x → IsInSet (term_set ds t) x
narrower_term ds es (Num n) narrower x is = is
narrower_term ds es (Var v) narrower x is = narrower.members v x is

pub only_in : (d : List (ℤ × ℤ)) (v x : ℤ) → IsOnly d v → IsInSet d x → x ≡ v
only_in d v x only is = is_single x v (subst (λ (e : List (ℤ × ℤ)). IsInSet e x) only is)

-- what is kept of a term is within the store that it leaves
pub within_kept : (change : Change) (t : Term) (P : ℤ → Type 0) (r s : Stored) (a : List ℤ) → IsTermChange change t P r s → Shrinks r s
    → Within r.doms a → P (term_value a t) → Within s.doms a
within_kept Same (Var v) P r s a h shrinks within holds = subst (λ (u : Stored). Within u.doms a) (sym h.0) within
within_kept Wiped (Var v) P r s a h shrinks within holds = subst (λ (u : Stored). Within u.doms a) (sym h.0) within
within_kept Same (Num n) P r s a h shrinks within holds = subst (λ (u : Stored). Within u.doms a) (sym h.0) within
within_kept Wiped (Num n) P r s a h shrinks within holds = subst (λ (u : Stored). Within u.doms a) (sym h.0) within
within_kept Changed (Num n) P r s a h shrinks within holds = absurd h
within_kept Changed (Var v) P r s a h shrinks within holds = record {
  size = within.size ∙ sym shrinks.narrower.size;
  members = λ u inside. elim (cases_eq u v) [
    | inl e ↦ subst (λ (w : ℕ). IsInSet (dom_at s.doms w) (number_at a w)) (sym e)
        ((h.kept (number_at a v)).1 (within.members v (subst (λ (w : ℕ). w < length r.doms) e (omega (arith, inside, shrinks.narrower.size))), holds))
    | inr ne ↦ rw (h.others u ne) (within.members u (omega (arith, inside, shrinks.narrower.size)))
  ];
}

-- what is left of a term has the property, where the change isn't one that would wipe it
pub kept_term : (change : Change) (t : Term) (P : ℤ → Type 0) (r s : Stored) → IsTermChange change t P r s → (change ≡ Wiped → ⊥)
    → (x : ℤ) → IsInSet (term_set s.doms t) x → IsInSet (term_set r.doms t) x × P x
kept_term Same (Var v) P r s h not x is =
    let before : IsInSet (dom_at r.doms v) x = subst (λ (u : Stored). IsInSet (dom_at u.doms v) x) h.0 is in
    (before, h.1 x before)
kept_term Changed (Var v) P r s h not x is = (h.kept x).0 is
kept_term Wiped t P r s h not x is = absurd (not refl)
kept_term Same (Num n) P r s h not x is = (is, subst P (sym (is_single x n is)) h.1)
kept_term Changed (Num n) P r s h not x is = absurd h

-- a change that would wipe a term: none of its numbers has the property
pub none_kept : (t : Term) (P : ℤ → Type 0) (r s : Stored) → IsTermChange Wiped t P r s → (x : ℤ) → IsInSet (term_set r.doms t) x → P x → ⊥
none_kept (Var v) P r s h x is holds = h.1 x is holds
none_kept (Num n) P r s h x is holds = h.1 (subst P (is_single x n is) holds)

pub falls_of : (t : Term) (P : ℤ → Type 0) (r s : Stored) → IsTermChange Changed t P r s → room s.doms < room r.doms
falls_of (Num n) P r s h = absurd h
falls_of (Var v) P r s h = h.falls

pub same_store : (t : Term) (P : ℤ → Type 0) (r s : Stored) → IsTermChange Same t P r s → s ≡ r
same_store (Num n) P r s h = h.0
same_store (Var v) P r s h = h.0

-- a term that is fixed doesn't change
pub fixed_stays : (t : Term) (P : ℤ → Type 0) (r s : Stored) (x : ℤ) → IsOnly (term_set r.doms t) x → IsTermChange Changed t P r s → ⊥
fixed_stays (Num n) P r s x only h = h
fixed_stays (Var v) P r s x only h = omega (arith, h.smaller, some_size (dom_at s.doms v) h.filled, ap set_size only, size_of_one x)
