-- Keeping terms to the numbers that can point back, one after the other.
use Rattle.std.proofs.Common.{◌≡◌, ℕ, ◌+◌, ◌<◌, ◌≤◌, List, ◌∙◌, inl, inr, refl, sym, subst, arith, length, true, false, Bool, pos}
use Rattle.std.specs.Prelude.{ℤ, ◌↔◌, slice_get, Some}
use Rattle.std.specs.List.{AllByRecursion}
use Rattle.std.proofs.lemmas.Bool.{cases_eq}
use Rattle.std.proofs.lemmas.List.{length-map}
use Rattle.std.proofs.lemmas.Option.{slice_get_within, slice_get_cases}
use Rattle.fz_sets.specs.Sets.{IsInSet}
use Rattle.fz_sets.proofs.Lists.{all_at}
use Rattle.fz_dom.specs.declared.change.Change.{Change}
use Rattle.fz_dom.specs.declared.change.Change.TheVariants.{Same, Changed, Wiped}
use Rattle.fz_spec.specs.declared.term.Term.{Term}
use Rattle.fz_spec.specs.declared.term.Term.TheVariants.{Num, Var}
use Rattle.fz_spec.specs.Constraints.{term_value, term_values}
use Rattle.fz_strength.specs.Domains.{dom_at, term_set, Within, IsTermOf}
use Rattle.fz_strength.proofs.Terms.{in_single, is_single}
use Rattle.fz_strength.proofs.VariableElements.{value_at}
use Rattle.fz_prop.specs.Answers.{IsCorrectOf}
use Rattle.fz_prop.specs.Outcomes.{IsOutcome}
use Rattle.fz_prop.specs.Stores.{Stored, Shrinks, IsTermChange}
use Rattle.fz_prop.proofs.Keeping.{IsKept, kept_none}
use Rattle.fz_prop.proofs.Steps.{change_at_as}
use Rattle.fz_prop.proofs.TermChanges.{term_within, narrower_term, within_kept, kept_term, none_kept, falls_of, same_store}
use Rattle.fz_prop.proofs.Twice.{shrinks_twice, room_after}
use Rattle.fz_inverse.specs.Pointing.{PointBackAt, CanPointBack, AllCanPointBack, IsLeftAt, AreOthers, AreOnce, AreStill, IsApartKept}

-- ---- the values of an assignment

pub value_back : (terms others : List Term) (ds : List (List (ℤ × ℤ))) (a : List ℤ) (i : ℕ) (t : Term) → AllByRecursion (IsTermOf (length ds)) others → slice_get terms i ≡ Some t
    → PointBackAt terms others a → Within ds a → CanPointBack others ds i (term_value a t)
value_back terms others ds a i t in_others at holds within =
    let p = holds i (term_value a t) (value_at a terms i t at) in
    elim (slice_get_cases others p.0).1 [
      | inl here ↦
          let is_i : term_value a here.0 ≡ pos (i + 1) = cc (value_at a others p.0 here.0 here.2, p.2) in
          let back : IsLeftAt others ds i p.0 = record {
            term = here.0;
            stands = here.2;
            left = subst (IsInSet (term_set ds here.0)) is_i (term_within ds a here.0 (all_at (IsTermOf (length ds)) others p.0 here.0 in_others here.2) within);
          } in
          record { index = p.0; is_place = p.1; back = back }
      | inr past ↦
          let inside = slice_get_within (term_values a others) p.0 (pos (i + 1)) p.2 in
          let end = past.0 in
          let size = length-map others (term_value a) in
          absurd (omega (arith, inside, end, size))
    ]

-- ---- one term

-- what is kept of a term by two properties that are the same of all numbers that were left
pub term_change_as : (change : Change) (t : Term) (P Q : ℤ → Type 0) (s u : Stored) → ((x : ℤ) → IsInSet (term_set s.doms t) x → P x ↔ Q x) → IsTermChange change t P s u → IsTermChange change t Q s u
term_change_as change (Var v) P Q s u same h = change_at_as change v P Q s u same h
term_change_as Same (Num n) P Q s u same h = (h.0, (same n (in_single n n refl)).0 h.1)
term_change_as Wiped (Num n) P Q s u same h = (h.0, λ holds. h.1 ((same n (in_single n n refl)).1 holds))
term_change_as Changed (Num n) P Q s u same h = absurd h

-- where nothing leaves, all numbers have the property
all_have : (t : Term) (P : ℤ → Type 0) (s u : Stored) (x : ℤ) → IsTermChange Same t P s u → IsInSet (term_set s.doms t) x → P x
all_have (Var v) P s u x h is = h.1 x is
all_have (Num n) P s u x h is = subst P (sym (is_single x n is)) h.1

-- ---- what stays

-- a number can point back still, and could before
pub back_still : (others : List Term) (ds es : List (List (ℤ × ℤ))) (i : ℕ) (x : ℤ) → AreStill others ds es → CanPointBack others ds i x → CanPointBack others es i x
back_still others ds es i x still w =
    let left : IsInSet (term_set es w.back.term) (pos (i + 1)) = subst (λ (d : List (ℤ × ℤ)). IsInSet d (pos (i + 1))) (sym (still w.index w.back.term w.back.stands)) w.back.left in
    record { index = w.index; is_place = w.is_place; back = record { term = w.back.term; stands = w.back.stands; left = left } }

still_changed : (terms others : List Term) (s u : Stored) (k : ℕ) (t : Term) (P : ℤ → Type 0) → slice_get terms k ≡ Some t → IsTermChange Changed t P s u → AreOthers terms others
    → (j : ℕ) (w : Term) → slice_get others j ≡ Some w → term_set u.doms w ≡ term_set s.doms w
still_changed terms others s u k (Num n) P at change apart j w at_w = absurd change
still_changed terms others s u k (Var v) P at change apart j (Num n) at_w = refl
still_changed terms others s u k (Var v) P at change apart j (Var w) at_w = change.others w (λ same. apart k j v at (subst (λ (z : ℕ). slice_get others j ≡ Some (Var z)) same at_w))

stay_changed : (terms others : List Term) (s u : Stored) (k : ℕ) (t : Term) → slice_get terms k ≡ Some t → IsTermChange Changed t (CanPointBack others s.doms k) s u → AreOnce terms
    → (i : ℕ) (w : Term) (x : ℤ) → slice_get terms i ≡ Some w → IsInSet (term_set s.doms w) x → CanPointBack others s.doms i x → IsInSet (term_set u.doms w) x
stay_changed terms others s u k (Num n) at change once i w x at_w is back = absurd change
stay_changed terms others s u k (Var v) at change once i (Num n) x at_w is back = is
stay_changed terms others s u k (Var v) at change once i (Var w) x at_w is back = elim (cases_eq w v) [
  | inl one ↦
      let here : slice_get terms i ≡ Some (Var v) = subst (λ (z : ℕ). slice_get terms i ≡ Some (Var z)) one at_w in
      let same : i ≡ k = once i k v here at in
      let was : IsInSet (dom_at s.doms v) x = subst (λ (z : ℕ). IsInSet (dom_at s.doms z) x) one is in
      subst (λ (z : ℕ). IsInSet (dom_at u.doms z) x) (sym one) ((change.kept x).1 (was, subst (λ (j : ℕ). CanPointBack others s.doms j x) same back))
  | inr other ↦ subst (λ (d : List (ℤ × ℤ)). IsInSet d x) (sym (change.others w other)) is
]

-- ---- the loop over the terms

-- Terms before place k are kept to the numbers that can point back; all of them can, where nothing changed, or they have no variable
-- in common with the others.
pub record IsPointing (terms others : List Term) (r s : Stored) (has_changed : Bool) (k : ℕ) : Type 0 where
  pub kept : IsKept (PointBackAt terms others) r s has_changed
  pub pointing : (has_changed ≡ true → AreOthers terms others) → (i : ℕ) (t : Term) (x : ℤ) → i < k → slice_get terms i ≡ Some t → IsInSet (term_set s.doms t) x → CanPointBack others s.doms i x
  pub apart : IsApartKept terms others r.doms s.doms

pub pointing_none : (terms others : List Term) (r : Stored) → IsPointing terms others r r false 0
pointing_none terms others r = record {
  kept = kept_none (PointBackAt terms others) r;
  pointing = λ e i t x below. absurd (omega (arith, below));
  apart = record { still = λ apart j t at. refl; stay = λ apart once i t x at is back. is };
}

pub pointing_same : (terms others : List Term) (r s u : Stored) (has_changed : Bool) (k : ℕ) (t : Term) → slice_get terms k ≡ Some t → IsTermChange Same t (CanPointBack others s.doms k) s u
    → IsPointing terms others r s has_changed k → IsPointing terms others r u has_changed (k + 1)
pointing_same terms others r s u has_changed k t at change h =
    let P = CanPointBack others s.doms k in
    subst (λ (v : Stored). IsPointing terms others r v has_changed (k + 1)) (sym (same_store t P s u change)) (record {
      kept = h.kept;
      pointing = λ e i w x below at_w is. elim (cases_eq i k) [
        | inl one ↦
            let is_t : w ≡ t = cc (at, subst (λ (j : ℕ). slice_get terms j ≡ Some w) one at_w) in
            let has : IsInSet (term_set s.doms t) x = subst (λ (v : Term). IsInSet (term_set s.doms v) x) is_t is in
            subst (λ (j : ℕ). CanPointBack others s.doms j x) (sym one) (all_have t P s u x change has)
        | inr other ↦ h.pointing e i w x (omega (arith, below, other)) at_w is
      ];
      apart = h.apart;
    })

-- they are terms of the store still
pub terms_still : (r s : Stored) (ts : List Term) → Shrinks r s → AllByRecursion (IsTermOf (length r.doms)) ts → AllByRecursion (IsTermOf (length s.doms)) ts
terms_still r s ts shrinks terms = subst (λ (n : ℕ). AllByRecursion (IsTermOf n) ts) (sym shrinks.narrower.size) terms

pub pointing_correct : (change : Change) (terms others : List Term) (r s u : Stored) (has_changed : Bool) (k : ℕ) (t : Term) → AllByRecursion (IsTermOf (length r.doms)) others → slice_get terms k ≡ Some t
    → IsTermChange change t (CanPointBack others s.doms k) s u → Shrinks s u → IsPointing terms others r s has_changed k → IsCorrectOf (PointBackAt terms others) r.doms u.doms
pointing_correct change terms others r s u has_changed k t in_others at h shrinks before = λ a holds within.
    let now = before.kept.correct a holds within in
    within_kept change t (CanPointBack others s.doms k) s u a h shrinks now (value_back terms others s.doms a k t (terms_still r s others before.kept.shrinks in_others) at holds now)

pub pointing_changed : (terms others : List Term) (r s u : Stored) (has_changed : Bool) (k : ℕ) (t : Term) → AllByRecursion (IsTermOf (length r.doms)) others → slice_get terms k ≡ Some t
    → IsTermChange Changed t (CanPointBack others s.doms k) s u → Shrinks s u → IsPointing terms others r s has_changed k → IsPointing terms others r u true (k + 1)
pointing_changed terms others r s u has_changed k t in_others at change shrinks h = record {
  kept = record {
    shrinks = shrinks_twice r s u h.kept.shrinks shrinks;
    correct = pointing_correct Changed terms others r s u has_changed k t in_others at change shrinks h;
    same = λ e. absurd (cc (e));
    less = λ e. (let before = room_after r s h.kept.shrinks in let now = falls_of t (CanPointBack others s.doms k) s u change in omega (arith, before, now));
  };
  pointing = λ e i w x below at_w is.
      let still : AreStill others s.doms u.doms = still_changed terms others s u k t (CanPointBack others s.doms k) at change (e refl) in
      back_still others s.doms u.doms i x still (elim (cases_eq i k) [
        | inl one ↦
            let is_t : w ≡ t = cc (at, subst (λ (j : ℕ). slice_get terms j ≡ Some w) one at_w) in
            let has : IsInSet (term_set u.doms t) x = subst (λ (v : Term). IsInSet (term_set u.doms v) x) is_t is in
            subst (λ (j : ℕ). CanPointBack others s.doms j x) (sym one) (kept_term Changed t (CanPointBack others s.doms k) s u change (λ same. absurd (cc (same))) x has).1
        | inr other ↦ h.pointing (λ same. e refl) i w x (omega (arith, below, other)) at_w (narrower_term s.doms u.doms w shrinks.narrower x is)
      ]);
  apart = record {
    still = λ apart j w at_w. still_changed terms others s u k t (CanPointBack others s.doms k) at change apart j w at_w ∙ h.apart.still apart j w at_w;
    stay = λ apart once i w x at_w is back.
        stay_changed terms others s u k t at change once i w x at_w (h.apart.stay apart once i w x at_w is back) (back_still others r.doms s.doms i x (h.apart.still apart) back);
  };
}

-- no number of a term can point back
pub pointing_fails : (terms others : List Term) (r s u : Stored) (has_changed : Bool) (k : ℕ) (t : Term) → AllByRecursion (IsTermOf (length r.doms)) terms → AllByRecursion (IsTermOf (length r.doms)) others
    → slice_get terms k ≡ Some t → IsTermChange Wiped t (CanPointBack others s.doms k) s u → IsPointing terms others r s has_changed k → IsOutcome Wiped (PointBackAt terms others) r u
pointing_fails terms others r s u has_changed k t in_terms in_others at change h = λ a within holds.
    let now = h.kept.correct a holds within in
    let is_t = all_at (IsTermOf (length s.doms)) terms k t (terms_still r s terms h.kept.shrinks in_terms) at in
    none_kept t (CanPointBack others s.doms k) s u change (term_value a t) (term_within s.doms a t is_t now)
    (value_back terms others s.doms a k t (terms_still r s others h.kept.shrinks in_others) at holds now)

pub pointing_all : (terms others : List Term) (r s : Stored) (has_changed : Bool) (k : ℕ) → length terms ≤ k → (has_changed ≡ true → AreOthers terms others) → IsPointing terms others r s has_changed k → AllCanPointBack terms others s.doms
pointing_all terms others r s has_changed k end same h = λ i t x at is. (let inside = slice_get_within terms i t at in h.pointing same i t x (omega (arith, inside, end)) at is)
