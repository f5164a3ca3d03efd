-- Keeping the numbers of two terms that have a partner in the other.
use Rattle.std.proofs.Common.{◌≡◌, ◌≢◌, ◌<◌, ℕ, List, refl, sym, subst, ◌∙◌, ap, arith, length, ◌⊎◌, inl, inr}
use Rattle.std.specs.Prelude.{ℤ}
use Rattle.fz_sets.specs.Sets.{IsInSet}
use Rattle.fz_dom.specs.Shape.{least}
use Rattle.fz_dom.specs.declared.change.Change.{Change}
use Rattle.fz_dom.specs.declared.change.Change.TheVariants.{Same, Changed, Wiped}
use Rattle.fz_dom.proofs.Ranges.{least_member}
use Rattle.fz_spec.specs.declared.term.Term.{Term}
use Rattle.fz_spec.specs.declared.term.Term.TheVariants.{Num, Var}
use Rattle.fz_spec.specs.Constraints.{term_value}
use Rattle.fz_strength.specs.Domains.{dom_at, term_set, room, AreDomains, Within, IsNarrower, IsTermOf}
use Rattle.fz_strength.specs.Events.{IsFixedIn}
use Rattle.fz_prop.specs.Stores.{Stored, Shrinks, IsTermChange}
use Rattle.fz_prop.proofs.Filled.{narrower_ranges}
use Rattle.fz_prop.proofs.TermChanges.{term_within, narrower_term, only_in, within_kept, kept_term, none_kept, falls_of, same_store}
use Rattle.fz_prop.specs.Matching.{IsPairOf, AreMatching}
use Rattle.fz_table.specs.Partners.{AreMatchedBy}

-- ---- changes of terms

-- a change of one term leaves another alone
other_term : (change : Change) (x y : Term) (P : ℤ → Type 0) (r s : Stored) → x ≢ y → IsTermChange change y P r s → term_set s.doms x ≡ term_set r.doms x
other_term change (Num n) y P r s other h = refl
other_term Same (Var u) (Var v) P r s other h = ap (λ (t : Stored). dom_at t.doms u) h.0
other_term Wiped (Var u) (Var v) P r s other h = ap (λ (t : Stored). dom_at t.doms u) h.0
other_term Changed (Var u) (Var v) P r s other h = h.others u (λ e. other (ap Var e))
other_term Same (Var u) (Num n) P r s other h = ap (λ (t : Stored). dom_at t.doms u) h.0
other_term Wiped (Var u) (Num n) P r s other h = ap (λ (t : Stored). dom_at t.doms u) h.0
other_term Changed (Var u) (Num n) P r s other h = absurd h

-- what has the property stays
left_term : (change : Change) (t : Term) (P : ℤ → Type 0) (r s : Stored) → IsTermChange change t P r s → (x : ℤ) → IsInSet (term_set r.doms t) x → P x → IsInSet (term_set s.doms t) x
left_term change (Num n) P r s h x is holds = is
left_term Same (Var v) P r s h x is holds = subst (λ (u : Stored). IsInSet (dom_at u.doms v) x) (sym h.0) is
left_term Wiped (Var v) P r s h x is holds = subst (λ (u : Stored). IsInSet (dom_at u.doms v) x) (sym h.0) is
left_term Changed (Var v) P r s h x is holds = (h.kept x).1 (is, holds)

-- ---- no assignment is lost

-- what is true of an assignment: the values are partners
abbrev pub Meet : (ℤ → ℤ → Type 0) → Term → Term → List ℤ → Type 0
Meet R k c a = R (term_value a k) (term_value a c)

-- the partners among what is left
abbrev pub MatchLeft : (ℤ → ℤ → Type 0) → Term → Term → List (List (ℤ × ℤ)) → (ℤ → Type 0) → (ℤ → Type 0) → Type 0
MatchLeft R k c ds P Q = AreMatching R (λ x. IsInSet (term_set ds k) x) (λ x. IsInSet (term_set ds c) x) P Q

the_pair : (R : ℤ → ℤ → Type 0) (k c : Term) (ds : List (List (ℤ × ℤ))) (a : List ℤ) → IsTermOf (length ds) k → IsTermOf (length ds) c → Meet R k c a → Within ds a
    → IsPairOf R (λ x. IsInSet (term_set ds k) x) (λ x. IsInSet (term_set ds c) x) (term_value a k) (term_value a c)
the_pair R k c ds a is_k is_c holds within = record { partners = holds; first = term_within ds a k is_k within; second = term_within ds a c is_c within }

pub correct_once : (R : ℤ → ℤ → Type 0) (first : Change) (k c : Term) (P Q : ℤ → Type 0) (r s : Stored) → IsTermOf (length r.doms) k → IsTermOf (length r.doms) c
    → MatchLeft R k c r.doms P Q → IsTermChange first k P r s → Shrinks r s → (a : List ℤ) → Meet R k c a → Within r.doms a → Within s.doms a
correct_once R first k c P Q r s is_k is_c pairs h shrinks a holds within =
    within_kept first k P r s a h shrinks within ((pairs.firsts (term_value a k)).1 (term_value a c, the_pair R k c r.doms a is_k is_c holds within))

pub correct_twice : (R : ℤ → ℤ → Type 0) (first second : Change) (k c : Term) (P Q : ℤ → Type 0) (r s t : Stored) → IsTermOf (length r.doms) k → IsTermOf (length r.doms) c
    → MatchLeft R k c r.doms P Q → IsTermChange first k P r s → Shrinks r s → IsTermChange second c Q s t → Shrinks s t
    → (a : List ℤ) → Meet R k c a → Within r.doms a → Within t.doms a
correct_twice R first second k c P Q r s t is_k is_c pairs h shrinks g narrows a holds within =
    within_kept second c Q s t a g narrows (correct_once R first k c P Q r s is_k is_c pairs h shrinks a holds within)
    ((pairs.seconds (term_value a c)).1 (term_value a k, the_pair R k c r.doms a is_k is_c holds within))

-- no first number is left
pub fails_at_first : (R : ℤ → ℤ → Type 0) (k c : Term) (P Q : ℤ → Type 0) (r s : Stored) → IsTermOf (length r.doms) k → IsTermOf (length r.doms) c
    → MatchLeft R k c r.doms P Q → IsTermChange Wiped k P r s → (a : List ℤ) → Within r.doms a → Meet R k c a → ⊥
fails_at_first R k c P Q r s is_k is_c pairs h a within holds =
    none_kept k P r s h (term_value a k) (term_within r.doms a k is_k within)
    ((pairs.firsts (term_value a k)).1 (term_value a c, the_pair R k c r.doms a is_k is_c holds within))

-- no second number is left
pub fails_at_second : (R : ℤ → ℤ → Type 0) (first : Change) (k c : Term) (P Q : ℤ → Type 0) (r s t : Stored) → IsTermOf (length r.doms) k → IsTermOf (length r.doms) c
    → MatchLeft R k c r.doms P Q → IsTermChange first k P r s → Shrinks r s → IsTermChange Wiped c Q s t → (a : List ℤ) → Within r.doms a → Meet R k c a → ⊥
fails_at_second R first k c P Q r s t is_k is_c pairs h shrinks g a within holds =
    let is_still : IsTermOf (length s.doms) c = subst (λ (n : ℕ). IsTermOf n c) (sym shrinks.narrower.size) is_c in
    none_kept c Q s t g (term_value a c) (term_within s.doms a c is_still (correct_once R first k c P Q r s is_k is_c pairs h shrinks a holds within))
    ((pairs.seconds (term_value a c)).1 (term_value a k, the_pair R k c r.doms a is_k is_c holds within))

-- ---- the line

-- neither change reaches the other term, unless both are one variable
apart : (first second : Change) (k c : Term) (P Q : ℤ → Type 0) (r s t : Stored) → (first ≡ Wiped → ⊥) → (second ≡ Wiped → ⊥)
    → ((k ≡ c) × ((first ≡ Changed) ⊎ (second ≡ Changed)) → ⊥) → IsTermChange first k P r s → IsTermChange second c Q s t
    → (term_set s.doms c ≡ term_set r.doms c) × (term_set t.doms k ≡ term_set s.doms k)
apart Wiped second k c P Q r s t not_first not_second shared h g = absurd (not_first refl)
apart Same Wiped k c P Q r s t not_first not_second shared h g = absurd (not_second refl)
apart Changed Wiped k c P Q r s t not_first not_second shared h g = absurd (not_second refl)
apart Same Same k c P Q r s t not_first not_second shared h g = (
  ap (λ (u : Stored). term_set u.doms c) (same_store k P r s h),
  ap (λ (u : Stored). term_set u.doms k) (same_store c Q s t g),
)
apart Changed Same k c P Q r s t not_first not_second shared h g =
    let other : k ≢ c = λ e. shared (e, inl refl) in (other_term Changed c k P r s (λ e. other (sym e)) h, other_term Same k c Q s t other g)
apart Changed Changed k c P Q r s t not_first not_second shared h g =
    let other : k ≢ c = λ e. shared (e, inl refl) in (other_term Changed c k P r s (λ e. other (sym e)) h, other_term Changed k c Q s t other g)
apart Same Changed k c P Q r s t not_first not_second shared h g =
    let other : k ≢ c = λ e. shared (e, inr refl) in (other_term Same c k P r s (λ e. other (sym e)) h, other_term Changed k c Q s t other g)

pub matched_now : (R : ℤ → ℤ → Type 0) (first second : Change) (k c : Term) (P Q : ℤ → Type 0) (r s t : Stored) → (first ≡ Wiped → ⊥) → (second ≡ Wiped → ⊥)
    → ((k ≡ c) × ((first ≡ Changed) ⊎ (second ≡ Changed)) → ⊥) → MatchLeft R k c r.doms P Q
    → IsTermChange first k P r s → IsTermChange second c Q s t → AreMatchedBy R t.doms k c
matched_now R first second k c P Q r s t not_first not_second shared pairs h g =
    let alone = apart first second k c P Q r s t not_first not_second shared h g in
    record {
      firsts = λ i is.
          let kept = kept_term first k P r s h not_first i (subst (λ (d : List (ℤ × ℤ)). IsInSet d i) alone.1 is) in
          let p = (pairs.firsts i).0 kept.1 in
          let here = subst (λ (d : List (ℤ × ℤ)). IsInSet d p.0) (sym alone.0) p.1.second in
          (p.0, p.1.partners, left_term second c Q s t g p.0 here ((pairs.seconds p.0).1 (i, p.1)));
      seconds = λ n is.
          let kept = kept_term second c Q s t g not_second n is in
          let p = (pairs.seconds n).0 kept.1 in
          let here = left_term first k P r s h p.0 p.1.first ((pairs.firsts p.0).1 (n, p.1)) in
          (p.0, p.1.partners, subst (λ (d : List (ℤ × ℤ)). IsInSet d p.0) (sym alone.1) here);
    }

-- ---- where one of the two is fixed

-- any two numbers that are left are partners
all_meet : (R : ℤ → ℤ → Type 0) (k c : Term) (ds : List (List (ℤ × ℤ))) → (IsFixedIn ds k ⊎ IsFixedIn ds c) → AreMatchedBy R ds k c
    → (n m : ℤ) → IsInSet (term_set ds k) n → IsInSet (term_set ds c) m → R n m
all_meet R k c ds fixed line n m is_n is_m = elim fixed [
  | inl f ↦
      let p = line.seconds m is_m in
      subst (λ (i : ℤ). R i m) (only_in (term_set ds k) f.0 p.0 f.1 p.2 ∙ sym (only_in (term_set ds k) f.0 n f.1 is_n)) p.1
  | inr f ↦
      let p = line.firsts n is_n in
      subst (λ (i : ℤ). R n i) (only_in (term_set ds c) f.0 p.0 f.1 p.2 ∙ sym (only_in (term_set ds c) f.0 m f.1 is_m)) p.1
]

pub always : (R : ℤ → ℤ → Type 0) (k c : Term) (ds : List (List (ℤ × ℤ))) → IsTermOf (length ds) k → IsTermOf (length ds) c → (IsFixedIn ds k ⊎ IsFixedIn ds c) → AreMatchedBy R ds k c
    → (a : List ℤ) → Within ds a → Meet R k c a
always R k c ds is_k is_c fixed line a within = all_meet R k c ds fixed line (term_value a k) (term_value a c) (term_within ds a k is_k within) (term_within ds a c is_c within)

-- the least number that is left of a term
pub some_number : (ds es : List (List (ℤ × ℤ))) (t : Term) → IsTermOf (length ds) t → AreDomains es → IsNarrower ds es → (n : ℤ) × IsInSet (term_set es t) n
some_number ds es t is domains narrower =
    let ranges = narrower_ranges ds es t is domains narrower in
    (least (term_set es t), (least_member (term_set es t) ranges.some ranges.ranges).0)

pub for_good : (R : ℤ → ℤ → Type 0) (k c : Term) (ds es : List (List (ℤ × ℤ))) → IsTermOf (length ds) k → IsTermOf (length ds) c → (IsFixedIn ds k ⊎ IsFixedIn ds c) → AreMatchedBy R ds k c
    → AreDomains es → IsNarrower ds es → AreMatchedBy R es k c
for_good R k c ds es is_k is_c fixed line domains narrower =
    let meet : (n m : ℤ) → IsInSet (term_set es k) n → IsInSet (term_set es c) m → R n m = λ n m is_n is_m.
    all_meet R k c ds fixed line n m (narrower_term ds es k narrower n is_n) (narrower_term ds es c narrower m is_m) in
    record {
      firsts = λ n is. let m = some_number ds es c is_c domains narrower in (m.0, meet n m.0 is m.1, m.1);
      seconds = λ m is. let n = some_number ds es k is_k domains narrower in (n.0, meet n.0 m n.1 is, n.1);
    }

-- ---- where both terms are one variable that changed

pub falls_twice : (first second : Change) (k c : Term) (P Q : ℤ → Type 0) (r s t : Stored) → (first ≡ Changed) ⊎ (second ≡ Changed) → IsTermChange first k P r s → IsTermChange second c Q s t
    → Shrinks r s → Shrinks s t → room t.doms < room r.doms
falls_twice first second k c P Q r s t changed h g shrinks narrows = elim changed [
  | inl e ↦
      let falls = falls_of k P r s (subst (λ (f : Change). IsTermChange f k P r s) e h) in
      elim narrows.falls [ inl same ↦ subst (λ (u : Stored). room u.doms < room r.doms) (sym same) falls | inr more ↦ omega (arith, falls, more) ]
  | inr e ↦
      let falls = falls_of c Q s t (subst (λ (f : Change). IsTermChange f c Q s t) e g) in
      elim shrinks.falls [ inl same ↦ subst (λ (u : Stored). room t.doms < room u.doms) same falls | inr more ↦ omega (arith, falls, more) ]
]
