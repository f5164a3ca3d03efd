-- Keeping the indices whose number is left, and the numbers at these.
use Rattle.std.proofs.Common.{◌≡◌, ◌≢◌, ◌<◌, ℕ, List, [], ◌∷◌, Bool, true, false, refl, sym, subst, ◌∙◌, ap, arith, length, ◌⊎◌, inl, inr}
use Rattle.std.specs.Prelude.{ℤ}
use Rattle.fz_sets.specs.Sets.{IsInSet}
use Rattle.fz_dom.specs.Shape.{least}
use Rattle.fz_dom.specs.declared.change.Change.{Change}
use Rattle.fz_dom.specs.declared.change.Change.TheVariants.{Same, Changed, Wiped}
use Rattle.fz_dom.proofs.Ranges.{least_member}
use Rattle.fz_spec.specs.declared.term.Term.{Term}
use Rattle.fz_spec.specs.declared.term.Term.TheVariants.{Num, Var}
use Rattle.fz_spec.specs.Constraints.{term_value}
use Rattle.fz_spec.specs.Truth.{IsElement}
use Rattle.fz_strength.specs.Domains.{dom_at, term_set, room, AreDomains, Within, IsNarrower, IsTermOf}
use Rattle.fz_strength.specs.Events.{IsOnly, AllFixed}
use Rattle.fz_strength.proofs.Terms.{in_single}
use Rattle.fz_prop.specs.Answers.{IsAnswerOf, IsCorrectOf}
use Rattle.fz_prop.specs.Outcomes.{rested_by}
use Rattle.fz_prop.specs.Stores.{Stored, Shrinks, IsTermChange}
use Rattle.fz_prop.proofs.Filled.{narrower_ranges, still_only}
use Rattle.fz_prop.proofs.TermChanges.{term_within, narrower_term, only_in, within_kept, kept_term, none_kept, falls_of, same_store}
use Rattle.fz_element.specs.Selecting.{IsSelected, SelectionLine, IsPair, ArePairs}

-- ---- changes of terms

-- a change of one term leaves another alone
other_term : (change : Change) (x y : Term) (P : ℤ → Type 0) (r s : Stored) → x ≢ y → IsTermChange change y P r s → term_set s.doms x ≡ term_set r.doms x
other_term change (Num n) y P r s other h = refl
other_term Same (Var u) (Var v) P r s other h = ap (λ (t : Stored). dom_at t.doms u) h.0
other_term Wiped (Var u) (Var v) P r s other h = ap (λ (t : Stored). dom_at t.doms u) h.0
other_term Changed (Var u) (Var v) P r s other h = h.others u (λ e. other (ap Var e))
other_term Same (Var u) (Num n) P r s other h = ap (λ (t : Stored). dom_at t.doms u) h.0
other_term Wiped (Var u) (Num n) P r s other h = ap (λ (t : Stored). dom_at t.doms u) h.0
other_term Changed (Var u) (Num n) P r s other h = absurd h

-- what has the property stays
left_term : (change : Change) (t : Term) (P : ℤ → Type 0) (r s : Stored) → IsTermChange change t P r s → (x : ℤ) → IsInSet (term_set r.doms t) x → P x → IsInSet (term_set s.doms t) x
left_term change (Num n) P r s h x is holds = is
left_term Same (Var v) P r s h x is holds = subst (λ (u : Stored). IsInSet (dom_at u.doms v) x) (sym h.0) is
left_term Wiped (Var v) P r s h x is holds = subst (λ (u : Stored). IsInSet (dom_at u.doms v) x) (sym h.0) is
left_term Changed (Var v) P r s h x is holds = (h.kept x).1 (is, holds)

-- ---- no assignment is lost

the_pair : (k c : Term) (xs : List ℤ) (ds : List (List (ℤ × ℤ))) (a : List ℤ) → IsTermOf (length ds) k → IsTermOf (length ds) c → IsSelected k xs c a → Within ds a
    → IsPair xs (λ x. IsInSet (term_set ds k) x) (λ x. IsInSet (term_set ds c) x) (term_value a k) (term_value a c)
the_pair k c xs ds a is_k is_c holds within = record { stands = holds; index = term_within ds a k is_k within; number = term_within ds a c is_c within }

pub correct_once : (first : Change) (k c : Term) (xs : List ℤ) (P Q : ℤ → Type 0) (r s : Stored) → IsTermOf (length r.doms) k → IsTermOf (length r.doms) c
    → ArePairs xs (λ x. IsInSet (term_set r.doms k) x) (λ x. IsInSet (term_set r.doms c) x) P Q → IsTermChange first k P r s → Shrinks r s
    → IsCorrectOf (IsSelected k xs c) r.doms s.doms
correct_once first k c xs P Q r s is_k is_c pairs h shrinks = λ a holds within.
    within_kept first k P r s a h shrinks within
    ((pairs.indices_are (term_value a k)).1 (term_value a c, the_pair k c xs r.doms a is_k is_c holds within))

pub correct_twice : (first second : Change) (k c : Term) (xs : List ℤ) (P Q : ℤ → Type 0) (r s t : Stored) → IsTermOf (length r.doms) k → IsTermOf (length r.doms) c
    → ArePairs xs (λ x. IsInSet (term_set r.doms k) x) (λ x. IsInSet (term_set r.doms c) x) P Q → IsTermChange first k P r s → Shrinks r s
    → IsTermChange second c Q s t → Shrinks s t → IsCorrectOf (IsSelected k xs c) r.doms t.doms
correct_twice first second k c xs P Q r s t is_k is_c pairs h shrinks g narrows = λ a holds within.
    within_kept second c Q s t a g narrows (correct_once first k c xs P Q r s is_k is_c pairs h shrinks a holds within)
    ((pairs.numbers_are (term_value a c)).1 (term_value a k, the_pair k c xs r.doms a is_k is_c holds within))

-- no index is left
pub fails_at_index : (k c : Term) (xs : List ℤ) (P Q : ℤ → Type 0) (r s : Stored) → IsTermOf (length r.doms) k → IsTermOf (length r.doms) c
    → ArePairs xs (λ x. IsInSet (term_set r.doms k) x) (λ x. IsInSet (term_set r.doms c) x) P Q → IsTermChange Wiped k P r s
    → (a : List ℤ) → Within r.doms a → IsSelected k xs c a → ⊥
fails_at_index k c xs P Q r s is_k is_c pairs h = λ a within holds.
    none_kept k P r s h (term_value a k) (term_within r.doms a k is_k within)
    ((pairs.indices_are (term_value a k)).1 (term_value a c, the_pair k c xs r.doms a is_k is_c holds within))

-- no number is left
pub fails_at_number : (first : Change) (k c : Term) (xs : List ℤ) (P Q : ℤ → Type 0) (r s t : Stored) → IsTermOf (length r.doms) k → IsTermOf (length r.doms) c
    → ArePairs xs (λ x. IsInSet (term_set r.doms k) x) (λ x. IsInSet (term_set r.doms c) x) P Q → IsTermChange first k P r s → Shrinks r s
    → IsTermChange Wiped c Q s t → (a : List ℤ) → Within r.doms a → IsSelected k xs c a → ⊥
fails_at_number first k c xs P Q r s t is_k is_c pairs h shrinks g = λ a within holds.
    let is_still : IsTermOf (length s.doms) c = subst (λ (n : ℕ). IsTermOf n c) (sym shrinks.narrower.size) is_c in
    none_kept c Q s t g (term_value a c) (term_within s.doms a c is_still (correct_once first k c xs P Q r s is_k is_c pairs h shrinks a holds within))
    ((pairs.numbers_are (term_value a c)).1 (term_value a k, the_pair k c xs r.doms a is_k is_c holds within))

-- ---- the line

-- neither change reaches the other term, unless both are one variable
apart : (first second : Change) (k c : Term) (P Q : ℤ → Type 0) (r s t : Stored) → (first ≡ Wiped → ⊥) → (second ≡ Wiped → ⊥)
    → ((k ≡ c) × ((first ≡ Changed) ⊎ (second ≡ Changed)) → ⊥) → IsTermChange first k P r s → IsTermChange second c Q s t
    → (term_set s.doms c ≡ term_set r.doms c) × (term_set t.doms k ≡ term_set s.doms k)
apart Wiped second k c P Q r s t not_first not_second shared h g = absurd (not_first refl)
apart Same Wiped k c P Q r s t not_first not_second shared h g = absurd (not_second refl)
apart Changed Wiped k c P Q r s t not_first not_second shared h g = absurd (not_second refl)
apart Same Same k c P Q r s t not_first not_second shared h g = (
  ap (λ (u : Stored). term_set u.doms c) (same_store k P r s h),
  ap (λ (u : Stored). term_set u.doms k) (same_store c Q s t g),
)
apart Changed Same k c P Q r s t not_first not_second shared h g =
    let other : k ≢ c = λ e. shared (e, inl refl) in (other_term Changed c k P r s (λ e. other (sym e)) h, other_term Same k c Q s t other g)
apart Changed Changed k c P Q r s t not_first not_second shared h g =
    let other : k ≢ c = λ e. shared (e, inl refl) in (other_term Changed c k P r s (λ e. other (sym e)) h, other_term Changed k c Q s t other g)
apart Same Changed k c P Q r s t not_first not_second shared h g =
    let other : k ≢ c = λ e. shared (e, inr refl) in (other_term Same c k P r s (λ e. other (sym e)) h, other_term Changed k c Q s t other g)

pub matched_now : (first second : Change) (k c : Term) (xs : List ℤ) (P Q : ℤ → Type 0) (r s t : Stored) → (first ≡ Wiped → ⊥) → (second ≡ Wiped → ⊥)
    → ((k ≡ c) × ((first ≡ Changed) ⊎ (second ≡ Changed)) → ⊥) → ArePairs xs (λ x. IsInSet (term_set r.doms k) x) (λ x. IsInSet (term_set r.doms c) x) P Q
    → IsTermChange first k P r s → IsTermChange second c Q s t → SelectionLine k xs c t.doms
matched_now first second k c xs P Q r s t not_first not_second shared pairs h g =
    let alone = apart first second k c P Q r s t not_first not_second shared h g in
    record {
      index = λ i is.
          let kept = kept_term first k P r s h not_first i (subst (λ (d : List (ℤ × ℤ)). IsInSet d i) alone.1 is) in
          let p = (pairs.indices_are i).0 kept.1 in
          let here = subst (λ (d : List (ℤ × ℤ)). IsInSet d p.0) (sym alone.0) p.1.number in
          (p.0, p.1.stands, left_term second c Q s t g p.0 here ((pairs.numbers_are p.0).1 (i, p.1)));
      number = λ n is.
          let kept = kept_term second c Q s t g not_second n is in
          let p = (pairs.numbers_are n).0 kept.1 in
          let here = left_term first k P r s h p.0 p.1.index ((pairs.indices_are p.0).1 (n, p.1)) in
          (p.0, p.1.stands, subst (λ (d : List (ℤ × ℤ)). IsInSet d p.0) (sym alone.1) here);
    }

-- ---- answers

always : (k c : Term) (xs : List ℤ) (n : ℤ) (ds : List (List (ℤ × ℤ))) → IsTermOf (length ds) k → IsTermOf (length ds) c → IsOnly (term_set ds c) n → SelectionLine k xs c ds
    → (a : List ℤ) → Within ds a → IsSelected k xs c a
always k c xs n ds is_k is_c only line a within =
    let p = line.index (term_value a k) (term_within ds a k is_k within) in
    let same : p.0 ≡ term_value a c = only_in (term_set ds c) n p.0 only p.2 ∙ sym (only_in (term_set ds c) n (term_value a c) only (term_within ds a c is_c within)) in
    subst (λ (m : ℤ). IsElement (term_value a k) xs m) same p.1

for_good : (k c : Term) (xs : List ℤ) (n : ℤ) (ds es : List (List (ℤ × ℤ))) → IsTermOf (length ds) k → IsTermOf (length ds) c → IsOnly (term_set ds c) n → SelectionLine k xs c ds
    → AreDomains es → IsNarrower ds es → SelectionLine k xs c es
for_good k c xs n ds es is_k is_c only line domains narrower =
    let still = still_only ds es c n is_c only domains narrower in
    let ranges = narrower_ranges ds es k is_k domains narrower in
    let stands : (i : ℤ) → IsInSet (term_set es k) i → IsElement i xs n = λ i is.
    let p = line.index i (narrower_term ds es k narrower i is) in subst (IsElement i xs) (only_in (term_set ds c) n p.0 only p.2) p.1 in
    record {
      index = λ i is. (n, stands i is, subst (λ (d : List (ℤ × ℤ)). IsInSet d n) (sym still) (in_single n n refl));
      number = λ m is.
          let first = (least_member (term_set es k) ranges.some ranges.ranges).0 in
          let same : n ≡ m = sym (only_in (term_set es c) n m still is) in
          (least (term_set es k), subst (λ (u : ℤ). IsElement (least (term_set es k)) xs u) same (stands (least (term_set es k)) first), first);
    }

pub rested_answer : (fixed : Bool) (k c : Term) (xs : List ℤ) (ds es : List (List (ℤ × ℤ))) → IsTermOf (length es) k → IsTermOf (length es) c → SelectionLine k xs c es
    → (fixed ≡ true → AllFixed es (c ∷ [])) → IsAnswerOf (rested_by fixed) (IsSelected k xs c) (SelectionLine k xs c) ds es
rested_answer false k c xs ds es is_k is_c line one = line
rested_answer true k c xs ds es is_k is_c line one =
    let only = (one refl).0 in (
      always k c xs only.0 es is_k is_c only.1 line,
      λ fs domains narrower. for_good k c xs only.0 es fs is_k is_c only.1 line domains narrower,
    )

-- ---- where both terms are one variable that changed

pub falls_twice : (first second : Change) (k c : Term) (P Q : ℤ → Type 0) (r s t : Stored) → (first ≡ Changed) ⊎ (second ≡ Changed) → IsTermChange first k P r s → IsTermChange second c Q s t
    → Shrinks r s → Shrinks s t → room t.doms < room r.doms
falls_twice first second k c P Q r s t changed h g shrinks narrows = elim changed [
  | inl e ↦
      let falls = falls_of k P r s (subst (λ (f : Change). IsTermChange f k P r s) e h) in
      elim narrows.falls [ inl same ↦ subst (λ (u : Stored). room u.doms < room r.doms) (sym same) falls | inr more ↦ omega (arith, falls, more) ]
  | inr e ↦
      let falls = falls_of c Q s t (subst (λ (f : Change). IsTermChange f c Q s t) e g) in
      elim shrinks.falls [ inl same ↦ subst (λ (u : Stored). room t.doms < room u.doms) same falls | inr more ↦ omega (arith, falls, more) ]
]
