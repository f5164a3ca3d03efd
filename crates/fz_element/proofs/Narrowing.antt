-- Keeping the indices and the numbers that have a match, and of the term at the last index what is left of the value.
use Rattle.std.proofs.Common.{◌≡◌, ◌<◌, Bool, true, false, ℕ, zero, suc, List, [], ◌∷◌, refl, sym, ap, subst, ◌∙◌, arith, length, Result, Ok, Err}
use Rattle.std.specs.Prelude.{ℤ, pos, ◌≤ℤ◌, slice_get, Some, OnErr, IfOk}
use Rattle.std.specs.List.{AllByRecursion}
use Rattle.std.proofs.lemmas.Int.{ints}
use Rattle.fz_sets.specs.Sets.{IsInSet}
use Rattle.fz_sets.proofs.Lists.{some_is}
use Rattle.fz_dom.specs.Changes.{IsFromTo}
use Rattle.fz_dom.specs.declared.change.Change.{Change}
use Rattle.fz_dom.specs.declared.change.Change.TheVariants.{Same, Changed, Wiped}
use Rattle.fz_dom.proofs.Ranges.{same_ranges}
use Rattle.fz_spec.specs.declared.term.Term.{Term}
use Rattle.fz_spec.specs.Constraints.{term_value, term_values}
use Rattle.fz_spec.specs.Truth.{IsElement}
use Rattle.fz_strength.specs.Domains.{term_set, AreDomains, Within, room, IsTermOf}
use Rattle.fz_strength.specs.Events.{IsOnly, AllFixed}
use Rattle.fz_strength.specs.VariableElements.{StandsAt, IsMatch, IsVariableElementLine}
use Rattle.fz_strength.proofs.Terms.{in_single}
use Rattle.fz_strength.proofs.VariableElements.{element_value}
use Rattle.fz_prop.specs.Answers.{IsAnswerOf, IsCorrectOf}
use Rattle.fz_prop.specs.Outcomes.{rested_by}
use Rattle.fz_prop.specs.Stores.{Stored, Shrinks, FitsTerm, IsTermChange}
use Rattle.fz_prop.proofs.Grown.{term_limits}
use Rattle.fz_prop.proofs.Twice.{room_after}
use Rattle.fz_prop.proofs.Filled.{term_ranges, still_only}
use Rattle.fz_prop.proofs.TermChanges.{term_within, only_in, within_kept, kept_term, none_kept, falls_of, same_store}
use Rattle.fz_element.specs.Matching.{IsChosen, AreMatches, AreAllMatched, IsNeverChosen, IsNarrowed}
use Rattle.fz_element.proofs.Matching.{stands_from, stands_to, stands_only, stands_of}

-- the terms are of a store with that many variables
pub record AreTermsOf (n : ℕ) (xs : List Term) (k c : Term) : Type 0 where
  pub index : IsTermOf n k
  pub terms : AllByRecursion (IsTermOf n) xs
  pub value : IsTermOf n c

-- ---- what is true of an assignment

value_term : (a : List ℤ) (xs : List Term) (i : ℕ) (n : ℤ) → slice_get (term_values a xs) i ≡ Some n → (x : Term) × (slice_get xs i ≡ Some x) × (term_value a x ≡ n)
value_term a [] i n at = absurd (cc (at))
value_term a (y ∷ xs) zero n at = (y, refl, some_is (term_value a y) n at)
value_term a (y ∷ xs) (suc i) n at = value_term a xs i n at

element_term : (a : List ℤ) (k : ℤ) (xs : List Term) (n : ℤ) → IsElement k (term_values a xs) n → (x : Term) × StandsAt k xs x × (term_value a x ≡ n)
element_term a k xs n is = let p = value_term a xs is.0 n is.2 in (p.0, (is.0, is.1, p.1), p.2)

-- the index and the value have a match
the_match : (xs : List Term) (k c : Term) (ds : List (List (ℤ × ℤ))) (a : List ℤ) → AreTermsOf (length ds) xs k c → Within ds a → IsChosen xs k c a
    → IsMatch xs k c ds (term_value a k) (term_value a c)
the_match xs k c ds a of within holds =
    let p = element_term a (term_value a k) xs (term_value a c) holds in
    let is_x = stands_of (IsTermOf (length ds)) (term_value a k) xs p.0 of.terms p.1 in
    record {
      term = p.0;
      stands = p.1;
      index = term_within ds a k of.index within;
      there = subst (λ (n : ℤ). IsInSet (term_set ds p.0) n) p.2 (term_within ds a p.0 is_x within);
      value = term_within ds a c of.value within;
    }

-- the index is that of a term of the list
pub needs_place : (xs : List Term) (k c : Term) (ds : List (List (ℤ × ℤ))) (last : ℤ) → AreTermsOf (length ds) xs k c → AreDomains ds → FitsTerm k
    → ((i : ℤ) → i ≤ℤ pos 2147483647 → i ≤ℤ pos (length xs) → i ≤ℤ last) → (a : List ℤ) → Within ds a → IsChosen xs k c a → IsFromTo (pos 1) last (term_value a k)
needs_place xs k c ds last of domains fits last_is = λ a within holds.
    let m = the_match xs k c ds a of within holds in
    let limits = (term_limits ds k (term_value a k) of.index domains fits m.index).1 in
    (stands_from (term_value a k) xs m.term m.stands, last_is (term_value a k) (omega (arith, ints, limits)) (stands_to (term_value a k) xs m.term m.stands))

pub needs_index : (xs : List Term) (k c : Term) (ds : List (List (ℤ × ℤ))) (P Q : ℤ → Type 0) → AreTermsOf (length ds) xs k c → AreMatches xs k c ds P Q
    → (a : List ℤ) → Within ds a → IsChosen xs k c a → P (term_value a k)
needs_index xs k c ds P Q of matches = λ a within holds. (matches.indices_are (term_value a k)).1 (term_value a c, the_match xs k c ds a of within holds)

pub needs_number : (xs : List Term) (k c : Term) (ds : List (List (ℤ × ℤ))) (P Q : ℤ → Type 0) → AreTermsOf (length ds) xs k c → AreMatches xs k c ds P Q
    → (a : List ℤ) → Within ds a → IsChosen xs k c a → Q (term_value a c)
needs_number xs k c ds P Q of matches = λ a within holds. (matches.numbers_are (term_value a c)).1 (term_value a k, the_match xs k c ds a of within holds)

pub needs_last : (xs : List Term) (k c : Term) (ds : List (List (ℤ × ℤ))) (i : ℤ) (x : Term) → AreTermsOf (length ds) xs k c → IsOnly (term_set ds k) i → StandsAt i xs x
    → (a : List ℤ) → Within ds a → IsChosen xs k c a → IsInSet (term_set ds c) (term_value a x)
needs_last xs k c ds i x of only stands = λ a within holds.
    let p = element_term a (term_value a k) xs (term_value a c) holds in
    let here : term_value a k ≡ i = only_in (term_set ds k) i (term_value a k) only (term_within ds a k of.index within) in
    let chosen : p.0 ≡ x = stands_only i xs p.0 x (subst (λ (j : ℤ). StandsAt j xs p.0) here p.1) stands in
    let same : term_value a c ≡ term_value a x = sym p.2 ∙ ap (term_value a) chosen in
    subst (λ (n : ℤ). IsInSet (term_set ds c) n) same (term_within ds a c of.value within)

-- ---- a change of one term

pub step_correct : (change : Change) (t : Term) (P : ℤ → Type 0) (T : List ℤ → Type 0) (r s : Stored) → ((a : List ℤ) → Within r.doms a → T a → P (term_value a t))
    → IsTermChange change t P r s → Shrinks r s → IsCorrectOf T r.doms s.doms
step_correct change t P T r s needs h shrinks = λ a holds within. within_kept change t P r s a h shrinks within (needs a within holds)

pub step_correct_of : {E : Type 0} (o : Result Change E) (t : Term) (P : ℤ → Type 0) (T : List ℤ → Type 0) (r s : Stored) → ((a : List ℤ) → Within r.doms a → T a → P (term_value a t))
    → OnErr o (s ≡ r) → IfOk o (λ change. IsTermChange change t P r s) → Shrinks r s → IsCorrectOf T r.doms s.doms
step_correct_of {E} (Ok change) t P T r s needs err h shrinks = step_correct change t P T r s needs h shrinks
step_correct_of {E} (Err error) t P T r s needs err h shrinks = λ a holds within. subst (λ (u : Stored). Within u.doms a) (sym err) within

pub never_of : (t : Term) (P : ℤ → Type 0) (xs : List Term) (k c : Term) (r s : Stored) → IsTermOf (length r.doms) t → ((a : List ℤ) → Within r.doms a → IsChosen xs k c a → P (term_value a t))
    → IsTermChange Wiped t P r s → IsNeverChosen xs k c r.doms
never_of t P xs k c r s is needs h = λ a within holds. none_kept t P r s h (term_value a t) (term_within r.doms a t is within) (needs a within holds)

-- a change that isn't none
pub narrowed_by : (change : Change) (t : Term) (P : ℤ → Type 0) (xs : List Term) (k c : Term) (r s : Stored) → (change ≡ Same → ⊥) → IsTermOf (length r.doms) t
    → ((a : List ℤ) → Within r.doms a → IsChosen xs k c a → P (term_value a t)) → IsTermChange change t P r s → IsNarrowed change xs k c r s
narrowed_by Same t P xs k c r s not is needs h = absurd (not refl)
narrowed_by Changed t P xs k c r s not is needs h = falls_of t P r s h
narrowed_by Wiped t P xs k c r s not is needs h = never_of t P xs k c r s is needs h

-- two changes, of the index and of the value
pub correct_both : (first second : Change) (k c : Term) (P Q : ℤ → Type 0) (T : List ℤ → Type 0) (r s t : Stored) → ((a : List ℤ) → Within r.doms a → T a → P (term_value a k))
    → ((a : List ℤ) → Within r.doms a → T a → Q (term_value a c)) → IsTermChange first k P r s → Shrinks r s → IsTermChange second c Q s t → Shrinks s t → IsCorrectOf T r.doms t.doms
correct_both first second k c P Q T r s t index value h shrinks g narrows = λ a holds within.
    within_kept second c Q s t a g narrows (within_kept first k P r s a h shrinks within (index a within holds)) (value a within holds)

pub never_both : (first : Change) (k c : Term) (P Q : ℤ → Type 0) (xs : List Term) (r s t : Stored) → IsTermOf (length r.doms) c → ((a : List ℤ) → Within r.doms a → IsChosen xs k c a → P (term_value a k))
    → ((a : List ℤ) → Within r.doms a → IsChosen xs k c a → Q (term_value a c)) → IsTermChange first k P r s → Shrinks r s → IsTermChange Wiped c Q s t → IsNeverChosen xs k c r.doms
never_both first k c P Q xs r s t is index value h shrinks g = λ a within holds.
    let is_c : IsTermOf (length s.doms) c = subst (λ (n : ℕ). IsTermOf n c) (sym shrinks.narrower.size) is in
    none_kept c Q s t g (term_value a c) (term_within s.doms a c is_c (within_kept first k P r s a h shrinks within (index a within holds))) (value a within holds)

pub less_both : (k : Term) (P : ℤ → Type 0) (r s t : Stored) → IsTermChange Changed k P r s → Shrinks s t → room t.doms < room r.doms
less_both k P r s t h narrows =
    let falls = falls_of k P r s h in
    let after = room_after s t narrows in
    omega (arith, falls, after)

-- all that is left of a term that doesn't change has the property
pub all_kept : (t : Term) (P : ℤ → Type 0) (r s : Stored) → IsTermChange Same t P r s → (x : ℤ) → IsInSet (term_set r.doms t) x → P x
all_kept t P r s h x is = (kept_term Same t P r s h (λ e. cc) x (subst (λ (u : Stored). IsInSet (term_set u.doms t) x) (sym (same_store t P r s h)) is)).1

-- ---- the line

pub all_matched : (xs : List Term) (k c : Term) (r : Stored) (P Q : ℤ → Type 0) → AreMatches xs k c r.doms P Q
    → ((i : ℤ) → IsInSet (term_set r.doms k) i → P i) → ((n : ℤ) → IsInSet (term_set r.doms c) n → Q n) → AreAllMatched xs k c r.doms
all_matched xs k c r P Q matches index number = record {
  index = λ i is. (matches.indices_are i).0 (index i is);
  number = λ n is. (matches.numbers_are n).0 (number n is);
}

-- several indices are left
pub no_last : (xs : List Term) (k c : Term) (r : Stored) → AreAllMatched xs k c r.doms → ((i : ℤ) → IsOnly (term_set r.doms k) i → ⊥) → IsNarrowed Same xs k c r r
no_last xs k c r matched none = (refl, record { index = matched.index; number = matched.number; one = λ i x only stands. absurd (none i only) })

-- the one index that is left is that of a term
pub some_stands : (xs : List Term) (k c : Term) (r : Stored) (i : ℤ) → AreAllMatched xs k c r.doms → IsOnly (term_set r.doms k) i → ((x : Term) → StandsAt i xs x → ⊥) → ⊥
some_stands xs k c r i matched only none =
    let p = matched.index i (subst (λ (d : List (ℤ × ℤ)). IsInSet d i) (sym only) (in_single i i refl)) in none p.1.term p.1.stands

pub last_narrowed : (change : Change) (xs : List Term) (k c : Term) (i : ℤ) (x : Term) (r s : Stored) → AreTermsOf (length r.doms) xs k c → AreDomains r.doms
    → AreAllMatched xs k c r.doms → IsOnly (term_set r.doms k) i → StandsAt i xs x → IsTermChange change x (λ n. IsInSet (term_set r.doms c) n) r s → IsNarrowed change xs k c r s
last_narrowed Same xs k c i x r s of domains matched only stands h =
    let P : ℤ → Type 0 = λ n. IsInSet (term_set r.doms c) n in
    let has_x = term_ranges r.doms x (stands_of (IsTermOf (length r.doms)) i xs x of.terms stands) domains in
    let has_c = term_ranges r.doms c of.value domains in
    let same : term_set r.doms x ≡ term_set r.doms c = same_ranges (term_set r.doms x) (term_set r.doms c) has_x.ranges has_c.ranges (λ n. (
      (λ is. all_kept x P r s h n is),
      (λ is.
          let p = matched.number n is in
          let here : p.0 ≡ i = only_in (term_set r.doms k) i p.0 only p.1.index in
          let chosen : p.1.term ≡ x = stands_only i xs p.1.term x (subst (λ (j : ℤ). StandsAt j xs p.1.term) here p.1.stands) stands in
          subst (λ (t : Term). IsInSet (term_set r.doms t) n) chosen p.1.there),
    )) in (
      same_store x P r s h,
      record {
        index = matched.index;
        number = matched.number;
        one = λ j y at there.
            let here : j ≡ i = only_in (term_set r.doms k) i j only (subst (λ (d : List (ℤ × ℤ)). IsInSet d j) (sym at) (in_single j j refl)) in
            let chosen : x ≡ y = stands_only i xs x y stands (subst (λ (m : ℤ). StandsAt m xs y) here there) in
            subst (λ (t : Term). term_set r.doms t ≡ term_set r.doms c) chosen same;
      },
    )
last_narrowed Changed xs k c i x r s of domains matched only stands h = falls_of x (λ n. IsInSet (term_set r.doms c) n) r s h
last_narrowed Wiped xs k c i x r s of domains matched only stands h =
    never_of x (λ n. IsInSet (term_set r.doms c) n) xs k c r s (stands_of (IsTermOf (length r.doms)) i xs x of.terms stands) (needs_last xs k c r.doms i x of only stands) h

-- ---- answers

always : (xs : List Term) (k c : Term) (ds : List (List (ℤ × ℤ))) (i n : ℤ) (x : Term) → AreTermsOf (length ds) xs k c → IsOnly (term_set ds k) i → IsOnly (term_set ds c) n → StandsAt i xs x
    → IsOnly (term_set ds x) n → (a : List ℤ) → Within ds a → IsChosen xs k c a
always xs k c ds i n x of at_k at_c stands at_x = λ a within.
    let here : term_value a k ≡ i = only_in (term_set ds k) i (term_value a k) at_k (term_within ds a k of.index within) in
    let is_x = stands_of (IsTermOf (length ds)) i xs x of.terms stands in
    let of_x : term_value a x ≡ n = only_in (term_set ds x) n (term_value a x) at_x (term_within ds a x is_x within) in
    let of_c : term_value a c ≡ n = only_in (term_set ds c) n (term_value a c) at_c (term_within ds a c of.value within) in
    rw (here, of_c, ← of_x) (element_value a xs i x stands)

line_of_fixed : (xs : List Term) (k c : Term) (ds : List (List (ℤ × ℤ))) (i n : ℤ) (x : Term) → IsOnly (term_set ds k) i → IsOnly (term_set ds c) n → StandsAt i xs x
    → IsOnly (term_set ds x) n → IsVariableElementLine xs k c ds
line_of_fixed xs k c ds i n x at_k at_c stands at_x =
    let match : IsMatch xs k c ds i n = record {
      term = x;
      stands = stands;
      index = subst (λ (d : List (ℤ × ℤ)). IsInSet d i) (sym at_k) (in_single i i refl);
      there = subst (λ (d : List (ℤ × ℤ)). IsInSet d n) (sym at_x) (in_single n n refl);
      value = subst (λ (d : List (ℤ × ℤ)). IsInSet d n) (sym at_c) (in_single n n refl);
    } in
    record {
      index = λ j is. (n, subst (λ (q : ℤ). IsMatch xs k c ds q n) (sym (only_in (term_set ds k) i j at_k is)) match);
      number = λ m is. (i, subst (λ (q : ℤ). IsMatch xs k c ds i q) (sym (only_in (term_set ds c) n m at_c is)) match);
      one = λ j y only there.
          let here : j ≡ i = only_in (term_set ds k) i j at_k (subst (λ (d : List (ℤ × ℤ)). IsInSet d j) (sym only) (in_single j j refl)) in
          let same : x ≡ y = stands_only i xs x y stands (subst (λ (m : ℤ). StandsAt m xs y) here there) in
          subst (λ (t : Term). term_set ds t ≡ term_set ds c) same (at_x ∙ sym at_c);
    }

pub rested_answer : (fixed : Bool) (xs : List Term) (k c : Term) (ds es : List (List (ℤ × ℤ))) → AreTermsOf (length es) xs k c → IsVariableElementLine xs k c es
    → (fixed ≡ true → AllFixed es (k ∷ c ∷ [])) → IsAnswerOf (rested_by fixed) (IsChosen xs k c) (IsVariableElementLine xs k c) ds es
rested_answer false xs k c ds es of line both = line
rested_answer true xs k c ds es of line both =
    let index = (both refl).0 in
    let value = (both refl).1.0 in
    let i = index.0 in
    let n = value.0 in
    let p = line.index i (subst (λ (d : List (ℤ × ℤ)). IsInSet d i) (sym index.1) (in_single i i refl)) in
    let x = p.1.term in
    let stands = p.1.stands in
    let at_x : IsOnly (term_set es x) n = line.one i x index.1 stands ∙ value.1 in
    let is_x = stands_of (IsTermOf (length es)) i xs x of.terms stands in (
      always xs k c es i n x of index.1 value.1 stands at_x,
      λ fs filled narrower. line_of_fixed xs k c fs i n x (still_only es fs k i of.index index.1 filled narrower) (still_only es fs c n of.value value.1 filled narrower) stands
          (still_only es fs x n is_x at_x filled narrower),
    )
