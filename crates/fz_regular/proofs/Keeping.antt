-- Keeping each term to the numbers that stand at its place of a list which is accepted.
use Rattle.std.proofs.Common.{◌≡◌, ℕ, ◌+◌, ◌<◌, ◌≤◌, List, [], ◌∷◌, inl, inr, refl, sym, ap, subst, ◌∙◌, arith, length, option_map, true, false, Bool}
use Rattle.std.specs.Prelude.{ℤ, slice_get, Some, ◌↔◌}
use Rattle.std.specs.List.{AllByRecursion}
use Rattle.std.proofs.lemmas.Bool.{cases_eq}
use Rattle.std.proofs.lemmas.List.{length-map}
use Rattle.std.proofs.lemmas.Option.{slice_get_within, slice_get_cases, slice_get-map}
use Rattle.fz_sets.specs.Sets.{IsInSet, IsWithinLimits}
use Rattle.fz_sets.proofs.Lists.{all_at}
use Rattle.fz_dom.specs.declared.change.Change.{Change}
use Rattle.fz_dom.specs.declared.change.Change.TheVariants.{Same, Changed, Wiped}
use Rattle.fz_spec.specs.declared.term.Term.{Term}
use Rattle.fz_spec.specs.declared.term.Term.TheVariants.{Num, Var}
use Rattle.fz_spec.specs.Constraints.{term_value, term_values}
use Rattle.fz_spec.specs.Truth.{Automaton}
use Rattle.fz_strength.specs.Domains.{dom_at, term_set, room, AreDomains, Within, IsNarrower, IsTermOf}
use Rattle.fz_strength.specs.Events.{IsFixedIn, AllFixed, AreSingle}
use Rattle.fz_strength.specs.Tables.{LieWithin}
use Rattle.fz_strength.specs.Regular.{IsLeftWord, IsInLeftWord, IsRegularLine}
use Rattle.fz_strength.proofs.Regular.{regular_true}
use Rattle.fz_prop.specs.declared.answer.Answer.TheVariants.{Subsumed}
use Rattle.fz_prop.specs.Answers.{IsAnswerOf, IsCorrectOf}
use Rattle.fz_prop.specs.Stores.{Stored, Shrinks, FitsTerm, IsTermChange}
use Rattle.fz_prop.proofs.Filled.{still_only}
use Rattle.fz_prop.proofs.Grown.{term_limits}
use Rattle.fz_prop.proofs.Steps.{same_shrinks, change_at_as}
use Rattle.fz_prop.proofs.TermChanges.{term_within, narrower_term, only_in, within_kept, kept_term, none_kept, falls_of, same_store}
use Rattle.fz_prop.proofs.Twice.{shrinks_twice, room_after}
use Rattle.fz_regular.specs.declared.bit_rows.BitRows.{BitRows}
use Rattle.fz_regular.specs.BitRows.{Has}
use Rattle.fz_column.specs.Apart.{AreApart}
use Rattle.fz_regular.specs.Runs.{number, AreInWords, IsAcceptedAt}

-- a list has a number at each place before its end
number_at_place : (ns : List ℤ) (j n : ℕ) → length ns ≡ n → j < n → (m : ℤ) × (slice_get ns j ≡ Some m)
number_at_place ns j n size below = elim (slice_get_cases ns j).1 [
  | inl at ↦ (at.0, at.2)
  | inr past ↦ let end = past.0 in absurd (omega (arith, size, below, end))
]

-- ---- the values of an assignment

values_lie : (ds : List (List (ℤ × ℤ))) (a : List ℤ) (xs : List Term) → AllByRecursion (IsTermOf (length ds)) xs → Within ds a → LieWithin ds xs (term_values a xs)
values_lie ds a xs terms within = record {
  size = length-map xs (term_value a);
  each = λ j t n at_t at_n.
      let got : slice_get (term_values a xs) j ≡ Some (term_value a t) = slice_get-map (term_value a) xs j ∙ ap (λ o. option_map (term_value a) o) at_t in
      let is : term_value a t ≡ n = cc (got, at_n) in
      subst (IsInSet (term_set ds t)) is (term_within ds a t (all_at (IsTermOf (length ds)) xs j t terms at_t) within);
}

pub value_word : (m : Automaton) (xs : List Term) (ds : List (List (ℤ × ℤ))) (a : List ℤ) → AllByRecursion (IsTermOf (length ds)) xs → IsAcceptedAt m xs a → Within ds a → IsLeftWord m xs ds (term_values a xs)
value_word m xs ds a terms holds within = record { accepted = holds; within = values_lie ds a xs terms within }

value_stands : (m : Automaton) (xs : List Term) (ds : List (List (ℤ × ℤ))) (a : List ℤ) (j : ℕ) (t : Term) → AllByRecursion (IsTermOf (length ds)) xs → slice_get xs j ≡ Some t → IsAcceptedAt m xs a → Within ds a
    → IsInLeftWord m xs ds j (term_value a t)
value_stands m xs ds a j t terms at holds within =
    (term_values a xs, value_word m xs ds a terms holds within, slice_get-map (term_value a) xs j ∙ ap (λ o. option_map (term_value a) o) at)

-- ---- the loop over the places

-- Terms before place k are kept to the numbers of lists that are accepted; where nothing changed, or no variable stands at two places,
-- the lists still lie in the domains.
pub record IsKeeping (m : Automaton) (xs : List Term) (r s : Stored) (has_changed : Bool) (k : ℕ) : Type 0 where
  pub shrinks : Shrinks r s
  pub correct : IsCorrectOf (IsAcceptedAt m xs) r.doms s.doms
  pub falls : has_changed ≡ true → room s.doms < room r.doms
  pub same : has_changed ≡ false → s ≡ r
  pub lie : (has_changed ≡ true → AreApart xs) → (word : List ℤ) → IsLeftWord m xs r.doms word → LieWithin s.doms xs word
  pub stand : (j : ℕ) (t : Term) (n : ℤ) → j < k → slice_get xs j ≡ Some t → IsInSet (term_set s.doms t) n → IsInLeftWord m xs r.doms j n

pub keeping_none : (m : Automaton) (xs : List Term) (s : Stored) → IsKeeping m xs s s false 0
keeping_none m xs s = record {
  shrinks = same_shrinks s;
  correct = λ a holds within. within;
  falls = λ e. absurd (cc (e));
  same = λ e. refl;
  lie = λ apart word left. left.within;
  stand = λ j t n below. absurd (omega (arith, below));
}

-- a property of numbers that those of the lists at a place have, and no others
abbrev pub AreThere : Automaton → List Term → Stored → ℕ → (ℤ → Type 0) → Type 0
AreThere m xs r k P = (n : ℤ) → P n ↔ IsInLeftWord m xs r.doms k n

pub keeping_same : (m : Automaton) (xs : List Term) (r s u : Stored) (has_changed : Bool) (k : ℕ) (t : Term) (P : ℤ → Type 0) → slice_get xs k ≡ Some t → AreThere m xs r k P
    → IsTermChange Same t P s u → IsKeeping m xs r s has_changed k → IsKeeping m xs r u has_changed (k + 1)
keeping_same m xs r s u has_changed k t P at there change h =
    subst (λ (v : Stored). IsKeeping m xs r v has_changed (k + 1)) (sym (same_store t P s u change)) (record {
      shrinks = h.shrinks;
      correct = h.correct;
      falls = h.falls;
      same = h.same;
      lie = h.lie;
      stand = λ j w n below at_w is. elim (cases_eq j k) [
        | inl e ↦
            let is_t : w ≡ t = cc (at, subst (λ (i : ℕ). slice_get xs i ≡ Some w) e at_w) in
            let now : IsInSet (term_set s.doms t) n = subst (λ (v : Term). IsInSet (term_set s.doms v) n) is_t is in
            let after : IsInSet (term_set u.doms t) n = subst (λ (v : Stored). IsInSet (term_set v.doms t) n) (sym (same_store t P s u change)) now in
            subst (λ (i : ℕ). IsInLeftWord m xs r.doms i n) (sym e) ((there n).0 (kept_term Same t P s u change (λ e. absurd (cc (e))) n after).1)
        | inr other ↦ h.stand j w n (omega (arith, below, other)) at_w is
      ];
    })

pub keeping_correct : (change : Change) (m : Automaton) (xs : List Term) (r s u : Stored) (k : ℕ) (t : Term) (P : ℤ → Type 0) → AllByRecursion (IsTermOf (length r.doms)) xs → slice_get xs k ≡ Some t
    → AreThere m xs r k P → IsTermChange change t P s u → Shrinks s u → IsCorrectOf (IsAcceptedAt m xs) r.doms s.doms → IsCorrectOf (IsAcceptedAt m xs) r.doms u.doms
keeping_correct change m xs r s u k t P terms at there h shrinks correct = λ a holds within.
    within_kept change t P s u a h shrinks (correct a holds within) ((there (term_value a t)).1 (value_stands m xs r.doms a k t terms at holds within))

-- a number of a list lies in what is kept at its place
lies_in : (m : Automaton) (xs : List Term) (r s u : Stored) (k : ℕ) (t : Term) (P : ℤ → Type 0) (word : List ℤ) (j : ℕ) (w : Term) (n : ℤ) → slice_get xs k ≡ Some t → AreThere m xs r k P
    → IsTermChange Changed t P s u → AreApart xs → IsLeftWord m xs r.doms word → slice_get xs j ≡ Some w → slice_get word j ≡ Some n → IsInSet (term_set s.doms w) n → IsInSet (term_set u.doms w) n
lies_in m xs r s u k (Num c) P word j w n at there change apart left at_w at_n is = absurd change
lies_in m xs r s u k (Var v) P word j (Num c) n at there change apart left at_w at_n is = is
lies_in m xs r s u k (Var v) P word j (Var w) n at there change apart left at_w at_n is = elim (cases_eq w v) [
  | inl one ↦
      let here : slice_get xs j ≡ Some (Var v) = at_w ∙ ap (λ (x : ℕ). Some (Var x)) one in
      let same : j ≡ k = apart j k v here at in
      let stands : IsInLeftWord m xs r.doms k n = (word, left, subst (λ (i : ℕ). slice_get word i ≡ Some n) same at_n) in
      let was : IsInSet (dom_at s.doms v) n = subst (λ (x : ℕ). IsInSet (dom_at s.doms x) n) one is in
      subst (λ (x : ℕ). IsInSet (dom_at u.doms x) n) (sym one) ((change.kept n).1 (was, (there n).1 stands))
  | inr other ↦ subst (λ (d : List (ℤ × ℤ)). IsInSet d n) (sym (change.others w other)) is
]

pub keeping_changed : (m : Automaton) (xs : List Term) (r s u : Stored) (has_changed : Bool) (k : ℕ) (t : Term) (P : ℤ → Type 0) → AllByRecursion (IsTermOf (length r.doms)) xs → slice_get xs k ≡ Some t
    → AreThere m xs r k P → IsTermChange Changed t P s u → Shrinks s u → IsKeeping m xs r s has_changed k → IsKeeping m xs r u true (k + 1)
keeping_changed m xs r s u has_changed k t P terms at there change shrinks h = record {
  shrinks = shrinks_twice r s u h.shrinks shrinks;
  correct = keeping_correct Changed m xs r s u k t P terms at there change shrinks h.correct;
  falls = λ e. let before = room_after r s h.shrinks in let now = falls_of t P s u change in omega (arith, before, now);
  same = λ e. absurd (cc (e));
  lie = λ apart word left.
      let was = h.lie (λ e. apart refl) word left in
      record { size = was.size; each = λ j w n at_w at_n. lies_in m xs r s u k t P word j w n at there change (apart refl) left at_w at_n (was.each j w n at_w at_n) };
  stand = λ j w n below at_w is. elim (cases_eq j k) [
    | inl e ↦
        let is_t : w ≡ t = cc (at, subst (λ (i : ℕ). slice_get xs i ≡ Some w) e at_w) in
        let now : IsInSet (term_set u.doms t) n = subst (λ (v : Term). IsInSet (term_set u.doms v) n) is_t is in
        subst (λ (i : ℕ). IsInLeftWord m xs r.doms i n) (sym e) ((there n).0 (kept_term Changed t P s u change (λ e. absurd (cc (e))) n now).1)
    | inr other ↦ h.stand j w n (omega (arith, below, other)) at_w (narrower_term s.doms u.doms w shrinks.narrower n is)
  ];
}

-- no number of a term stands in a list
pub keeping_fails : (m : Automaton) (xs : List Term) (r s u : Stored) (has_changed : Bool) (k : ℕ) (t : Term) (P : ℤ → Type 0) → AllByRecursion (IsTermOf (length r.doms)) xs → slice_get xs k ≡ Some t
    → AreThere m xs r k P → IsTermChange Wiped t P s u → IsKeeping m xs r s has_changed k → (a : List ℤ) → Within r.doms a → IsAcceptedAt m xs a → ⊥
keeping_fails m xs r s u has_changed k t P terms at there change h = λ a within holds.
    let is_t : IsTermOf (length s.doms) t = subst (λ (n : ℕ). IsTermOf n t) (sym h.shrinks.narrower.size) (all_at (IsTermOf (length r.doms)) xs k t terms at) in
    none_kept t P s u change (term_value a t) (term_within s.doms a t is_t (h.correct a holds within)) ((there (term_value a t)).1 (value_stands m xs r.doms a k t terms at holds within))

-- ---- the line

pub keeping_all : (m : Automaton) (xs : List Term) (r s : Stored) (has_changed : Bool) (k : ℕ) → length xs ≤ k → ((word : List ℤ) × IsLeftWord m xs r.doms word) → (has_changed ≡ true → AreApart xs)
    → IsKeeping m xs r s has_changed k → IsRegularLine m xs s.doms
keeping_all m xs r s has_changed k end some apart h =
    let still : (word : List ℤ) → IsLeftWord m xs r.doms word → IsLeftWord m xs s.doms word = λ word left. record { accepted = left.accepted; within = h.lie apart word left } in
    record {
      some = (some.0, still some.0 some.1);
      supported = λ j t n at is.
          let inside = slice_get_within xs j t at in
          let w = h.stand j t n (omega (arith, end, inside)) at is in
          (w.0, still w.0 w.1, w.2);
    }

-- ---- where all terms are fixed

-- an assignment within has the only numbers
singles : (xs : List Term) (ds : List (List (ℤ × ℤ))) (a : List ℤ) → AllByRecursion (IsTermOf (length ds)) xs → AllFixed ds xs → Within ds a → AreSingle ds a xs
singles [] ds a terms fixed within = tt
singles (t ∷ ts) ds a terms fixed within =
    let same : term_value a t ≡ fixed.0.0 = only_in (term_set ds t) fixed.0.0 (term_value a t) fixed.0.1 (term_within ds a t terms.0 within) in
    (subst (λ (n : ℤ). term_set ds t ≡ (n, n) ∷ []) (sym same) fixed.0.1, singles ts ds a terms.1 fixed.1 within)

-- the only numbers are left in narrower domains
within_still : (xs : List Term) (word : List ℤ) (ds es : List (List (ℤ × ℤ))) → AllByRecursion (IsTermOf (length ds)) xs → AllFixed ds xs → AreDomains es → IsNarrower ds es
    → LieWithin ds xs word → LieWithin es xs word
within_still xs word ds es terms fixed domains narrower h = record {
  size = h.size;
  each = λ j t n at_t at_n.
      let f = all_at (IsFixedIn ds) xs j t fixed at_t in
      let still = still_only ds es t f.0 (all_at (IsTermOf (length ds)) xs j t terms at_t) f.1 domains narrower in
      subst (λ (d : List (ℤ × ℤ)). IsInSet d n) (f.1 ∙ sym still) (h.each j t n at_t at_n);
}

-- the only number of a term stands in a list that is left
fixed_at : (xs : List Term) (word : List ℤ) (ds : List (List (ℤ × ℤ))) (j : ℕ) (t : Term) (n : ℤ) → LieWithin ds xs word → slice_get xs j ≡ Some t → IsFixedIn ds t
    → IsInSet (term_set ds t) n → slice_get word j ≡ Some n
fixed_at xs word ds j t n within at fixed is =
    let here = number_at_place word j (length xs) within.size (slice_get_within xs j t at) in
    let only_here = only_in (term_set ds t) fixed.0 here.0 fixed.1 (within.each j t here.0 at here.1) in
    let only_n = only_in (term_set ds t) fixed.0 n fixed.1 is in
    here.1 ∙ ap (λ (x : ℤ). Some x) (only_here ∙ sym only_n)

fixed_line : (m : Automaton) (xs : List Term) (ds es : List (List (ℤ × ℤ))) (word : List ℤ) → AllByRecursion (IsTermOf (length ds)) xs → AllFixed ds xs → AreDomains es → IsNarrower ds es
    → IsLeftWord m xs ds word → IsRegularLine m xs es
fixed_line m xs ds es word terms fixed domains narrower left =
    let now : IsLeftWord m xs es word = record { accepted = left.accepted; within = within_still xs word ds es terms fixed domains narrower left.within } in
    record {
      some = (word, now);
      supported = λ j t n at is. (word, now, fixed_at xs word ds j t n left.within at (all_at (IsFixedIn ds) xs j t fixed at) (narrower_term ds es t narrower n is));
    }

pub fixed_answer : (m : Automaton) (xs : List Term) (ds : List (List (ℤ × ℤ))) → AllByRecursion (IsTermOf (length ds)) xs → AreDomains ds → AllFixed ds xs → ((word : List ℤ) × IsLeftWord m xs ds word)
    → IsAnswerOf Subsumed (IsAcceptedAt m xs) (IsRegularLine m xs) ds ds
fixed_answer m xs ds terms domains fixed some = (
  (λ a within. regular_true m xs ds a (singles xs ds a terms fixed within)
      (fixed_line m xs ds ds some.0 terms fixed domains (record { size = refl; members = λ v x is. is }) some.1)),
  (λ es narrow narrower. fixed_line m xs ds es some.0 terms fixed narrow narrower some.1),
)

-- ---- the numbers that stay

-- what is kept of a term by two properties that are the same
pub term_change_as : (change : Change) (t : Term) (P Q : ℤ → Type 0) (s u : Stored) → ((x : ℤ) → P x ↔ Q x) → IsTermChange change t P s u → IsTermChange change t Q s u
term_change_as change (Var v) P Q s u same h = change_at_as change v P Q s u (λ x is. same x) h
term_change_as Same (Num n) P Q s u same h = (h.0, (same n).0 h.1)
term_change_as Wiped (Num n) P Q s u same h = (h.0, λ holds. h.1 ((same n).1 holds))
term_change_as Changed (Num n) P Q s u same h = absurd h

-- the numbers of a row are within the limits
pub row_limits : (m : Automaton) (xs : List Term) (ds : List (List (ℤ × ℤ))) (b : BitRows) (i : ℕ) (t : Term) → AreDomains ds → AllByRecursion (IsTermOf (length ds)) xs → AllByRecursion FitsTerm xs
    → AreInWords m xs ds b → slice_get xs i ≡ Some t → (k : ℕ) → Has b i k → IsWithinLimits (number k)
row_limits m xs ds b i t domains terms fits are at k has =
    let w = (are i (number k) (slice_get_within xs i t at)).0 (k, refl, has) in
    term_limits ds t (number k) (all_at (IsTermOf (length ds)) xs i t terms at) domains (all_at FitsTerm xs i t fits at) (w.1.within.each i t (number k) at w.2)
