-- Keeping each variable to the numbers of its column.
use Rattle.std.proofs.Common.{◌≡◌, ℕ, ◌+◌, ◌*◌, ◌<◌, ◌≤◌, List, [], ◌∷◌, inl, inr, refl, sym, ap, subst, ◌∙◌, arith, length, true, false, Bool}
use Rattle.std.specs.Prelude.{ℤ, slice_get, slice_range, Some, ◌↔◌}
use Rattle.std.specs.List.{AllByRecursion}
use Rattle.std.proofs.lemmas.Bool.{cases_eq}
use Rattle.std.proofs.lemmas.Option.{slice_get_within, slice_get_cases}
use Rattle.fz_sets.specs.Sets.{IsInSet, AreOneSet, AreWithinLimits}
use Rattle.fz_sets.proofs.Lists.{all_at}
use Rattle.fz_dom.specs.Shape.{IsDomain}
use Rattle.fz_dom.specs.declared.change.Change.{Change}
use Rattle.fz_dom.specs.declared.change.Change.TheVariants.{Same, Changed, Wiped}
use Rattle.fz_dom.proofs.Kept.{limits_of}
use Rattle.fz_spec.specs.declared.term.Term.{Term}
use Rattle.fz_spec.specs.declared.term.Term.TheVariants.{Num, Var}
use Rattle.fz_spec.specs.Constraints.{term_value}
use Rattle.fz_strength.specs.Domains.{dom_at, term_set, room, AreDomains, Within, IsNarrower, IsTermOf}
use Rattle.fz_strength.specs.Events.{IsFixedIn, AllFixed, AreSingle}
use Rattle.fz_strength.specs.Tables.{LieWithin, IsLeftRow, AreSupported}
use Rattle.fz_strength.proofs.Tables.{single_row}
use Rattle.fz_prop.specs.declared.answer.Answer.TheVariants.{Subsumed}
use Rattle.fz_prop.specs.Answers.{IsAnswerOf, IsCorrectOf}
use Rattle.fz_prop.specs.Stores.{Stored, Shrinks, IsChangeAt}
use Rattle.fz_prop.proofs.Filled.{still_only}
use Rattle.fz_prop.proofs.Steps.{same_shrinks}
use Rattle.fz_prop.proofs.TermChanges.{term_within, narrower_term, only_in, within_kept, none_kept}
use Rattle.fz_prop.proofs.Twice.{shrinks_twice, room_after}
use Rattle.fz_column.specs.Spans.{IsFilled}
use Rattle.fz_bits.specs.Members.{HasMember}
use Rattle.fz_column.specs.Apart.{AreApart}
use Rattle.fz_table.specs.Rows.{IsRowAt, AreLeft, Stands}
use Rattle.fz_column.proofs.Growing.{limits_by_numbers}
use Rattle.fz_table.proofs.LeftRows.{value_stands}
use Rattle.fz_column.proofs.Slices.{part_get}

-- a list has a number at each place before its end
number_at_place : (ns : List ℤ) (j n : ℕ) → length ns ≡ n → j < n → (m : ℤ) × (slice_get ns j ≡ Some m)
number_at_place ns j n size below = elim (slice_get_cases ns j).1 [
  | inl at ↦ (at.0, at.2)
  | inr past ↦ let end = past.0 in absurd (omega (arith, size, below, end))
]

-- ---- the loop over the columns

-- the rows lie in domains
abbrev pub LieStill : List Term → List ℤ → List ℕ → List (List (ℤ × ℤ)) → Type 0
LieStill xs table rows ds = (i : ℕ) → HasMember rows i → LieWithin ds xs (slice_range table (i * length xs) (i * length xs + length xs))

-- Terms before place k are kept to their columns; where nothing changed, or no variable stands at two places, the rows still lie in
-- the domains.
pub record IsKeeping (xs : List Term) (table : List ℤ) (rows : List ℕ) (r s : Stored) (has_changed : Bool) (k : ℕ) : Type 0 where
  pub shrinks : Shrinks r s
  pub correct : IsCorrectOf (IsRowAt xs table) r.doms s.doms
  pub falls : has_changed ≡ true → room s.doms < room r.doms
  pub same : has_changed ≡ false → s ≡ r
  pub lie : (has_changed ≡ true → AreApart xs) → LieStill xs table rows s.doms
  pub stand : (j : ℕ) (t : Term) (n : ℤ) → j < k → slice_get xs j ≡ Some t → IsInSet (term_set s.doms t) n → Stands table (length xs) rows j n

pub keeping_none : (xs : List Term) (table : List ℤ) (rows : List ℕ) (s : Stored) → AreLeft xs table s.doms rows → IsKeeping xs table rows s s false 0
keeping_none xs table rows s are = record {
  shrinks = same_shrinks s;
  correct = λ a holds within. within;
  falls = λ e. absurd (cc (e));
  same = λ e. refl;
  lie = λ apart i has. ((are i).0 has).within;
  stand = λ j t n below. absurd (omega (arith, below));
}

-- the only number that is left of a term stands in each row that is left
pub keeping_only : (xs : List Term) (table : List ℤ) (r s : Stored) (has_changed : Bool) (k : ℕ) (t : Term) (rows : List ℕ) → slice_get xs k ≡ Some t → IsFixedIn r.doms t → ((i : ℕ) × HasMember rows i)
    → AreLeft xs table r.doms rows → IsKeeping xs table rows r s has_changed k → IsKeeping xs table rows r s has_changed (k + 1)
keeping_only xs table r s has_changed k t rows at fixed some are h = record {
  shrinks = h.shrinks;
  correct = h.correct;
  falls = h.falls;
  same = h.same;
  lie = h.lie;
  stand = λ j u n below at_u is. elim (cases_eq j k) [
    | inl same ↦
        let one : u ≡ t = cc (at, subst (λ (i : ℕ). slice_get xs i ≡ Some u) same at_u) in
        let was : IsInSet (term_set r.doms t) n = narrower_term r.doms s.doms t h.shrinks.narrower n (subst (λ (w : Term). IsInSet (term_set s.doms w) n) one is) in
        let row = slice_range table (some.0 * length xs) (some.0 * length xs + length xs) in
        let left = (are some.0).0 some.1 in
        let here = number_at_place row k (length xs) left.within.size (slice_get_within xs k t at) in
        let is_n : here.0 ≡ n = only_in (term_set r.doms t) fixed.0 here.0 fixed.1 (left.within.each k t here.0 at here.1) ∙ sym (only_in (term_set r.doms t) fixed.0 n fixed.1 was) in
        let there : slice_get table (some.0 * length xs + k) ≡ Some n =
        sym (part_get table (some.0 * length xs) (length xs) k (slice_get_within xs k t at)) ∙ here.1 ∙ ap (λ (x : ℤ). Some x) is_n in
        subst (λ (i : ℕ). Stands table (length xs) rows i n) (sym same) (some.0, some.1, there)
    | inr other ↦ h.stand j u n (omega (arith, below, other)) at_u is
  ];
}

-- a variable keeps the numbers of its column
pub keeping_same : (xs : List Term) (table : List ℤ) (r s t : Stored) (has_changed : Bool) (k v : ℕ) (rows : List ℕ) (P : ℤ → Type 0)
    → slice_get xs k ≡ Some (Var v) → ((n : ℤ) → P n ↔ Stands table (length xs) rows k n)
    → IsChangeAt Same v P s t → IsKeeping xs table rows r s has_changed k → IsKeeping xs table rows r t has_changed (k + 1)
keeping_same xs table r s t has_changed k v rows P at stands change h =
    subst (λ (u : Stored). IsKeeping xs table rows r u has_changed (k + 1)) (sym change.0) (record {
      shrinks = h.shrinks;
      correct = h.correct;
      falls = h.falls;
      same = h.same;
      lie = h.lie;
      stand = λ j u n below at_u is. elim (cases_eq j k) [
        | inl one ↦
            let is_v : u ≡ Var v = cc (at, subst (λ (i : ℕ). slice_get xs i ≡ Some u) one at_u) in
            let now : IsInSet (dom_at s.doms v) n = subst (λ (w : Term). IsInSet (term_set s.doms w) n) is_v is in
            subst (λ (i : ℕ). Stands table (length xs) rows i n) (sym one) ((stands n).0 (change.1 n now))
        | inr other ↦ h.stand j u n (omega (arith, below, other)) at_u is
      ];
    })

pub keeping_correct : (change : Change) (xs : List Term) (table : List ℤ) (r s t : Stored) (k v : ℕ) (rows : List ℕ) (P : ℤ → Type 0)
    → AllByRecursion (IsTermOf (length r.doms)) xs → slice_get xs k ≡ Some (Var v) → AreLeft xs table r.doms rows → ((n : ℤ) → P n ↔ Stands table (length xs) rows k n)
    → IsChangeAt change v P s t → Shrinks s t → IsCorrectOf (IsRowAt xs table) r.doms s.doms → IsCorrectOf (IsRowAt xs table) r.doms t.doms
keeping_correct change xs table r s t k v rows P terms at are stands h shrinks correct = λ a holds within.
    within_kept change (Var v) P s t a h shrinks (correct a holds within)
    ((stands (term_value a (Var v))).1 (value_stands xs table r.doms rows a k (Var v) terms are at holds within))

-- a number that stands at a place of a row lies in what is kept there
lies_in : (xs : List Term) (table : List ℤ) (s t : Stored) (k v i : ℕ) (rows : List ℕ) (P : ℤ → Type 0) (j : ℕ) (u : Term) (n : ℤ) → slice_get xs k ≡ Some (Var v)
    → ((m : ℤ) → P m ↔ Stands table (length xs) rows k m) → IsChangeAt Changed v P s t → AreApart xs → HasMember rows i
    → slice_get xs j ≡ Some u → slice_get table (i * length xs + j) ≡ Some n → IsInSet (term_set s.doms u) n → IsInSet (term_set t.doms u) n
lies_in xs table s t k v i rows P j (Num m) n at stands change apart has at_u at_n is = is
lies_in xs table s t k v i rows P j (Var w) n at stands change apart has at_u at_n is = elim (cases_eq w v) [
  | inl one ↦
      let here : slice_get xs j ≡ Some (Var v) = at_u ∙ ap (λ (u : ℕ). Some (Var u)) one in
      let same : j ≡ k = apart j k v here at in
      let there : slice_get table (i * length xs + k) ≡ Some n = subst (λ (m : ℕ). slice_get table (i * length xs + m) ≡ Some n) same at_n in
      let was : IsInSet (dom_at s.doms v) n = subst (λ (u : ℕ). IsInSet (dom_at s.doms u) n) one is in
      subst (λ (u : ℕ). IsInSet (dom_at t.doms u) n) (sym one) ((change.kept n).1 (was, (stands n).1 (i, has, there)))
  | inr other ↦ subst (λ (d : List (ℤ × ℤ)). IsInSet d n) (sym (change.others w other)) is
]

pub keeping_changed : (xs : List Term) (table : List ℤ) (r s t : Stored) (has_changed : Bool) (k v : ℕ) (rows : List ℕ) (P : ℤ → Type 0)
    → AllByRecursion (IsTermOf (length r.doms)) xs → slice_get xs k ≡ Some (Var v) → AreLeft xs table r.doms rows → ((n : ℤ) → P n ↔ Stands table (length xs) rows k n)
    → IsChangeAt Changed v P s t → Shrinks s t → IsKeeping xs table rows r s has_changed k → IsKeeping xs table rows r t true (k + 1)
keeping_changed xs table r s t has_changed k v rows P terms at are stands change shrinks h = record {
  shrinks = shrinks_twice r s t h.shrinks shrinks;
  correct = keeping_correct Changed xs table r s t k v rows P terms at are stands change shrinks h.correct;
  falls = λ e. let before = room_after r s h.shrinks in let now = change.falls in omega (arith, before, now);
  same = λ e. absurd (cc (e));
  lie = λ apart i has.
      let was = h.lie (λ e. apart refl) i has in
      record {
        size = was.size;
        each = λ j u n at_u at_n.
            let under = slice_get_within xs j u at_u in
            let there : slice_get table (i * length xs + j) ≡ Some n = sym (part_get table (i * length xs) (length xs) j under) ∙ at_n in
            lies_in xs table s t k v i rows P j u n at stands change (apart refl) has at_u there (was.each j u n at_u at_n);
      };
  stand = λ j u n below at_u is. elim (cases_eq j k) [
    | inl one ↦
        let is_v : u ≡ Var v = cc (at, subst (λ (i : ℕ). slice_get xs i ≡ Some u) one at_u) in
        let now : IsInSet (dom_at t.doms v) n = subst (λ (w : Term). IsInSet (term_set t.doms w) n) is_v is in
        subst (λ (i : ℕ). Stands table (length xs) rows i n) (sym one) ((stands n).0 ((change.kept n).0 now).1)
    | inr other ↦ h.stand j u n (omega (arith, below, other)) at_u (narrower_term s.doms t.doms u shrinks.narrower n is)
  ];
}

-- no number of a variable is in its column
pub keeping_fails : (xs : List Term) (table : List ℤ) (r s t : Stored) (has_changed : Bool) (k v : ℕ) (rows : List ℕ) (P : ℤ → Type 0)
    → AllByRecursion (IsTermOf (length r.doms)) xs → slice_get xs k ≡ Some (Var v) → AreLeft xs table r.doms rows → ((n : ℤ) → P n ↔ Stands table (length xs) rows k n)
    → IsChangeAt Wiped v P s t → IsKeeping xs table rows r s has_changed k → (a : List ℤ) → Within r.doms a → IsRowAt xs table a → ⊥
keeping_fails xs table r s t has_changed k v rows P terms at are stands change h = λ a within holds.
    let is_v : IsTermOf (length s.doms) (Var v) = subst (λ (n : ℕ). IsTermOf n (Var v)) (sym h.shrinks.narrower.size) (all_at (IsTermOf (length r.doms)) xs k (Var v) terms at) in
    none_kept (Var v) P s t change (term_value a (Var v)) (term_within s.doms a (Var v) is_v (h.correct a holds within))
    ((stands (term_value a (Var v))).1 (value_stands xs table r.doms rows a k (Var v) terms are at holds within))

-- ---- the line

some_left : (xs : List Term) (table : List ℤ) (ds : List (List (ℤ × ℤ))) (rows : List ℕ) → ((i : ℕ) × HasMember rows i) → AreLeft xs table ds rows → (row : List ℤ) × IsLeftRow xs table ds row
some_left xs table ds rows some are = (slice_range table (some.0 * length xs) (some.0 * length xs + length xs), (are some.0).0 some.1)

pub keeping_all : (xs : List Term) (table : List ℤ) (r s : Stored) (has_changed : Bool) (k : ℕ) (rows : List ℕ) → length xs ≤ k → ((i : ℕ) × HasMember rows i) → AreLeft xs table r.doms rows
    → (has_changed ≡ true → AreApart xs) → IsKeeping xs table rows r s has_changed k → AreSupported xs table s.doms
keeping_all xs table r s has_changed k rows end some are apart h =
    let row_of : ℕ → List ℤ = λ i. slice_range table (i * length xs) (i * length xs + length xs) in
    let left : (i : ℕ) → HasMember rows i → IsLeftRow xs table s.doms (row_of i) = λ i has. record { is_row = ((are i).0 has).is_row; within = h.lie apart i has } in
    record {
      some = (row_of some.0, left some.0 some.1);
      supported = λ j t n at is.
          let inside = slice_get_within xs j t at in
          let w = h.stand j t n (omega (arith, end, inside)) at is in
          (row_of w.0, left w.0 w.1, part_get table (w.0 * length xs) (length xs) j inside ∙ w.2);
    }

-- ---- where all terms are fixed

-- an assignment within has the only numbers
singles : (xs : List Term) (ds : List (List (ℤ × ℤ))) (a : List ℤ) → AllByRecursion (IsTermOf (length ds)) xs → AllFixed ds xs → Within ds a → AreSingle ds a xs
singles [] ds a terms fixed within = tt
singles (t ∷ ts) ds a terms fixed within =
    let same : term_value a t ≡ fixed.0.0 = only_in (term_set ds t) fixed.0.0 (term_value a t) fixed.0.1 (term_within ds a t terms.0 within) in
    (subst (λ (n : ℤ). term_set ds t ≡ (n, n) ∷ []) (sym same) fixed.0.1, singles ts ds a terms.1 fixed.1 within)

-- the only numbers are left in narrower domains
within_still : (xs : List Term) (row : List ℤ) (ds es : List (List (ℤ × ℤ))) → AllByRecursion (IsTermOf (length ds)) xs → AllFixed ds xs → AreDomains es → IsNarrower ds es
    → LieWithin ds xs row → LieWithin es xs row
within_still xs row ds es terms fixed domains narrower h = record {
  size = h.size;
  each = λ j t n at_t at_n.
      let f = all_at (IsFixedIn ds) xs j t fixed at_t in
      let still = still_only ds es t f.0 (all_at (IsTermOf (length ds)) xs j t terms at_t) f.1 domains narrower in
      subst (λ (d : List (ℤ × ℤ)). IsInSet d n) (f.1 ∙ sym still) (h.each j t n at_t at_n);
}

-- the only number of a term stands in a row that is left
fixed_at : (xs : List Term) (row : List ℤ) (ds : List (List (ℤ × ℤ))) (j : ℕ) (t : Term) (n : ℤ) → LieWithin ds xs row → slice_get xs j ≡ Some t → IsFixedIn ds t
    → IsInSet (term_set ds t) n → slice_get row j ≡ Some n
fixed_at xs row ds j t n within at fixed is =
    let here = number_at_place row j (length xs) within.size (slice_get_within xs j t at) in
    let only_here = only_in (term_set ds t) fixed.0 here.0 fixed.1 (within.each j t here.0 at here.1) in
    let only_n = only_in (term_set ds t) fixed.0 n fixed.1 is in
    here.1 ∙ ap (λ (x : ℤ). Some x) (only_here ∙ sym only_n)

fixed_line : (xs : List Term) (table : List ℤ) (ds es : List (List (ℤ × ℤ))) (row : List ℤ) → AllByRecursion (IsTermOf (length ds)) xs → AllFixed ds xs → AreDomains es → IsNarrower ds es
    → IsLeftRow xs table ds row → AreSupported xs table es
fixed_line xs table ds es row terms fixed domains narrower left =
    let now : IsLeftRow xs table es row = record { is_row = left.is_row; within = within_still xs row ds es terms fixed domains narrower left.within } in
    record {
      some = (row, now);
      supported = λ j t n at is. (row, now, fixed_at xs row ds j t n left.within at (all_at (IsFixedIn ds) xs j t fixed at) (narrower_term ds es t narrower n is));
    }

pub fixed_answer : (xs : List Term) (table : List ℤ) (ds : List (List (ℤ × ℤ))) (rows : List ℕ) → AllByRecursion (IsTermOf (length ds)) xs → AllFixed ds xs → ((i : ℕ) × HasMember rows i)
    → AreLeft xs table ds rows → IsAnswerOf Subsumed (IsRowAt xs table) (AreSupported xs table) ds ds
fixed_answer xs table ds rows terms fixed some are =
    let left = some_left xs table ds rows some are in (
      (λ a within. single_row xs table ds a (singles xs ds a terms fixed within) left.0 left.1),
      (λ es domains narrower. fixed_line xs table ds es left.0 terms fixed domains narrower left.1),
    )

-- ---- the numbers that stay

-- what is kept of a variable by two properties that its numbers share
pub change_by : (change : Change) (v : ℕ) (P Q : ℤ → Type 0) (s t : Stored) → ((x : ℤ) → IsInSet (dom_at s.doms v) x → P x ↔ Q x) → IsChangeAt change v P s t → IsChangeAt change v Q s t
change_by Same v P Q s t same h = (h.0, λ x is. (same x is).0 (h.1 x is))
change_by Wiped v P Q s t same h = (h.0, λ x is holds. h.1 x is ((same x is).1 holds))
change_by Changed v P Q s t same h = record {
  kept = λ x.
      let kept = h.kept x in
      (λ is. let was = kept.0 is in (was.0, (same x was.0).0 was.1), λ w. kept.1 (w.0, (same x w.0).1 w.1));
  others = h.others;
  whole = h.whole;
  smaller = h.smaller;
  filled = h.filled;
  falls = h.falls;
}

pub numbers_limits : (dom numbers : List (ℤ × ℤ)) (P : ℤ → Type 0) → IsDomain dom → AllByRecursion IsFilled numbers → ((n : ℤ) → IsInSet numbers n ↔ (IsInSet dom n × P n))
    → AreWithinLimits numbers
numbers_limits dom numbers P domain filled are = limits_by_numbers numbers filled (λ n is. limits_of dom n domain ((are n).0 is).0)

pub numbers_same : (dom numbers kept : List (ℤ × ℤ)) (P : ℤ → Type 0) → AreOneSet kept numbers → ((n : ℤ) → IsInSet numbers n ↔ (IsInSet dom n × P n))
    → (n : ℤ) → IsInSet dom n → IsInSet kept n ↔ P n
numbers_same dom numbers kept P one are n is = (λ h. ((are n).0 ((one n).0 h)).1, λ holds. (one n).1 ((are n).1 (is, holds)))
