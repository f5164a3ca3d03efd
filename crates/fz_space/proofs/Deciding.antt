-- Taking a decision leaves exactly the assignments that meet it.
use Rattle.std.proofs.Common.{◌≡◌, ℕ, ◌<◌, ◌≤◌, List, [], ◌∷◌, ◌++◌, refl, sym, ◌∙◌, subst, arith, length, true, false, Bool, not}
use Rattle.std.proofs.lemmas.Int.{ints}
use Rattle.std.specs.Prelude.{ℤ, pos, ◌+ℤ◌, ◌≤ℤ◌, ◌<ℤ◌, Option, None, slice_get, IsTrue, int_le}
use Rattle.std.specs.Ordering.{int_eq}
use Rattle.std.proofs.lemmas.Bool.Decides.{Decides-int_eq}
use Rattle.std.proofs.lemmas.Option.{slice_get_past}
use Rattle.fz_spec.specs.declared.term.Term.TheVariants.{Var}
use Rattle.fz_spec.specs.Instance.{Instance}
use Rattle.fz_dom.specs.declared.change.Change.{Change}
use Rattle.fz_dom.specs.declared.change.Change.TheVariants.{Same, Changed, Wiped}
use Rattle.fz_tree.specs.declared.decision.Comparison.{Comparison}
use Rattle.fz_tree.specs.declared.decision.Comparison.TheVariants.{Equal, NotEqual, AtMost, Above}
use Rattle.fz_tree.specs.declared.decision.Decision.{Decision}
use Rattle.fz_tree.specs.Choice.{meets, compares, compares_if_there}
use Rattle.fz_strength.specs.Domains.{Within, number_at}
use Rattle.fz_strength.proofs.Terms.{within_before}
use Rattle.fz_sets.proofs.Lists.{all_left, all_right, all_both}
use Rattle.fz_sets.proofs.Numbers.{test_of_le, test_of_above}
use Rattle.fz_prop.specs.Stores.{Stored, IsStore, Shrinks, IsChangeAt}
use Rattle.fz_prop.proofs.TermChanges.{within_kept}
use Rattle.fz_agenda.proofs.Settled.{settled_lasts}
use Rattle.fz_search_space.specs.Spaces.{Covers}
use Rattle.fz_search_space.proofs.Places.{some_at}
use Rattle.fz_space.specs.Alive.{spaced, Compares, IsDecided}
use Rattle.fz_engine.specs.Networks.{Networked}
use Rattle.fz_engine.specs.Runs.{IsAlive}
use Rattle.fz_engine.proofs.Running.{alive_last}

-- ---- comparisons

-- a test that decides
abbrev Tests : Bool → Type 0 → Type 0
Tests b P = (IsTrue b → P) × (P → IsTrue b)

by_not : (b : Bool) (P : Type 0) → Tests b P → Tests (not b) (P → ⊥)
by_not true P t = ((λ h. absurd (cc (h))), (λ k. absurd (k (t.0 refl))))
by_not false P t = ((λ h p. let e : false ≡ true = t.1 p in cc), (λ k. refl))

le_of : (x v : ℤ) → IsTrue (int_le x v) → x ≤ℤ v
le_of x v h = grind (arith, ints)

above_of : (x v : ℤ) → IsTrue (not (int_le x v)) → v <ℤ x
above_of x v h = grind (arith, ints)

tests : (comparison : Comparison) (x v : ℤ) → Tests (compares comparison x v) (Compares comparison v x)
tests Equal x v = Decides-int_eq x v
tests NotEqual x v = by_not (int_eq x v) (x ≡ v) (Decides-int_eq x v)
tests AtMost x v = (le_of x v, test_of_le x v)
tests Above x v = (above_of x v, test_of_above x v)

meets_is : (a : List ℤ) (d : Decision) → d.variable < length a → Tests (meets a d) (Compares d.comparison d.value (number_at a d.variable))
meets_is a d within =
    subst (λ (o : Option ℤ). Tests (compares_if_there o d.comparison d.value) (Compares d.comparison d.value (number_at a d.variable))) (sym (some_at a d.variable within))
    (tests d.comparison (number_at a d.variable) d.value)

-- ---- what is within a changed store

pub decided_changed : (d : Decision) (s t : Stored) → d.variable < length s.doms → Shrinks s t → IsChangeAt Changed d.variable (Compares d.comparison d.value) s t → IsDecided true d s.doms t.doms
decided_changed d s t within shrinks change a = (
  (λ inside.
      let before : Within s.doms a = within_before s.doms t.doms a shrinks.narrower inside in
      let there : d.variable < length t.doms = omega (arith, within, shrinks.narrower.size) in
      (before, (meets_is a d (omega (arith, within, before.size))).1 ((change.kept (number_at a d.variable)).0 (inside.members d.variable there)).1)),
  (λ both. within_kept Changed (Var d.variable) (Compares d.comparison d.value) s t a change shrinks both.0 ((meets_is a d (omega (arith, within, both.0.size))).0 both.1)),
)

pub decided_same : (d : Decision) (s t : Stored) → d.variable < length s.doms → IsChangeAt Same d.variable (Compares d.comparison d.value) s t → IsDecided true d s.doms t.doms
decided_same d s t within change = subst (λ (u : Stored). IsDecided true d s.doms u.doms) (sym change.0) (λ a. (
  (λ inside. (inside, (meets_is a d (omega (arith, within, inside.size))).1 (change.1 (number_at a d.variable) (inside.members d.variable within)))),
  (λ both. both.0),
))

pub decided_wiped : (d : Decision) (s t : Stored) → d.variable < length s.doms → IsChangeAt Wiped d.variable (Compares d.comparison d.value) s t → IsDecided false d s.doms t.doms
decided_wiped d s t within change a inside met =
    change.1 (number_at a d.variable) (inside.members d.variable within) ((meets_is a d (omega (arith, within, inside.size))).0 met)

-- above a value is from the next one on
pub above_at : (change : Change) (v : ℕ) (low value : ℤ) (s t : Stored) → IsChangeAt change v (λ x. low ≤ℤ x) s t → low ≡ (value +ℤ pos 1) → IsChangeAt change v (λ x. value <ℤ x) s t
above_at Same v low value s t change next = (change.0, λ x member. let from : low ≤ℤ x = change.1 x member in omega (arith, ints, from, next))
above_at Wiped v low value s t change next = (change.0, λ x member above. change.1 x member (omega (arith, ints, above, next)))
above_at Changed v low value s t change next = record {
  kept = λ x. (
    (λ member. let both = (change.kept x).0 member in let from : low ≤ℤ x = both.1 in (both.0, omega (arith, ints, from, next))),
    (λ both. let above : value <ℤ x = both.1 in (change.kept x).1 (both.0, omega (arith, ints, above, next))),
  );
  others = change.others;
  whole = change.whole;
  smaller = change.smaller;
  filled = change.filled;
  falls = change.falls;
}

-- of a variable that isn't there
pub decided_beyond : (d : Decision) (ds es : List (List (ℤ × ℤ))) → length ds ≤ d.variable → IsDecided false d ds es
decided_beyond d ds es beyond a inside met =
    let none : slice_get a d.variable ≡ None = slice_get_past a d.variable (omega (arith, beyond, inside.size)) in
    let not_met : IsTrue false = subst (λ (o : Option ℤ). IsTrue (compares_if_there o d.comparison d.value)) none met in
    cc

-- ---- spaces

not_both : (b : Bool) → b ≡ true → b ≡ false → ⊥
not_both b p q = let e : true ≡ false = sym p ∙ q in cc

pub covers_failed : (m : Instance) (s : Stored) (failed : Bool) (known : Option (List ℤ)) (ds : List Decision) (d : Decision) → failed ≡ true → Covers known ds (spaced m s failed) → Covers known (ds ++ d ∷ []) (spaced m s failed)
covers_failed m s failed known ds d is covers = record {
  all = λ a satisfies better met. absurd (not_both failed is (covers.all a satisfies better (all_left (λ (x : Decision). IsTrue (meets a x)) ds (d ∷ []) met)).0);
  only = λ a alive within. absurd (not_both failed is alive);
}

pub covers_decided : (m : Instance) (s t : Stored) (known : Option (List ℤ)) (ds : List Decision) (d : Decision) → IsDecided true d s.doms t.doms → Covers known ds (spaced m s false) → Covers known (ds ++ d ∷ []) (spaced m t false)
covers_decided m s t known ds d decided covers = record {
  all = λ a satisfies better met.
      let is_met : Decision → Type 0 = λ (x : Decision). IsTrue (meets a x) in
      let before = covers.all a satisfies better (all_left is_met ds (d ∷ []) met) in
      (refl, (decided a).1 (before.1, (all_right is_met ds (d ∷ []) met).0));
  only = λ a alive within.
      let is_met : Decision → Type 0 = λ (x : Decision). IsTrue (meets a x) in
      let before = (decided a).0 within in
      let both = covers.only a refl before.0 in
      (both.0, all_both is_met ds (d ∷ []) both.1 (before.1, tt));
}

pub covers_none : (m : Instance) (s t : Stored) (known : Option (List ℤ)) (ds : List Decision) (d : Decision) → IsDecided false d s.doms t.doms → Covers known ds (spaced m s false) → Covers known (ds ++ d ∷ []) (spaced m t true)
covers_none m s t known ds d decided covers = record {
  all = λ a satisfies better met.
      let is_met : Decision → Type 0 = λ (x : Decision). IsTrue (meets a x) in
      let before = covers.all a satisfies better (all_left is_met ds (d ∷ []) met) in
      absurd (decided a before.1 (all_right is_met ds (d ∷ []) met).0);
  only = λ a alive within. let e : true ≡ false = alive in absurd (not_both true refl e);
}

-- as the code says it: whether some are left
pub covers_left : (m : Instance) (s t : Stored) (known : Option (List ℤ)) (ds : List Decision) (d : Decision) (left : Bool) → IsDecided left d s.doms t.doms → Covers known ds (spaced m s false) → Covers known (ds ++ d ∷ []) (spaced m t (not left))
covers_left m s t known ds d true decided covers = covers_decided m s t known ds d decided covers
covers_left m s t known ds d false decided covers = covers_none m s t known ds d decided covers

-- as the code says it, where nothing failed before
pub covers_taken : (m : Instance) (s t : Stored) (failed : Bool) (known : Option (List ℤ)) (ds : List Decision) (d : Decision) (left : Bool) → failed ≡ false → IsDecided left d s.doms t.doms → Covers known ds (spaced m s failed)
    → Covers known (ds ++ d ∷ []) (spaced m t (not left))
covers_taken m s t failed known ds d left is decided covers = covers_left m s t known ds d left decided (subst (λ (b : Bool). Covers known ds (spaced m s b)) is covers)

pub alive_lasts : (n : Networked) (states : List ℕ) (s t : Stored) → IsStore t → Shrinks s t → IsAlive n states s → IsAlive n states t
alive_lasts n states s t store shrinks alive = alive_last n states states s t shrinks.narrower alive (settled_lasts n.sayings states s t store shrinks alive.settled)

-- as the code says it: what is left meets the decision
pub met_left : (d : Decision) (left : Bool) (ds es : List (List (ℤ × ℤ))) → IsDecided left d ds es → not left ≡ false → (a : List ℤ) → Within es a → IsTrue (meets a d)
met_left d true ds es decided alive a within = ((decided a).0 within).1
met_left d false ds es decided alive a within = let e : true ≡ false = alive in absurd (not_both true refl e)
