-- The steps of a pass.
use Rattle.std.proofs.Common.{◌≡◌, ℕ, suc, ◌<◌, List, [], ◌∷◌, refl, ap, subst, ◌∙◌, arith, length, drop, Bool, true, false}
use Rattle.std.specs.Prelude.{ℤ, ◌+ℤ◌, ◌≤ℤ◌, ◌↔◌, ◌||◌}
use Rattle.std.proofs.lemmas.Int.{ints}
use Rattle.fz_dom.specs.declared.change.Change.{Change}
use Rattle.fz_dom.specs.declared.change.Change.TheVariants.{Same, Changed, Wiped}
use Rattle.fz_spec.specs.declared.term.Term.{Term}
use Rattle.fz_strength.specs.Domains.{term_set, AreDomains, room}
use Rattle.fz_strength.specs.Sums.{least_product, greatest_product, AreNear, negated}
use Rattle.fz_prop.specs.Stores.{Stored, Shrinks}
use Rattle.fz_prop.proofs.TermChanges.{narrower_term}
use Rattle.fz_prop.proofs.Twice.{shrinks_twice, room_after}
use Rattle.fz_linear.specs.Terms.{AreTermsOf}
use Rattle.fz_linear.specs.Passes.{IsStep, IsTightened, KeepsNear, IsPassed, KeepsBetween, ArePassed}
use Rattle.fz_shift.proofs.Spans.{spanned, least_rises}
use Rattle.fz_linear.proofs.Slacks.{IsAt, near_at, near_from, near_negated, term_at, least_sum_rises}

-- ---- a pass so far: the terms before a place are tightened

pub record IsPass (ks : List ℤ) (ts : List Term) (slack : ℤ) (r s : Stored) (i : ℕ) (changed : Bool) : Type 0 where
  pub shrinks : Shrinks r s
  pub kept : KeepsNear ks ts slack r.doms s.doms
  pub still : changed ≡ false → (s ≡ r) × (AreNear r.doms slack (drop i ks) (drop i ts) → AreNear r.doms slack ks ts)
  pub moved : changed ≡ true → room s.doms < room r.doms

still_after : (ks : List ℤ) (ts : List Term) (slack : ℤ) (r s u : Stored) (i : ℕ) (changed now : Bool) (change : Change) (k : ℤ) (t : Term) → IsAt ks ts i k t
    → IsPass ks ts slack r s i changed → IsStep change k t slack s u → ((now ≡ true) ↔ (change ≡ Changed)) → (changed || now) ≡ false
    → (u ≡ r) × (AreNear r.doms slack (drop (suc i) ks) (drop (suc i) ts) → AreNear r.doms slack ks ts)
still_after ks ts slack r s u i true now change k t at pass step told none = absurd (cc (none))
still_after ks ts slack r s u i false true change k t at pass step told none = absurd (cc (none))
still_after ks ts slack r s u i false false Same k t at pass step told none =
    let before = pass.still refl in (
      step.0 ∙ before.0,
      (λ near. before.1 (near_from ks ts i k t r.doms slack at
          (subst (λ (v : Stored). greatest_product k (term_set v.doms t) ≤ℤ (least_product k (term_set v.doms t) +ℤ slack)) before.0 step.1) near)),
    )
still_after ks ts slack r s u i false false Changed k t at pass step told none = let e : false ≡ true = told.1 refl in absurd (cc (e))
still_after ks ts slack r s u i false false Wiped k t at pass step told none = absurd step

moved_after : (ks : List ℤ) (ts : List Term) (slack : ℤ) (r s u : Stored) (i : ℕ) (changed now : Bool) (change : Change) (k : ℤ) (t : Term)
    → IsPass ks ts slack r s i changed → Shrinks s u → IsStep change k t slack s u → ((now ≡ true) ↔ (change ≡ Changed)) → (changed || now) ≡ true → room u.doms < room r.doms
moved_after ks ts slack r s u i true now change k t pass shrinks step told some =
    let before = pass.moved refl in let after = room_after s u shrinks in omega (arith, before, after)
moved_after ks ts slack r s u i false true Changed k t pass shrinks step told some = let before = room_after r s pass.shrinks in omega (arith, before, step)
moved_after ks ts slack r s u i false true Same k t pass shrinks step told some = let e = told.0 refl in absurd (cc (e))
moved_after ks ts slack r s u i false true Wiped k t pass shrinks step told some = absurd step
moved_after ks ts slack r s u i false false change k t pass shrinks step told some = absurd (cc (some))

kept_after : (ks : List ℤ) (ts : List Term) (slack : ℤ) (r s u : Stored) (i : ℕ) (changed : Bool) (change : Change) (k : ℤ) (t : Term) → AreDomains r.doms → AreTermsOf (length r.doms) ts
    → IsAt ks ts i k t → IsPass ks ts slack r s i changed → IsTightened change k t slack s u → KeepsNear ks ts slack r.doms u.doms
kept_after ks ts slack r s u i changed change k t domains are at pass tightened = λ a within near.
    let here = near_at ks ts i k t r.doms a slack domains are within at near in
    let rises = least_rises k (term_set r.doms t) (term_set s.doms t) (spanned r.doms t domains (term_at ks ts i (length r.doms) k t at are)) tightened.spanned
    (narrower_term r.doms s.doms t pass.shrinks.narrower) in
    tightened.kept a (pass.kept a within near) (omega (arith, ints, here, rises))

pub pass_step : (ks : List ℤ) (ts : List Term) (slack : ℤ) (r s u : Stored) (i : ℕ) (changed now : Bool) (change : Change) (k : ℤ) (t : Term) → AreDomains r.doms
    → AreTermsOf (length r.doms) ts → IsAt ks ts i k t → IsPass ks ts slack r s i changed → IsTightened change k t slack s u → Shrinks s u → ((now ≡ true) ↔ (change ≡ Changed))
    → IsPass ks ts slack r u (suc i) (changed || now)
pass_step ks ts slack r s u i changed now change k t domains are at pass tightened shrinks told = record {
  shrinks = shrinks_twice r s u pass.shrinks shrinks;
  kept = kept_after ks ts slack r s u i changed change k t domains are at pass tightened;
  still = still_after ks ts slack r s u i changed now change k t at pass tightened.step told;
  moved = moved_after ks ts slack r s u i changed now change k t pass shrinks tightened.step told;
}

nil_near : (ds : List (List (ℤ × ℤ))) (slack : ℤ) (ks : List ℤ) (ts : List Term) → length ks ≡ 0 → AreNear ds slack ks ts
nil_near ds slack [] ts none = tt
nil_near ds slack (k ∷ ks) ts none = absurd (omega (arith, none))

pub passed : (ks : List ℤ) (ts : List Term) (slack : ℤ) (r s : Stored) (i : ℕ) (changed : Bool) → IsPass ks ts slack r s i changed → drop i ks ≡ [] → IsPassed changed ks ts slack r s
passed ks ts slack r s i true pass none = pass.moved refl
passed ks ts slack r s i false pass none =
    let still = pass.still refl in (still.0, still.1 (nil_near r.doms slack (drop i ks) (drop i ts) (ap length none)))

-- ---- two passes, the second over the negated sum

pub kept_between : (ks : List ℤ) (ts : List Term) (above below : ℤ) (r s u : Stored) → AreDomains r.doms → AreDomains s.doms → AreTermsOf (length r.doms) ts → Shrinks r s
    → KeepsNear ks ts above r.doms s.doms → KeepsNear (negated ks) ts below s.doms u.doms → KeepsBetween ks ts above below r.doms u.doms
kept_between ks ts above below r s u domains now are shrinks first second = λ a within high low.
    let rises = least_sum_rises (negated ks) ts r.doms s.doms domains now are shrinks.narrower in
    second a (first a within high) (omega (arith, ints, low, rises))

pub kept_first : (ks : List ℤ) (ts : List Term) (above below : ℤ) (r s : Stored) → KeepsNear ks ts above r.doms s.doms → KeepsBetween ks ts above below r.doms s.doms
kept_first ks ts above below r s first = λ a within high low. first a within high

pub kept_second : (ks : List ℤ) (ts : List Term) (above below : ℤ) (r s : Stored) → KeepsNear (negated ks) ts below r.doms s.doms → KeepsBetween ks ts above below r.doms s.doms
kept_second ks ts above below r s second = λ a within high low. second a within low

pub passed_first : (ks : List ℤ) (ts : List Term) (above below : ℤ) (r s : Stored) (changed : Bool) → AreNear r.doms below ks ts → IsPassed changed ks ts above r s
    → ArePassed changed ks ts above below r s
passed_first ks ts above below r s true near h = h
passed_first ks ts above below r s false near h = (h.0, h.1, near_negated ks ts r.doms below near)

pub passed_second : (ks : List ℤ) (ts : List Term) (above below : ℤ) (r s : Stored) (changed : Bool) → AreNear r.doms above ks ts → IsPassed changed (negated ks) ts below r s
    → ArePassed changed ks ts above below r s
passed_second ks ts above below r s true near h = h
passed_second ks ts above below r s false near h = (h.0, near, h.1)
