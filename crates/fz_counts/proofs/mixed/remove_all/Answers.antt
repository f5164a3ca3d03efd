use Rattle.std.proofs.Common.{◌≡◌, ◌≢◌, get_or, pos, rules, subst, sym, to_z, of_z, w32}
use Rattle.std.specs.Prelude.{List, ℤ, ℕ}
use Rattle.std.proofs.lemmas.Option.{slice_get-get_or}
use Rattle.fz_spec.specs.Constraints.{term_value}
use Rattle.fz_strength.specs.Domains.{IsTermOf}
use Rattle.fz_prop.proofs.Keeping.{correct_more, change_correct}
use Rattle.fz_counts.specs.declared.places.Choice.TheVariants.{Without}
use Rattle.fz_counts.specs.Covers.{IsOf, Takes}
use Rattle.fz_counts.proofs.Gaps.{value_of}
use Rattle.fz_counts.proofs.Nearing.{term_wiped, term_changed, term_same}
use Rattle.fz_counts.proofs.mixed.remove_all.Goals.{in-Changed, in-Same}
use Rattle.fz_counts.proofs.mixed.remove_all.Goals as goal

pub returns-in-Wiped-clause-correct : goal.returns-in-Wiped-clause-correct
returns-in-Wiped-clause-correct c =
    let r = c.args.store.now in
    let s = c.loop-value.store in
    let t = c.remove.new.store in
    let x = c.args.term in
    let cover = c.args.cover in
    let values = c.args.values.now in
    let k = c.loop-value.value-index in
    let v : ℤ = get_or values k (pos 0) in
    let kept : to_z w32 (of_z w32 v) ≡ v = search rules in
    let of = value_of cover values k v c.requires.cover (slice_get-get_or values k (pos 0) c.loop-value-test.true) in
    let Q : ℤ → Type 0 = λ u. u ≢ v in
    correct_more (λ a. Takes Without cover (term_value a x)) (λ a. Q (term_value a x)) r s t c.loop-value.invariant.correct (λ a takes same. takes (subst (IsOf cover.window) (sym same) of))
    (change_correct c.remove.result x Q (λ a. Q (term_value a x)) s t (λ a q. q) c.remove.ensures.err (rw kept at c.remove.ensures.change) c.remove.ensures.shrinks)

pub returns-in-Wiped-clause-outcome : goal.returns-in-Wiped-clause-outcome
returns-in-Wiped-clause-outcome c =
    let r = c.args.store.now in
    let s = c.loop-value.store in
    let t = c.remove.new.store in
    let x = c.args.term in
    let cover = c.args.cover in
    let values = c.args.values.now in
    let k = c.loop-value.value-index in
    let v : ℤ = get_or values k (pos 0) in
    let kept : to_z w32 (of_z w32 v) ≡ v = search rules in
    let of = value_of cover values k v c.requires.cover (slice_get-get_or values k (pos 0) c.loop-value-test.true) in
    let change = rw (c.in-Wiped.is, kept) at c.in_ok-remove.ensures.change in
    let is = subst (λ (n : ℕ). IsTermOf n x) (sym c.loop-value.invariant.shrinks.narrower.size) c.requires.term in
    term_wiped (λ a. Takes Without cover (term_value a x)) x (λ (u : ℤ). u ≢ v) r s t t c.loop-value.has_changed is (λ a takes same. takes (subst (IsOf cover.window) (sym same) of)) change c.loop-value.invariant

pub loop-value-preserved : goal.loop-value-preserved
loop-value-preserved c =
    let r = c.args.store.now in
    let s = c.loop-value.store in
    let t = c.remove.new.store in
    let x = c.args.term in
    let cover = c.args.cover in
    let values = c.args.values.now in
    let k = c.loop-value.value-index in
    let v : ℤ = get_or values k (pos 0) in
    let kept : to_z w32 (of_z w32 v) ≡ v = search rules in
    let of = value_of cover values k v c.requires.cover (slice_get-get_or values k (pos 0) c.loop-value-test.true) in
    let T : List ℤ → Type 0 = λ a. Takes Without cover (term_value a x) in
    let Q : ℤ → Type 0 = λ u. u ≢ v in
    let change = rw kept at c.in_ok-remove.ensures.change in
    elim c.match-branch-2.branch [
      | in-Changed w ↦
          rw w.has_changed-is
          (term_changed T x Q r s t c.loop-value.has_changed (λ a takes same. takes (subst (IsOf cover.window) (sym same) of)) c.in_ok-remove.ensures.shrinks (rw w.in-Changed.is at change) c.loop-value.invariant)
      | in-Same w ↦ rw w.has_changed-is (term_same T x Q r s t c.loop-value.has_changed (rw w.in-Same.is at change) c.loop-value.invariant)
    ]
