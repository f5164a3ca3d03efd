use Rattle.std.proofs.Common.{get_or, length, pos, subst, sym}
use Rattle.std.specs.Prelude.{ℕ, ℤ, List}
use Rattle.std.proofs.lemmas.Option.{slice_get-get_or}
use Rattle.fz_spec.specs.declared.term.Term.{Term}
use Rattle.fz_spec.specs.declared.term.Term.TheVariants.{Num}
use Rattle.fz_strength.specs.Domains.{term_set, IsTermOf}
use Rattle.fz_sets.proofs.Lists.{all_at}
use Rattle.fz_counts.specs.Covers.{AllNear, IsNearEnds}
use Rattle.fz_counts.proofs.Nearing.{near_at, term_wiped, term_changed, term_same}
use Rattle.fz_counts.proofs.ends.keep_near.Goals.{in-Changed, in-Same}
use Rattle.fz_counts.proofs.ends.keep_near.Goals as goal

pub returns-in-Wiped-clause-outcome : goal.returns-in-Wiped-clause-outcome
returns-in-Wiped-clause-outcome c =
    let xs = c.args.terms.now in
    let r = c.args.store.now in
    let s = c.loop-term.store in
    let t = c.keep_one_near.new.store in
    let k = c.loop-term.term-index in
    let x : Term = get_or xs k (Num (pos 0)) in
    let at = slice_get-get_or xs k (Num (pos 0)) c.loop-term-test.true in
    let narrower = c.loop-term.invariant.shrinks.narrower in
    let is = subst (λ (n : ℕ). IsTermOf n x) (sym narrower.size) (all_at (IsTermOf (length r.doms)) xs k x c.requires.terms at) in
    term_wiped (AllNear c.args.slack xs r.doms) x (IsNearEnds c.args.slack (term_set s.doms x)) r s t t c.loop-term.has_changed is
    (near_at c.args.slack xs r s k x c.requires.terms c.doms.ensures.store.domains c.doms-in-loop-term.ensures.store.domains narrower at) (rw c.in-Wiped.is at c.in_ok-keep_one_near.ensures.change) c.loop-term.invariant

pub loop-term-preserved : goal.loop-term-preserved
loop-term-preserved c =
    let xs = c.args.terms.now in
    let r = c.args.store.now in
    let s = c.loop-term.store in
    let t = c.keep_one_near.new.store in
    let k = c.loop-term.term-index in
    let x : Term = get_or xs k (Num (pos 0)) in
    let at = slice_get-get_or xs k (Num (pos 0)) c.loop-term-test.true in
    let T : List ℤ → Type 0 = AllNear c.args.slack xs r.doms in
    let Q : ℤ → Type 0 = IsNearEnds c.args.slack (term_set s.doms x) in
    let change = c.in_ok-keep_one_near.ensures.change in
    elim c.match-branch-2.branch [
      | in-Changed w ↦
          rw w.has_changed-is
          (term_changed T x Q r s t c.loop-term.has_changed
          (near_at c.args.slack xs r s k x c.requires.terms c.doms.ensures.store.domains c.doms-in-loop-term.ensures.store.domains c.loop-term.invariant.shrinks.narrower at) c.in_ok-keep_one_near.ensures.shrinks
          (rw w.in-Changed.is at change) c.loop-term.invariant)
      | in-Same w ↦ rw w.has_changed-is (term_same T x Q r s t c.loop-term.has_changed (rw w.in-Same.is at change) c.loop-term.invariant)
    ]
