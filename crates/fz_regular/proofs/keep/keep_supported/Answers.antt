use Rattle.std.proofs.Common.{rules, arith, pos}
use Rattle.std.proofs.lemmas.Option.{slice_get-get_or, slice_get_within}
use Rattle.fz_spec.specs.declared.term.Term.TheVariants.{Num}
use Rattle.fz_regular.specs.Runs.{IsInRow}
use Rattle.fz_regular.proofs.Keeping.{keeping_none, keeping_same, keeping_changed, keeping_correct, keeping_fails, keeping_all, row_limits}
use Rattle.fz_regular.proofs.keep.keep_supported.Goals.{in-Changed, in-Same}
use Rattle.fz_regular.proofs.keep.keep_supported.Goals as goal

pub loop-place-init : goal.loop-place-init
loop-place-init c = keeping_none c.args.automaton.now c.args.terms.now c.args.store.now

pub keep_row-requires-clause-row : goal.keep_row-requires-clause-row
keep_row-requires-clause-row c = c.requires.rows c.loop-place.place c.loop-place-test.true

pub keep_row-requires-clause-limits : goal.keep_row-requires-clause-limits
keep_row-requires-clause-limits c =
    let xs = c.args.terms.now in
    let k = c.loop-place.place in
    row_limits c.args.automaton.now xs c.args.store.now.doms c.args.supports.now k _ c.doms.ensures.store.domains c.requires.terms c.requires.fits c.requires.supports
    (slice_get-get_or xs k (Num (pos 0)) c.loop-place-test.true)

pub returns-in-Wiped-clause-correct : goal.returns-in-Wiped-clause-correct
returns-in-Wiped-clause-correct c =
    let xs = c.args.terms.now in
    let k = c.loop-place.place in
    let b = c.args.supports.now in
    let at = slice_get-get_or xs k (Num (pos 0)) c.loop-place-test.true in
    keeping_correct c.in_ok-keep_row.field-0 c.args.automaton.now xs c.args.store.now c.loop-place.store c.keep_row.new.store k _ (IsInRow b k) c.requires.terms at
    (λ n. c.requires.supports k n (slice_get_within xs k _ at)) c.in_ok-keep_row.ensures.change c.in_ok-keep_row.ensures.shrinks c.loop-place.invariant.correct

pub returns-in-Wiped-clause-answer : goal.returns-in-Wiped-clause-answer
returns-in-Wiped-clause-answer c =
    let xs = c.args.terms.now in
    let k = c.loop-place.place in
    let b = c.args.supports.now in
    let at = slice_get-get_or xs k (Num (pos 0)) c.loop-place-test.true in
    keeping_fails c.args.automaton.now xs c.args.store.now c.loop-place.store c.keep_row.new.store c.loop-place.has_changed k _ (IsInRow b k) c.requires.terms at
    (λ n. c.requires.supports k n (slice_get_within xs k _ at)) (rw c.in-Wiped.is at c.in_ok-keep_row.ensures.change) c.loop-place.invariant

pub loop-place-preserved : goal.loop-place-preserved
loop-place-preserved c =
    let m = c.args.automaton.now in
    let xs = c.args.terms.now in
    let k = c.loop-place.place in
    let b = c.args.supports.now in
    let at = slice_get-get_or xs k (Num (pos 0)) c.loop-place-test.true in
    elim c.match-branch-2.branch [
      | in-Changed w ↦
          rw w.has_changed-is
          (keeping_changed m xs c.args.store.now c.loop-place.store c.keep_row.new.store c.loop-place.has_changed k _ (IsInRow b k) c.requires.terms at
          (λ n. c.requires.supports k n (slice_get_within xs k _ at)) (rw w.in-Changed.is at c.in_ok-keep_row.ensures.change) c.in_ok-keep_row.ensures.shrinks c.loop-place.invariant)
      | in-Same w ↦
          rw w.has_changed-is
          (keeping_same m xs c.args.store.now c.loop-place.store c.keep_row.new.store c.loop-place.has_changed k _ (IsInRow b k) at
          (λ n. c.requires.supports k n (slice_get_within xs k _ at)) (rw w.in-Same.is at c.in_ok-keep_row.ensures.change) c.loop-place.invariant)
    ]

pub returns-else-has_changed-clause-answer : goal.returns-else-has_changed-clause-answer
returns-else-has_changed-clause-answer c =
    let end = c.loop-place-test.false in
    keeping_all c.args.automaton.now c.args.terms.now c.args.store.now c.loop-place.store c.loop-place.has_changed c.loop-place.place (omega (arith, end)) c.requires.some
    (λ e. c.requires.differ (search rules)) c.loop-place.invariant
