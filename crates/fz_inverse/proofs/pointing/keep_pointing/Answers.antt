use Rattle.std.proofs.Common.{arith, refl, pos}
use Rattle.std.proofs.lemmas.Option.{slice_get-get_or}
use Rattle.fz_sets.proofs.Lists.{all_at}
use Rattle.fz_spec.specs.declared.term.Term.TheVariants.{Num}
use Rattle.fz_strength.specs.Domains.{IsTermOf}
use Rattle.fz_prop.specs.Stores.{FitsTerm}
use Rattle.fz_prop.proofs.Twice.{shrinks_twice}
use Rattle.fz_inverse.proofs.Keeping.{pointing_none, pointing_same, pointing_changed, pointing_correct, pointing_fails, pointing_all, terms_still}
use Rattle.fz_inverse.proofs.pointing.keep_pointing.Goals.{in-Changed, in-Same}
use Rattle.fz_inverse.proofs.pointing.keep_pointing.Goals as goal

pub loop-place-init : goal.loop-place-init
loop-place-init c = pointing_none c.args.terms.now c.args.others.now c.args.store.now

pub keep_back-requires-clause-term : goal.keep_back-requires-clause-term
keep_back-requires-clause-term c =
    all_at (IsTermOf _) c.args.terms.now c.loop-place.place _ (terms_still c.args.store.now c.loop-place.store c.args.terms.now c.loop-place.invariant.kept.shrinks c.requires.terms)
    (slice_get-get_or c.args.terms.now c.loop-place.place (Num (pos 0)) c.loop-place-test.true)

pub keep_back-requires-clause-others : goal.keep_back-requires-clause-others
keep_back-requires-clause-others c = terms_still c.args.store.now c.loop-place.store c.args.others.now c.loop-place.invariant.kept.shrinks c.requires.others

pub keep_back-requires-clause-fits : goal.keep_back-requires-clause-fits
keep_back-requires-clause-fits c = all_at FitsTerm c.args.terms.now c.loop-place.place _ c.requires.fits (slice_get-get_or c.args.terms.now c.loop-place.place (Num (pos 0)) c.loop-place-test.true)

pub returns-in-Wiped-clause-shrinks : goal.returns-in-Wiped-clause-shrinks
returns-in-Wiped-clause-shrinks c =
    shrinks_twice c.args.store.now c.loop-place.store c.keep_back.new.store c.loop-place.invariant.kept.shrinks c.in_ok-keep_back.ensures.shrinks

pub returns-in-Wiped-clause-correct : goal.returns-in-Wiped-clause-correct
returns-in-Wiped-clause-correct c =
    let k = c.loop-place.place in
    pointing_correct c.in_ok-keep_back.field-0 c.args.terms.now c.args.others.now c.args.store.now c.loop-place.store c.keep_back.new.store c.loop-place.has_changed k _ c.requires.others
    (slice_get-get_or c.args.terms.now k (Num (pos 0)) c.loop-place-test.true) c.in_ok-keep_back.ensures.change c.in_ok-keep_back.ensures.shrinks c.loop-place.invariant

pub returns-in-Wiped-clause-outcome : goal.returns-in-Wiped-clause-outcome
returns-in-Wiped-clause-outcome c =
    let k = c.loop-place.place in
    pointing_fails c.args.terms.now c.args.others.now c.args.store.now c.loop-place.store c.keep_back.new.store c.loop-place.has_changed k _ c.requires.terms c.requires.others
    (slice_get-get_or c.args.terms.now k (Num (pos 0)) c.loop-place-test.true) (rw c.in-Wiped.is at c.in_ok-keep_back.ensures.change) c.loop-place.invariant

pub loop-place-preserved : goal.loop-place-preserved
loop-place-preserved c =
    let k = c.loop-place.place in
    let at = slice_get-get_or c.args.terms.now k (Num (pos 0)) c.loop-place-test.true in
    elim c.match-branch-2.branch [
      | in-Changed w ↦
          rw w.has_changed-is
          (pointing_changed c.args.terms.now c.args.others.now c.args.store.now c.loop-place.store c.keep_back.new.store c.loop-place.has_changed k _ c.requires.others at
          (rw w.in-Changed.is at c.in_ok-keep_back.ensures.change) c.in_ok-keep_back.ensures.shrinks c.loop-place.invariant)
      | in-Same w ↦
          rw w.has_changed-is
          (pointing_same c.args.terms.now c.args.others.now c.args.store.now c.loop-place.store c.keep_back.new.store c.loop-place.has_changed k _ at
          (rw w.in-Same.is at c.in_ok-keep_back.ensures.change) c.loop-place.invariant)
    ]

pub returns-then-has_changed-clause-pointing : goal.returns-then-has_changed-clause-pointing
returns-then-has_changed-clause-pointing c = λ not others.
    let end = c.loop-place-test.false in
    pointing_all c.args.terms.now c.args.others.now c.args.store.now c.loop-place.store c.loop-place.has_changed c.loop-place.place (omega (arith, end)) (λ e. others refl) c.loop-place.invariant

pub returns-else-has_changed-clause-pointing : goal.returns-else-has_changed-clause-pointing
returns-else-has_changed-clause-pointing c = λ not others.
    let end = c.loop-place-test.false in
    let same = c.if-has_changed.false in
    pointing_all c.args.terms.now c.args.others.now c.args.store.now c.loop-place.store c.loop-place.has_changed c.loop-place.place (omega (arith, end)) (λ e. absurd (cc (same, e))) c.loop-place.invariant

pub returns-then-has_changed-clause-apart : goal.returns-then-has_changed-clause-apart
returns-then-has_changed-clause-apart c = λ not. c.loop-place.invariant.apart

pub returns-else-has_changed-clause-apart : goal.returns-else-has_changed-clause-apart
returns-else-has_changed-clause-apart c = λ not. c.loop-place.invariant.apart
