use Rattle.std.proofs.Common.{refl}
use Rattle.fz_prop.proofs.Twice.{shrinks_twice}
use Rattle.fz_alldiff.proofs.Resting.{clearing_more, rested_answer}
use Rattle.fz_alldiff.proofs.far.keep_rest.Goals as goal

pub returns-in_err-clear-clause-shrinks : goal.returns-in_err-clear-clause-shrinks
returns-in_err-clear-clause-shrinks c = shrinks_twice c.args.store.now c.places.store c.clear.new.store c.places.invariant.shrinks c.clear.ensures.shrinks

pub returns-then-not-branch-clause-shrinks : goal.returns-then-not-branch-clause-shrinks
returns-then-not-branch-clause-shrinks c = shrinks_twice c.args.store.now c.places.store c.clear.new.store c.places.invariant.shrinks c.clear.ensures.shrinks

pub places-preserved : goal.places-preserved
places-preserved c =
    clearing_more c.args.terms.now c.args.store.now c.places.store c.clear.new.store c.places.done.items c.in-Some.place c.requires.terms c.doms-in-Some.ensures.store.domains
    c.clear.ensures.shrinks c.clear.ensures.correct (c.in_ok-clear.ensures.cleared c.if-not-branch.false) c.places.invariant

pub returns-clause-answer : goal.returns-clause-answer
returns-clause-answer c =
    let all = rw c.deref-2.ensures.value at c.are_all_done.ensures in
    rw c.rested.ensures (rested_answer c.are_all_done.result c.args.terms.now c.args.store.now c.places.store c.places.done.items c.requires.terms c.places.invariant
    (rw c.deref.ensures.value at c.in_default.ensures.none refl) all)
