use Rattle.std.proofs.Common.{subst, sym, refl}
use Rattle.fz_strength.specs.Domains.{Within, IsTermOf}
use Rattle.fz_prop.specs.Stores.{Stored}
use Rattle.fz_prop.proofs.Twice.{shrinks_twice}
use Rattle.fz_element.specs.Selecting.{Has}
use Rattle.fz_element.proofs.Keeping.{correct_once, correct_twice, fails_at_index, fails_at_number, matched_now, rested_answer, falls_twice}
use Rattle.fz_element.proofs.select.keep_pairs.Goals as goal

pub returns-in-Wiped-clause-answer : goal.returns-in-Wiped-clause-answer
returns-in-Wiped-clause-answer c =
    fails_at_index c.args.index c.args.value c.args.numbers.now (λ k. Has c.args.pairs.now.indices k) (λ n. Has c.args.pairs.now.values n) c.args.store.now c.keep.new.store
    c.requires.index c.requires.value c.requires.pairs (rw c.in-Wiped.is at c.in_ok-first.ensures.change)

pub returns-in_err-second-clause-shrinks : goal.returns-in_err-second-clause-shrinks
returns-in_err-second-clause-shrinks c =
    shrinks_twice c.args.store.now c.keep.new.store c.keep-2.new.store c.in_ok-first.ensures.shrinks c.in_err-second.ensures.shrinks

pub returns-in_err-second-clause-correct : goal.returns-in_err-second-clause-correct
returns-in_err-second-clause-correct c = λ a holds within.
    subst (λ (s : Stored). Within s.doms a) (sym c.in_err-second.ensures.err)
    (correct_once c.in_ok-first.first c.args.index c.args.value c.args.numbers.now (λ k. Has c.args.pairs.now.indices k) (λ n. Has c.args.pairs.now.values n) c.args.store.now c.keep.new.store
    c.requires.index c.requires.value c.requires.pairs c.in_ok-first.ensures.change c.in_ok-first.ensures.shrinks a holds within)

pub returns-in-Wiped-second-clause-shrinks : goal.returns-in-Wiped-second-clause-shrinks
returns-in-Wiped-second-clause-shrinks c =
    shrinks_twice c.args.store.now c.keep.new.store c.keep-2.new.store c.in_ok-first.ensures.shrinks c.in_ok-second.ensures.shrinks

pub returns-in-Wiped-second-clause-correct : goal.returns-in-Wiped-second-clause-correct
returns-in-Wiped-second-clause-correct c =
    correct_twice c.in_ok-first.first c.in_ok-second.second c.args.index c.args.value c.args.numbers.now (λ k. Has c.args.pairs.now.indices k) (λ n. Has c.args.pairs.now.values n)
    c.args.store.now c.keep.new.store c.keep-2.new.store c.requires.index c.requires.value c.requires.pairs
    c.in_ok-first.ensures.change c.in_ok-first.ensures.shrinks c.in_ok-second.ensures.change c.in_ok-second.ensures.shrinks

pub returns-in-Wiped-second-clause-answer : goal.returns-in-Wiped-second-clause-answer
returns-in-Wiped-second-clause-answer c =
    fails_at_number c.in_ok-first.first c.args.index c.args.value c.args.numbers.now (λ k. Has c.args.pairs.now.indices k) (λ n. Has c.args.pairs.now.values n)
    c.args.store.now c.keep.new.store c.keep-2.new.store c.requires.index c.requires.value c.requires.pairs
    c.in_ok-first.ensures.change c.in_ok-first.ensures.shrinks (rw c.in-Wiped-second.is at c.in_ok-second.ensures.change)

pub returns-then-has_changed_both-clause-shrinks : goal.returns-then-has_changed_both-clause-shrinks
returns-then-has_changed_both-clause-shrinks c =
    shrinks_twice c.args.store.now c.keep.new.store c.keep-2.new.store c.in_ok-first.ensures.shrinks c.in_ok-second.ensures.shrinks

pub returns-then-has_changed_both-clause-correct : goal.returns-then-has_changed_both-clause-correct
returns-then-has_changed_both-clause-correct c =
    correct_twice c.in_ok-first.first c.in_ok-second.second c.args.index c.args.value c.args.numbers.now (λ k. Has c.args.pairs.now.indices k) (λ n. Has c.args.pairs.now.values n)
    c.args.store.now c.keep.new.store c.keep-2.new.store c.requires.index c.requires.value c.requires.pairs
    c.in_ok-first.ensures.change c.in_ok-first.ensures.shrinks c.in_ok-second.ensures.change c.in_ok-second.ensures.shrinks

pub returns-then-has_changed_both-clause-answer : goal.returns-then-has_changed_both-clause-answer
returns-then-has_changed_both-clause-answer c =
    falls_twice c.in_ok-first.first c.in_ok-second.second c.args.index c.args.value (λ k. Has c.args.pairs.now.indices k) (λ n. Has c.args.pairs.now.values n)
    c.args.store.now c.keep.new.store c.keep-2.new.store (c.if-has_changed_both.ensures.0 refl).1
    c.in_ok-first.ensures.change c.in_ok-second.ensures.change c.in_ok-first.ensures.shrinks c.in_ok-second.ensures.shrinks

pub returns-clause-shrinks : goal.returns-clause-shrinks
returns-clause-shrinks c =
    shrinks_twice c.args.store.now c.keep.new.store c.keep-2.new.store c.in_ok-first.ensures.shrinks c.in_ok-second.ensures.shrinks

pub returns-clause-correct : goal.returns-clause-correct
returns-clause-correct c =
    correct_twice c.in_ok-first.first c.in_ok-second.second c.args.index c.args.value c.args.numbers.now (λ k. Has c.args.pairs.now.indices k) (λ n. Has c.args.pairs.now.values n)
    c.args.store.now c.keep.new.store c.keep-2.new.store c.requires.index c.requires.value c.requires.pairs
    c.in_ok-first.ensures.change c.in_ok-first.ensures.shrinks c.in_ok-second.ensures.change c.in_ok-second.ensures.shrinks

pub returns-clause-answer : goal.returns-clause-answer
returns-clause-answer c =
    let narrower = (shrinks_twice c.args.store.now c.keep.new.store c.keep-2.new.store c.in_ok-first.ensures.shrinks c.in_ok-second.ensures.shrinks).narrower in
    rw c.rested.ensures (rested_answer c.are_fixed.result c.args.index c.args.value c.args.numbers.now c.args.store.now.doms c.keep-2.new.store.doms
    (subst (λ n. IsTermOf n c.args.index) (sym narrower.size) c.requires.index) (subst (λ n. IsTermOf n c.args.value) (sym narrower.size) c.requires.value)
    (matched_now c.in_ok-first.first c.in_ok-second.second c.args.index c.args.value c.args.numbers.now (λ k. Has c.args.pairs.now.indices k) (λ n. Has c.args.pairs.now.values n)
    c.args.store.now c.keep.new.store c.keep-2.new.store c.in_default.not-Wiped c.in_default-second.not-Wiped
    (λ both. cc (c.if-has_changed_both.ensures.1 both)) c.requires.pairs c.in_ok-first.ensures.change c.in_ok-second.ensures.change)
    c.are_fixed.ensures.0)
