use Rattle.std.proofs.Common.{◌≡◌, length}
use Rattle.std.specs.Prelude.{true}
use Rattle.fz_sets.proofs.Lists.{all_at}
use Rattle.fz_spec.specs.declared.term.Term.{Term}
use Rattle.fz_strength.specs.Promises.{IsTruth}
use Rattle.fz_strength.specs.Domains.{IsTermOf}
use Rattle.fz_prop.specs.Truths.{IsAbout}
use Rattle.fz_prop.proofs.Settling.{settled_correct, settled_answer}
use Rattle.fz_prop.proofs.Lasting.{odd_lasts}
use Rattle.fz_bool.specs.Parity.{OddTruth, OddLine, missing_number}
use Rattle.fz_bool.proofs.Odd.{last_odd}
use Rattle.fz_bool.proofs.parity.keep_odd.Goals as goal

about : (c : goal.After-settled) → IsAbout c.in-Last.term (λ u. u ≡ missing_number c.in-Last.odd true) (OddTruth c.args.terms.now true) (OddLine c.args.terms.now true) c.args.store.now.doms
about c = last_odd c.args.terms.now c.in-Last.term c.in-Last.odd true c.args.store.now.doms c.requires.booleans c.in-Last.ensures.seen

pub returns-in_ok-change-in-Last-clause-correct : goal.returns-in_ok-change-in-Last-clause-correct
returns-in_ok-change-in-Last-clause-correct c =
    settled_correct c.in_ok-change-in-Last.change c.in-Last.term (λ u. u ≡ missing_number c.in-Last.odd true) (OddTruth c.args.terms.now true) (OddLine c.args.terms.now true)
    c.args.store.now c.keep_missing.new.store c.in_ok-change-in-Last.ensures.change c.in_ok-change-in-Last.ensures.shrinks (about c)

pub returns-in_ok-change-in-Last-clause-answer : goal.returns-in_ok-change-in-Last-clause-answer
returns-in_ok-change-in-Last-clause-answer c =
    let ts = c.args.terms.now in
    let ds = c.args.store.now.doms in
    let last = c.in-Last.ensures.seen in
    rw c.settled.ensures
    (settled_answer c.in_ok-change-in-Last.change c.in-Last.term (λ u. u ≡ missing_number c.in-Last.odd true) (OddTruth ts true) (OddLine ts true) c.args.store.now c.keep_missing.new.store
    (all_at (λ (u : Term). IsTermOf (length ds) u × IsTruth ds u) ts last.place c.in-Last.term c.requires.booleans last.at).0
    c.in_ok-change-in-Last.ensures.change c.in_ok-change-in-Last.ensures.shrinks (about c))

pub returns-in_ok-change-in-Last-clause-told : goal.returns-in_ok-change-in-Last-clause-told
returns-in_ok-change-in-Last-clause-told c =
    odd_lasts c.args.terms.now c.seen_between.new.kept.front c.seen_between.new.kept.back c.seen_between.new.kept.number c.args.store.now.doms c.keep_missing.new.store.doms
    c.in_ok-change-in-Last.ensures.shrinks.narrower c.seen_between.ensures.told
