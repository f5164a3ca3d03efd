use Rattle.std.proofs.Common.{◌≡◌}
use Rattle.fz_sets.proofs.Lists.{all_at}
use Rattle.fz_prop.specs.Truths.{IsAbout}
use Rattle.fz_prop.proofs.Settling.{settled_correct, settled_answer}
use Rattle.fz_prop.proofs.Lasting.{ends_last}
use Rattle.fz_bool.specs.Looks.{IsLiteralOf}
use Rattle.fz_strength.specs.Clauses.{true_number}
use Rattle.fz_bool.specs.Clausal.{TruthOf, LineOf}
use Rattle.fz_bool.proofs.Clausal.{held_answer, nothing_answer, two_line, last_about}
use Rattle.fz_bool.proofs.clause.keep_some.Goals as goal

pub returns-in-Held-clause-answer : goal.returns-in-Held-clause-answer
returns-in-Held-clause-answer c = held_answer c.args.literals.now c.args.r c.args.store.now.doms c.requires.literals c.requires.result c.requires.holds c.in-Held.ensures.left

pub returns-in-Nothing-clause-answer : goal.returns-in-Nothing-clause-answer
returns-in-Nothing-clause-answer c = nothing_answer c.args.literals.now c.args.r c.args.store.now.doms c.requires.literals c.requires.result c.requires.holds c.in-Nothing.ensures.left

pub returns-in-More-clause-answer : goal.returns-in-More-clause-answer
returns-in-More-clause-answer c = two_line c.args.literals.now c.args.r c.args.store.now.doms c.requires.holds c.in-More.ensures.left

about : (c : goal.After-settled) → IsAbout c.in-Last.literal.term (λ u. u ≡ true_number c.in-Last.literal) (TruthOf c.args.literals.now c.args.r) (LineOf c.args.literals.now c.args.r) c.args.store.now.doms
about c = last_about c.args.literals.now c.args.r c.in-Last.literal c.args.store.now.doms c.requires.literals c.requires.result c.requires.holds c.in-Last.ensures.left

pub returns-in_ok-change-in-Last-clause-correct : goal.returns-in_ok-change-in-Last-clause-correct
returns-in_ok-change-in-Last-clause-correct c =
    settled_correct c.in_ok-change-in-Last.change c.in-Last.literal.term (λ u. u ≡ true_number c.in-Last.literal) (TruthOf c.args.literals.now c.args.r) (LineOf c.args.literals.now c.args.r)
    c.args.store.now c.make_true.new.store c.in_ok-change-in-Last.ensures.change c.in_ok-change-in-Last.ensures.shrinks (about c)

pub returns-in_ok-change-in-Last-clause-answer : goal.returns-in_ok-change-in-Last-clause-answer
returns-in_ok-change-in-Last-clause-answer c =
    let ls = c.args.literals.now in
    let last = c.in-Last.ensures.left in
    rw c.settled.ensures
    (settled_answer c.in_ok-change-in-Last.change c.in-Last.literal.term (λ u. u ≡ true_number c.in-Last.literal) (TruthOf ls c.args.r) (LineOf ls c.args.r) c.args.store.now c.make_true.new.store
    (all_at (IsLiteralOf c.args.store.now.doms) ls last.place c.in-Last.literal c.requires.literals last.at).0 c.in_ok-change-in-Last.ensures.change c.in_ok-change-in-Last.ensures.shrinks (about c))

pub returns-in_ok-change-in-Last-clause-told : goal.returns-in_ok-change-in-Last-clause-told
returns-in_ok-change-in-Last-clause-told c = λ domains.
    ends_last c.args.literals.now c.left_between.new.kept.front c.left_between.new.kept.back c.args.store.now.doms c.make_true.new.store.doms domains
    c.in_ok-change-in-Last.ensures.shrinks.narrower c.left_between.ensures.told
