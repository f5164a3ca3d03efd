use Rattle.std.proofs.Common.{◌≡◌}
use Rattle.std.specs.Prelude.{pos}
use Rattle.fz_prop.specs.Truths.{IsAbout, TruthWith}
use Rattle.fz_prop.proofs.Settling.{settled_correct, settled_answer}
use Rattle.fz_rel.specs.Members.{IsMember}
use Rattle.fz_rel.specs.Reified.{ReifiedMemberLine}
use Rattle.fz_rel.proofs.ReifiedSets.{inside_about, outside_about}
use Rattle.fz_rel.proofs.reified_member.decide.Goals as goal

about_one : (c : goal.After-settled) → IsAbout c.args.r (λ u. u ≡ pos 1) (TruthWith (IsMember c.args.x c.args.set.now) c.args.r) (ReifiedMemberLine c.args.x c.args.set.now c.args.r) c.args.store.now.doms
about_one c = inside_about c.args.x c.args.set.now c.args.r c.args.store.now.doms c.requires.x c.requires.r (rw c.in-Same.is at c.in_ok-overlap.ensures.overlap)

pub returns-in_ok-change-in-Same-clause-correct : goal.returns-in_ok-change-in-Same-clause-correct
returns-in_ok-change-in-Same-clause-correct c =
    settled_correct c.in_ok-change-in-Same.change c.args.r (λ u. u ≡ pos 1) (TruthWith (IsMember c.args.x c.args.set.now) c.args.r) (ReifiedMemberLine c.args.x c.args.set.now c.args.r)
    c.args.store.now c.keep_only.new.store c.in_ok-change-in-Same.ensures.change c.in_ok-change-in-Same.ensures.shrinks (about_one c)

pub returns-in_ok-change-in-Same-clause-answer : goal.returns-in_ok-change-in-Same-clause-answer
returns-in_ok-change-in-Same-clause-answer c =
    rw c.settled.ensures
    (settled_answer c.in_ok-change-in-Same.change c.args.r (λ u. u ≡ pos 1) (TruthWith (IsMember c.args.x c.args.set.now) c.args.r) (ReifiedMemberLine c.args.x c.args.set.now c.args.r)
    c.args.store.now c.keep_only.new.store c.requires.r c.in_ok-change-in-Same.ensures.change c.in_ok-change-in-Same.ensures.shrinks (about_one c))

about_zero : (c : goal.After-settled-in-Wiped) → IsAbout c.args.r (λ u. u ≡ pos 0) (TruthWith (IsMember c.args.x c.args.set.now) c.args.r) (ReifiedMemberLine c.args.x c.args.set.now c.args.r) c.args.store.now.doms
about_zero c = outside_about c.args.x c.args.set.now c.args.r c.args.store.now.doms c.requires.x c.requires.r c.requires.truth (rw c.in-Wiped.is at c.in_ok-overlap.ensures.overlap)

pub returns-in_ok-change-in-Wiped-clause-correct : goal.returns-in_ok-change-in-Wiped-clause-correct
returns-in_ok-change-in-Wiped-clause-correct c =
    settled_correct c.in_ok-change-in-Wiped.change c.args.r (λ u. u ≡ pos 0) (TruthWith (IsMember c.args.x c.args.set.now) c.args.r) (ReifiedMemberLine c.args.x c.args.set.now c.args.r)
    c.args.store.now c.keep_only-in-Wiped.new.store c.in_ok-change-in-Wiped.ensures.change c.in_ok-change-in-Wiped.ensures.shrinks (about_zero c)

pub returns-in_ok-change-in-Wiped-clause-answer : goal.returns-in_ok-change-in-Wiped-clause-answer
returns-in_ok-change-in-Wiped-clause-answer c =
    rw c.settled-in-Wiped.ensures
    (settled_answer c.in_ok-change-in-Wiped.change c.args.r (λ u. u ≡ pos 0) (TruthWith (IsMember c.args.x c.args.set.now) c.args.r) (ReifiedMemberLine c.args.x c.args.set.now c.args.r)
    c.args.store.now c.keep_only-in-Wiped.new.store c.requires.r c.in_ok-change-in-Wiped.ensures.change c.in_ok-change-in-Wiped.ensures.shrinks (about_zero c))
