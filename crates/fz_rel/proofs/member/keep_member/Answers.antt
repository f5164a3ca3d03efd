use Rattle.fz_sets.specs.Sets.{IsInSet}
use Rattle.fz_prop.proofs.Settling.{settled_correct, settled_answer}
use Rattle.fz_rel.specs.Members.{IsMember, MemberLine}
use Rattle.fz_rel.proofs.Sets.{member_about}
use Rattle.fz_rel.proofs.member.keep_member.Goals as goal

pub returns-clause-correct : goal.returns-clause-correct
returns-clause-correct c =
    settled_correct c.in_ok-change.change c.args.x (λ u. IsInSet c.args.set.now u) (IsMember c.args.x c.args.set.now) (MemberLine c.args.x c.args.set.now) c.args.store.now c.keep_in.new.store
    c.in_ok-change.ensures.change c.in_ok-change.ensures.shrinks (member_about c.args.x c.args.set.now c.args.store.now.doms)

pub returns-clause-answer : goal.returns-clause-answer
returns-clause-answer c =
    rw c.settled.ensures
    (settled_answer c.in_ok-change.change c.args.x (λ u. IsInSet c.args.set.now u) (IsMember c.args.x c.args.set.now) (MemberLine c.args.x c.args.set.now) c.args.store.now c.keep_in.new.store c.requires
    c.in_ok-change.ensures.change c.in_ok-change.ensures.shrinks (member_about c.args.x c.args.set.now c.args.store.now.doms))
