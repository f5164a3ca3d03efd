use Rattle.std.proofs.Common.{length}
use Rattle.fz_team.specs.Members.{IsMember}
use Rattle.fz_team.proofs.work.work.Given as goal

abbrev pub invariant-loop : goal.invariant-loop
invariant-loop g l =
    (goal.iterator-loop g).can_next l.iterator' × (goal.iterator-loop g).is_finite l.iterator' × IsMember g.T.Subject.model l.crew.bound.now (length l.crew.paths.now) l.member
