use Rattle.std.proofs.Common.{ℕ, subst}
use Rattle.std.specs.Prelude.{All}
use Rattle.fz_team.specs.Members.{IsMember}
use Rattle.fz_team.proofs.assets.team_of.Goals as goal

pub returns-clause-team : goal.returns-clause-team
returns-clause-team g c =
    record {
      bound = c.in_ok-members.ensures.seat.0;
      fresh = c.in_ok-members.ensures.seat.1;
      parts = c.in_ok-members.ensures.parts;
      members = subst (λ (n : ℕ). All (IsMember g.T.Subject.model c.in_ok-bound.bound n) c.in_ok-members.members.items) c.len.ensures c.in_ok-members.ensures.members;
    }

pub returns-clause-assets : goal.returns-clause-assets
returns-clause-assets g c = (c.in_ok-assets.ensures.len, c.in_ok-assets.ensures.capacity)

pub returns-clause-books : goal.returns-clause-books
returns-clause-books g c = (c.in_ok-books.ensures.len, c.in_ok-books.ensures.capacity)
