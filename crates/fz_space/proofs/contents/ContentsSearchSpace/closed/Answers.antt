use Rattle.std.proofs.Common.{◌≡◌, subst, false}
use Rattle.fz_branch.specs.Picks.{AreClosed}
use Rattle.fz_search_space.specs.Spaces.{Spaced}
use Rattle.fz_space.proofs.Fronts.{front_closed}
use Rattle.fz_space.proofs.contents.ContentsSearchSpace.closed.Goals as goal

pub returns : goal.returns
returns c =
    subst (λ (s : Spaced). s.failed ≡ false → AreClosed c.self.inside.front s.doms) c.self.view_is
    (λ alive. front_closed c.self.inside.front c.self.inside.store.doms (c.self.invariant.0 alive).1)
