use Rattle.std.proofs.Common.{◌≡◌, ◌+◌, ℤ, Option, List, ◌++◌}
use Rattle.std.specs.List.{slice_range}
use Rattle.fz_tree.specs.declared.decision.Decision.{Decision}
use Rattle.fz_search_space.specs.Spaces.{Covers}
use Rattle.fz_trail.specs.Nodes.{decisions_of}
use Rattle.fz_trail.proofs.trail.commit_all.Given as goal

abbrev pub invariant-places : goal.invariant-places
invariant-places g l = ((g.S.SearchSpace.spaced l.space).model ≡ (g.S.SearchSpace.spaced l.initial.space).model)
    × ((known : Option (List ℤ)) (ds : List Decision) → Covers known ds (g.S.SearchSpace.spaced l.initial.space) → Covers known (ds ++ decisions_of (slice_range l.edges l.from l.place)) (g.S.SearchSpace.spaced l.space))
    × (l.steps + l.from ≡ l.initial.steps + l.place)
