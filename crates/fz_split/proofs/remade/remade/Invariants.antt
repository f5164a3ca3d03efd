use Rattle.std.proofs.Common.{◌≡◌, take, None}
use Rattle.fz_search_space.specs.Spaces.{Covers}
use Rattle.fz_split.proofs.remade.remade.Given as goal

-- the decisions so far were taken
abbrev pub invariant-places : goal.invariant-places
invariant-places g l = record {
  model : (g.S.SearchSpace.spaced l.space).model ≡ (g.S.SearchSpace.spaced l.root).model;
  covers : Covers None (take l.place l.taken) (g.S.SearchSpace.spaced l.space);
}
