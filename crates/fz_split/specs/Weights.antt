-- How much is left to divide: a number that falls with each division, so that a split ends.
use Rattle.std.specs.Prelude.{ℕ, true, List, [], ◌∷◌, map, sum_by}
use Rattle.fz_spec.specs.Instance.{Instance}
use Rattle.fz_tree.specs.declared.decision.Decision.{Decision}
use Rattle.fz_tree.specs.Frontier.{Edge, Frontier}
use Rattle.fz_tree.specs.Measure.{weight}

-- the path of a part: an edge for each decision, on which nothing else is open
abbrev pub edge_of : Decision → Edge
edge_of d = record { choice = d ∷ []; taken = 0; last = 0 }

abbrev pub path_of : List Decision → Frontier
path_of p = record { edges = map edge_of p; current_open = true }

abbrev pub weight_of : Instance → List Decision → ℕ
weight_of m p = weight m (path_of p)

abbrev pub weight_in : Instance → List (List Decision) → ℕ
weight_in m ps = sum_by (weight_of m) ps
