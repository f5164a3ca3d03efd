-- A list of edges that stands in pieces, as long as each other, and a tail.
use Rattle.std.specs.Prelude.{◌≡◌, ◌≤◌, ◌++◌, ℕ, false, List, length, take}
use Rattle.std.specs.List.{AllByRecursion, flat_map, list_any}
use Rattle.fz_tree.specs.Frontier.{Edge, edge_has_rest}
use Rattle.fz_region.specs.declared.pieces.TheConstants.{PIECE, PIECES_MOST}

abbrev pub joined : {X : Type 0} → (X → List Edge) → List X → List Edge → List Edge
joined items pieces tail = flat_map items pieces ++ tail

abbrev pub AreWhole : {X : Type 0} → (X → List Edge) → List X → Type 0
AreWhole items pieces = AllByRecursion (λ p. length (items p) ≡ PIECE) pieces

-- no edge has an open alternative after the taken one
abbrev pub AreSettled : List Edge → Type 0
AreSettled es = list_any edge_has_rest es ≡ false

pub record AreSettledTo (n : ℕ) (es : List Edge) : Type 0 where
  pub within : n ≤ length es
  pub settled : AreSettled (take n es)

pub record ArePieces {X : Type 0} (items : X → List Edge) (pieces : List X) (tail : List Edge) (n : ℕ) : Type 0 where
  pub whole : AreWhole items pieces
  pub few : length pieces ≤ PIECES_MOST
  pub settled : AreSettled (flat_map items pieces)
  pub front : AreSettledTo n tail
