use Rattle.std.proofs.Common.{◌≡◌, ℕ, ◌<◌, get_or}
use Rattle.fz_tree.specs.Book.{Part}
use Rattle.fz_book.proofs.part.any_place.Given as goal

-- none so far is the frontier
abbrev pub invariant-loop-i : goal.invariant-loop-i
invariant-loop-i l = (k : ℕ) → k < l.i → (d : Part) → (get_or l.parts k d).frontier ≡ l.frontier → ⊥
