use Rattle.std.proofs.Common.{◌≡◌, ℕ, ◌<◌, true, get_or}
use Rattle.fz_tree.specs.Book.{Part}
use Rattle.fz_book.proofs.part.claimed_place.Given as goal

-- no claimed one so far is the frontier
abbrev pub invariant-loop-i : goal.invariant-loop-i
invariant-loop-i l = (k : ℕ) → k < l.i → (d : Part) → (get_or l.parts k d).frontier ≡ l.frontier → (get_or l.parts k d).claimed ≡ true → ⊥
