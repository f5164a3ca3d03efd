use Rattle.std.proofs.Common.{◌≡◌, ℕ, [], get_or}
use Rattle.fz_column.proofs.grid.Grid.none.Given as goal

-- no word has a row
abbrev pub invariant-loop : goal.invariant-loop
invariant-loop l = (w k : ℕ) → get_or (get_or l.lines.items w []) k 0 ≡ 0
