-- One alternative for each value of a set.
use Rattle.std.specs.Prelude.{ℕ, ◌-◌, ℤ, pos, ◌+ℤ◌, nat_lt, List, [], ◌∷◌, map, if◌then◌else◌}
use Rattle.std.specs.List.{range_with_len}
use Rattle.fz_sets.specs.Sets.{range_size, set_size}
use Rattle.fz_tree.specs.declared.decision.Comparison.TheVariants.{Equal}
use Rattle.fz_tree.specs.declared.decision.Decision.{Decision}

-- the value at a place, from 0 in rising order
abbrev pub value_at : List (ℤ × ℤ) → ℕ → ℤ
value_at [] k = pos 0
value_at (r ∷ rs) k = if nat_lt k (range_size r) then r.0 +ℤ pos k else value_at rs (k - range_size r)

-- the variable has the value at a place
abbrev pub value_is : ℕ → List (ℤ × ℤ) → ℕ → Decision
value_is v set k = record { variable = v; comparison = Equal; value = value_at set k }

-- one for each place
abbrev pub each_of : ℕ → List (ℤ × ℤ) → List Decision
each_of v set = map (value_is v set) (range_with_len 0 (set_size set))
