use Rattle.std.proofs.Common.{◌≡◌, ◌++◌, ◌-◌, codes, flat_map}
use Rattle.std.specs.List.{range_with_len}
use Rattle.fz_gen.specs.Knapsack as texts
use Rattle.fz_gen.proofs.text.push_further.Given as goal

-- the text of the items so far
abbrev pub invariant-loop-i : goal.invariant-loop-i
invariant-loop-i l = l.text.items ≡ l.initial.text.items ++ flat_map (λ i. codes "," ++ texts.part_text l.part i) (range_with_len 2 (l.i - 2))
