use Rattle.std.proofs.Common.{◌≡◌, ◌++◌, ◌-◌, codes, decimal, flat_map}
use Rattle.std.specs.List.{range_with_len}
use Rattle.fz_gen.proofs.text.push_choices.Given as goal

-- the text of the items so far
abbrev pub invariant-loop-i : goal.invariant-loop-i
invariant-loop-i l = l.text.items ≡ l.initial.text.items ++ flat_map (λ i. codes "var 0..1: x" ++ decimal i ++ codes ";\n") (range_with_len 1 (l.i - 1))
