use Rattle.std.proofs.Common.{◌≡◌, ◌≤◌, ◌-◌, ◌*◌}
use Rattle.fz_gen.specs.Knapsack as texts
use Rattle.fz_gen.proofs.text.total.Given as goal

-- the total of the items so far, of which none has more than 9
abbrev pub invariant-loop-i : goal.invariant-loop-i
invariant-loop-i l = (l.total ≡ texts.total l.measure (l.i - 1)) × (l.total ≤ 9 * (l.i - 1))
