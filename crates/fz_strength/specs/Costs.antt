-- The cost class of what is said of operands.
use Rattle.std.specs.Prelude.{ℕ, zero, suc}
use Rattle.fz_strength.specs.declared.cost.Cost.{Cost}
use Rattle.fz_strength.specs.declared.cost.Cost.TheVariants.{Binary, Ternary, Linear}

-- of one operand beside the result, of two, and of more
abbrev pub cost_of_operands : ℕ → Cost
cost_of_operands (suc zero) = Binary
cost_of_operands (suc (suc zero)) = Ternary
cost_of_operands n = Linear
