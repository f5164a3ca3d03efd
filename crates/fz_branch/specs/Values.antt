-- How the values of a variable are divided.
use Rattle.std.specs.Prelude.{ℕ, ◌-◌, ◌/◌, ℤ, pos, ◌+ℤ◌, Bool, false, nat_lt, nat_le, List, if◌then◌else◌}
use Rattle.std.specs.Int.{int_div_euclid}
use Rattle.fz_sets.specs.Sets.{set_size}
use Rattle.fz_spec.specs.declared.search.Value.{Value}
use Rattle.fz_spec.specs.declared.search.Value.TheVariants.{IndomainMin, IndomainMax, IndomainMedian, IndomainSplit, IndomainReverseSplit, Indomain}
use Rattle.fz_dom.specs.Shape.{least, greatest}
use Rattle.fz_tree.specs.declared.decision.Comparison.TheVariants.{Equal, AtMost, Above}
use Rattle.fz_tree.specs.declared.decision.Decision.{Decision}
use Rattle.fz_tree.specs.Choice.{pair_of}
use Rattle.fz_region.specs.Each.{value_at, each_of}
use Rattle.fz_branch.specs.declared.value.TheConstants.{EACH_MOST}

-- more than one value is left
abbrev pub is_open : List (ℤ × ℤ) → Bool
is_open d = nat_lt 1 (set_size d)

abbrev pub median : List (ℤ × ℤ) → ℤ
median d = value_at d ((set_size d - 1) / 2)

-- the middle of the hull, rounded down
abbrev pub middle : List (ℤ × ℤ) → ℤ
middle d = int_div_euclid (least d +ℤ greatest d) (pos 2)

-- the first alternative of two; the second is its negation
abbrev pub decision_of : Value → ℕ → List (ℤ × ℤ) → Decision
decision_of IndomainMin v d = record { variable = v; comparison = Equal; value = least d }
decision_of IndomainMax v d = record { variable = v; comparison = Equal; value = greatest d }
decision_of IndomainMedian v d = record { variable = v; comparison = Equal; value = median d }
decision_of IndomainSplit v d = record { variable = v; comparison = AtMost; value = middle d }
decision_of IndomainReverseSplit v d = record { variable = v; comparison = Above; value = middle d }
decision_of Indomain v d = record { variable = v; comparison = Equal; value = least d }

-- each value is an alternative of its own, where there aren't too many
abbrev pub takes_each : Value → List (ℤ × ℤ) → Bool
takes_each Indomain d = nat_le (set_size d) EACH_MOST
takes_each value d = false

-- the alternatives
abbrev pub choice_of : Value → ℕ → List (ℤ × ℤ) → List Decision
choice_of value v d = if takes_each value d then each_of v d else pair_of (decision_of value v d)
