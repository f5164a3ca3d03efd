-- The generated model: of some items, each with a weight and a value, those are chosen that are worth most among those that weigh at
-- most half of all.
use Rattle.std.specs.Prelude.{ℕ, ◌+◌, ◌*◌, ◌/◌, ◌%◌, List, [], ◌∷◌, ◌++◌, codes, decimal, map, flat_map, sum_by}
use Rattle.std.specs.List.{range_with_len}
use Rattle.fz_gen.specs.declared.text.Measure.{Measure}
use Rattle.fz_gen.specs.declared.text.Measure.TheVariants.{Weight, Value}
use Rattle.fz_gen.specs.declared.text.Part.{Part}
use Rattle.fz_gen.specs.declared.text.Part.TheVariants.{Number, Name}

-- of the i-th item, from 1
abbrev pub measure_of : Measure → ℕ → ℕ
measure_of Weight i = 2 + 7 * i % 5
measure_of Value i = 3 + 5 * i % 7

-- of all items
abbrev pub total : Measure → ℕ → ℕ
total measure n = sum_by (measure_of measure) (range_with_len 1 n)

abbrev pub part_text : Part → ℕ → List ℕ
part_text (Number measure) i = decimal (measure_of measure i)
part_text Name i = codes "x" ++ decimal i

-- with commas between them
abbrev pub separated : List (List ℕ) → List ℕ
separated [] = []
separated (text ∷ texts) = text ++ flat_map (λ next. codes "," ++ next) texts

-- of all items
abbrev pub list_text : Part → ℕ → List ℕ
list_text part n = separated (map (part_text part) (range_with_len 1 n))

-- a Boolean of 0 and 1 for each item, that says whether it is chosen
abbrev pub choices_text : ℕ → List ℕ
choices_text n = flat_map (λ i. codes "var 0..1: x" ++ decimal i ++ codes ";\n") (range_with_len 1 n)

-- the value of what is chosen
abbrev pub goal_text : ℕ → List ℕ
goal_text n = codes "var 0.." ++ decimal (total Value n) ++ codes ": z :: output_var;\n"

-- the weights or the values of all items, and after what stands between them their names
abbrev pub lists_text : Measure → List ℕ → ℕ → List ℕ
lists_text measure between n = list_text (Number measure) n ++ (between ++ list_text Name n)

-- at most half of all
abbrev pub limit_text : ℕ → List ℕ
limit_text n = codes "]," ++ (decimal (total Weight n / 2) ++ codes ");\n")

abbrev pub weights_text : ℕ → List ℕ
weights_text n = codes "constraint int_lin_le([" ++ (lists_text Weight (codes "],[") n ++ limit_text n)

abbrev pub values_text : ℕ → List ℕ
values_text n = codes "constraint int_lin_eq([" ++ (lists_text Value (codes ",-1],[") n ++ codes ",z],0);\n")

abbrev pub knapsack : ℕ → List ℕ
knapsack n = choices_text n ++ goal_text n ++ weights_text n ++ values_text n ++ codes "solve maximize z;\n"
