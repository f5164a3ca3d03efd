-- What a run prints (MiniZinc Handbook, "Output": ten dashes after a solution, ten equal signs after a search that is complete).
use Rattle.std.specs.Prelude.{ℕ, ℤ, pos, List, [], ◌∷◌, ◌++◌, codes, decimal, flat_map, length, map, if◌then◌else◌}
use Rattle.std.specs.Fmt.{signed_decimal}
use Rattle.std.specs.Ordering.{int_eq}
use Rattle.fz_spec.specs.declared.kind.Kind.{Kind}
use Rattle.fz_spec.specs.declared.kind.Kind.TheVariants.{Bool, Int}
use Rattle.fz_spec.specs.declared.code.Code.{Code}
use Rattle.fz_spec.specs.Codes.{code_text}
use Rattle.fz_spec.specs.Constraints.{term_value}
use Rattle.fz_spec.specs.Instance.{Instance, Output}

abbrev pub value_text : Kind → ℤ → List ℕ
value_text Bool x = if int_eq x (pos 0) then codes "false" else codes "true"
value_text Int x = signed_decimal x

-- texts with ", " between them
abbrev pub comma_separated : List (List ℕ) → List ℕ
comma_separated [] = []
comma_separated (text ∷ []) = text
comma_separated (text ∷ next ∷ texts) = text ++ codes ", " ++ comma_separated (next ∷ texts)

abbrev pub range_text : ℤ × ℤ → List ℕ
range_text r = signed_decimal r.0 ++ codes ".." ++ signed_decimal r.1

-- the values of an item, one by one
abbrev pub values_text : List ℤ → Output → List ℕ
values_text a o = comma_separated (map (λ t. value_text o.kind (term_value a t)) o.terms)

-- "array2d(1..2, 1..2, [" and so on for as many index ranges as there are
abbrev pub shape_text : List (ℤ × ℤ) → List ℕ
shape_text shape = codes "array" ++ decimal (length shape) ++ codes "d(" ++ flat_map (λ r. range_text r ++ codes ", ") shape ++ codes "["

-- what stands after the equal sign: the value, or the values of an array by its index ranges
abbrev pub output_text : List ℤ → Output → List ℕ
output_text a o = if o.array then shape_text o.shape ++ values_text a o ++ codes "])" else values_text a o

-- a line for an output item
abbrev pub line : List ℤ → Output → List ℕ
line a o = o.name ++ codes " = " ++ output_text a o ++ codes ";\n"

-- a line for each output item, and ten dashes
abbrev pub block : Instance → List ℤ → List ℕ
block m a = flat_map (line a) m.outputs ++ codes "----------\n"

abbrev pub blocks : Instance → List (List ℤ) → List ℕ
blocks m l = flat_map (block m) l

-- the line after the blocks of a search that is complete
abbrev pub closing : List (List ℤ) → List ℕ
closing [] = codes "=====UNSATISFIABLE=====\n"
closing (a ∷ l) = codes "==========\n"

-- "% line 1, column 2: E03" and the line "=====ERROR====="
abbrev pub refusal_text : Code → ℕ → ℕ → List ℕ
refusal_text code line column = codes "% line " ++ decimal line ++ codes ", column " ++ decimal column ++ codes ": " ++ code_text code ++ codes "\n=====ERROR=====\n"
