use Rattle.std.specs.Prelude.{ℕ, List, ◌++◌, codes, decimal, nat_lt, if◌then◌else◌}
use Rattle.fz_print.specs.declared.refusal.Refusal.{Refusal}

-- a letter and two digits
abbrev pub code_digits : ℕ → List ℕ
code_digits n = (if nat_lt n 10 then codes ": E0" else codes ": E") ++ decimal n

-- the lines "% line 1, column 8: E02" and "=====ERROR====="
abbrev pub text_of : Refusal → List ℕ
text_of r = codes "% line " ++ decimal r.line ++ codes ", column " ++ decimal r.column ++ code_digits r.code ++ codes "\n=====ERROR=====\n"
