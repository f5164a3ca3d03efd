-- What stands after the blocks, or in their place.
use Rattle.std.specs.Prelude.{ℕ, ℤ, List, [], ◌++◌, Option, Some, None, codes, decimal}
use Rattle.std.specs.Fmt.{signed_decimal}
use Rattle.fz_print.specs.declared.ending.Ending.{Ending}
use Rattle.fz_print.specs.declared.ending.Ending.TheVariants.{Complete, Unsatisfiable, Plain}

-- the line after the blocks
abbrev pub ending_text : Ending → List ℕ
ending_text Complete = codes "==========\n"
ending_text Unsatisfiable = codes "=====UNSATISFIABLE=====\n"
ending_text Plain = []

-- how many solutions were printed, in two lines
abbrev pub count_text : ℕ → List ℕ
count_text count = codes "%%%mznStat: nSolutions=" ++ decimal count ++ codes "\n%%%mznStatEnd\n"

-- the same where that is asked for
abbrev pub statistics_text : Option ℕ → List ℕ
statistics_text None = []
statistics_text (Some count) = count_text count

-- "items=4 best=17"
abbrev pub summary_text : ℕ → ℤ → List ℕ
summary_text items best = codes "items=" ++ decimal items ++ codes " best=" ++ signed_decimal best ++ codes "\n"
