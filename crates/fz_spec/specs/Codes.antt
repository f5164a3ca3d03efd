-- Why a text is refused: the codes as numbers and as text.
use Rattle.std.specs.Prelude.{ℕ, List, codes}
use Rattle.fz_spec.specs.declared.code.Code.{Code}
use Rattle.fz_spec.specs.declared.code.Code.TheVariants.{UnknownByte, LargeNumber, UnexpectedToken, DeclaredTwice, UnknownName, WrongType, WrongArity, UnknownConstraint, Unsupported, WrongLengths, OverLimit}

abbrev pub code_number : Code → ℕ
code_number UnknownByte = 1
code_number LargeNumber = 2
code_number UnexpectedToken = 3
code_number DeclaredTwice = 4
code_number UnknownName = 5
code_number WrongType = 6
code_number WrongArity = 7
code_number UnknownConstraint = 8
code_number Unsupported = 9
code_number WrongLengths = 10
code_number OverLimit = 11

abbrev pub code_text : Code → List ℕ
code_text UnknownByte = codes "E01"
code_text LargeNumber = codes "E02"
code_text UnexpectedToken = codes "E03"
code_text DeclaredTwice = codes "E04"
code_text UnknownName = codes "E05"
code_text WrongType = codes "E06"
code_text WrongArity = codes "E07"
code_text UnknownConstraint = codes "E08"
code_text Unsupported = codes "E09"
code_text WrongLengths = codes "E10"
code_text OverLimit = codes "E11"
