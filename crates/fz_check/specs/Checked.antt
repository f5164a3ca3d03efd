-- What the checker says of a program.
use Rattle.std.specs.Prelude.{◌≡◌, Result, Option, Some, List, [], MatchResult, slice_get, option_map}
use Rattle.fz_spec.specs.Instance.{Instance}
use Rattle.fz_language.specs.Trees.{Program}
use Rattle.fz_language.specs.Rules as rules
use Rattle.fz_language.specs.Models.{model_of}
use Rattle.fz_language.specs.Reads.{program_faults, IsFirst, rule_code}
use Rattle.fz_resolve.specs.declared.fault.Fault.{Fault}
use Rattle.fz_resolve.specs.Meant.{fault_of}

-- the model of a program that keeps all rules, or the first rule that it breaks
abbrev pub IsCheckOf : Program → Result Instance Fault → Type 0
IsCheckOf p checked = MatchResult checked (λ m. (program_faults p ≡ []) × (m ≡ model_of p)) (λ fault. IsFirst (program_faults p) (rule_code fault.rule) fault.at)

-- the first of these faults, if there is one
abbrev pub IsFirstOf : List rules.Fault → Option Fault → Type 0
IsFirstOf faults first = option_map fault_of first ≡ slice_get faults 0

-- this is the first of these faults
abbrev pub IsFirstFault : List rules.Fault → Fault → Type 0
IsFirstFault faults first = slice_get faults 0 ≡ Some (fault_of first)
