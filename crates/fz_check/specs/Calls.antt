-- What the item of a constraint makes.
use Rattle.std.specs.Prelude.{◌≡◌, ℕ, Bool, List, [], ◌∷◌, ◌++◌, Option, Some, Result, MatchResult, slice_get, length, cond}
use Rattle.fz_spec.specs.declared.asked.Asked.{Asked}
use Rattle.fz_spec.specs.Constraints as meaning
use Rattle.fz_spec.specs.Signatures as signatures
use Rattle.fz_language.specs.Trees.{ConstraintItem, Expression}
use Rattle.fz_language.specs.Entries.{Environment}
use Rattle.fz_language.specs.Annotations.{asks_whole}
use Rattle.fz_language.specs.Rules.{Fault, call_faults, signature_faults, row_faults, wrong_arguments, arguments_in, at_places}
use Rattle.fz_language.specs.declared.fault.RuleFault.TheVariants.{WrongLengths}
use Rattle.fz_language.specs.Models.{call_constraints}
use Rattle.fz_resolve.specs.declared.fault.Fault as found
use Rattle.fz_check.specs.Checked.{IsFirstOf, IsFirstFault}
use Rattle.fz_check.specs.Parts.{scope}

-- the constraint of an item that keeps all rules but those of the limits, or the first that it breaks
abbrev pub IsCall : Environment → ConstraintItem → Result meaning.Constraint found.Fault → Type 0
IsCall env c made = MatchResult made (λ m. (call_faults env c ≡ []) × (call_constraints (scope env 0) c ≡ m ∷ [])) (IsFirstFault (call_faults env c))

-- the same after other faults, of a row with this signature
abbrev pub IsSigned : List Fault → Environment → ConstraintItem → signatures.Row → List Asked → Result meaning.Constraint found.Fault → Type 0
IsSigned others env c row signature made =
    MatchResult made (λ m. (others ++ signature_faults env c row (Some signature) ≡ []) × (m ≡ record { name = row.builtin; arguments = arguments_in env signature c.arguments; whole = asks_whole c.annotations }))
    (IsFirstFault (others ++ signature_faults env c row (Some signature)))

-- and of a row
abbrev pub IsRowed : List Fault → Environment → ConstraintItem → signatures.Row → Result meaning.Constraint found.Fault → Type 0
IsRowed others env c row made =
    MatchResult made (λ m. (others ++ row_faults env c (Some row) ≡ []) × ((signature : List Asked) × (signatures.signature_of row (length c.arguments) ≡ Some signature) × (m ≡ record { name = row.builtin; arguments = arguments_in env signature c.arguments; whole = asks_whole c.annotations })))
    (IsFirstFault (others ++ row_faults env c (Some row)))

-- the arguments, or the place of the first of a wrong type
abbrev pub AreArguments : Environment → List Asked → List Expression → Result (List meaning.Argument) ℕ → Type 0
AreArguments env signature es made =
    MatchResult made (λ arguments. (wrong_arguments env signature es ≡ []) × (arguments ≡ arguments_in env signature es)) (λ at. slice_get (wrong_arguments env signature es) 0 ≡ Some at)

-- the fault of lists of other lengths than are asked
abbrev pub wrong_lengths : signatures.Row → ℕ → List meaning.Argument → List Fault
wrong_lengths row at arguments = at_places WrongLengths (cond (meaning.fit_lengths row.lengths arguments) [] (at ∷ []))

-- the constraint where the lists have the lengths that are asked, or else the fault that comes before, or that of the lengths
abbrev pub IsTyped : Option found.Fault → signatures.Row → ℕ → List meaning.Argument → Bool → Result meaning.Constraint found.Fault → Type 0
IsTyped early row at arguments whole made =
    (others : List Fault) → IsFirstOf others early
    → MatchResult made (λ m. (others ++ wrong_lengths row at arguments ≡ []) × (m ≡ record { name = row.builtin; arguments = arguments; whole = whole })) (IsFirstFault (others ++ wrong_lengths row at arguments))
