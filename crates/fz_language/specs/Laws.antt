-- Laws that the definitions keep.
use Rattle.std.specs.Prelude.{◌≡◌, ◌⊎◌, ℕ, List, []}
use Rattle.fz_spec.specs.declared.code.Code.{Code}
use Rattle.fz_language.specs.Trees.{Program}
use Rattle.fz_language.specs.Reads.{program_faults, IsFirst, Reading, Reads}

-- a program keeps all rules, or it has a first one that it breaks
abbrev pub EachIsJudged : Type 0
EachIsJudged = (p : Program) → (program_faults p ≡ []) ⊎ ((c : Code) × (at : ℕ) × IsFirst (program_faults p) c at)

-- and one such rule at most
abbrev pub OneFirstRule : Type 0
OneFirstRule = (p : Program) (c d : Code) (a b : ℕ) → IsFirst (program_faults p) c a → IsFirst (program_faults p) d b → (c ≡ d) × (a ≡ b)

-- a text has one reading at most
abbrev pub ReadingIsOne : Type 0
ReadingIsOne = (text : List ℕ) (r s : Reading) → Reads text r → Reads text s → r ≡ s

-- and one at least
abbrev pub SomeReading : Type 0
SomeReading = (text : List ℕ) → (r : Reading) × Reads text r
