-- Laws that the grammar keeps: tokens spell one program, or have one fault of syntax, at one place.
use Rattle.std.specs.Prelude.{◌≡◌, ◌⊎◌, List}
use Rattle.fz_language.specs.Tokens.{Token}
use Rattle.fz_language.specs.Trees.{Program}
use Rattle.fz_language.specs.Grammar.{Spells, Breaks, IsTooDeep}

-- tokens spell one program at most
abbrev pub SpellingIsOne : Type 0
SpellingIsOne = (ts : List Token) (p q : Program) → Spells ts p → Spells ts q → p ≡ q

-- the place where no program goes on is one, and so is that of the first bracket over the limit
abbrev pub FaultIsOne : Type 0
FaultIsOne = (ts b d : List Token) → Breaks ts b → Breaks ts d → b ≡ d

abbrev pub DepthIsOne : Type 0
DepthIsOne = (ts b d : List Token) → IsTooDeep ts b → IsTooDeep ts d → b ≡ d

-- at most one of the three holds of tokens
abbrev pub VerdictIsOne : Type 0
VerdictIsOne = ((ts b d : List Token) → Breaks ts b → IsTooDeep ts d → ⊥) × ((ts : List Token) (p : Program) (b : List Token) → Spells ts p → Breaks ts b → ⊥)
    × ((ts : List Token) (p : Program) (b : List Token) → Spells ts p → IsTooDeep ts b → ⊥)

-- and one of them holds of every list of tokens
abbrev pub SomeVerdict : Type 0
SomeVerdict = (ts : List Token) → ((p : Program) × Spells ts p) ⊎ (((b : List Token) × Breaks ts b) ⊎ ((b : List Token) × IsTooDeep ts b))
