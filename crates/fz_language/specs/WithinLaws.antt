-- A law that the grammar keeps: a program is no larger than its text, and its integers lie within the limits, since those of its
-- tokens do.
use Rattle.std.specs.Prelude.{ℕ, List}
use Rattle.fz_language.specs.Tokens.{Token, AreTokensOf}
use Rattle.fz_language.specs.Trees.{Program}
use Rattle.fz_language.specs.Grammar.{Spells}
use Rattle.fz_language.specs.Within.{ProgramFits}
use Rattle.fz_language.specs.Reads.{IsShort}

abbrev pub ProgramsFit : Type 0
ProgramsFit = (text : List ℕ) (ts : List Token) (p : Program) → IsShort text → AreTokensOf text ts → Spells ts p → ProgramFits p
