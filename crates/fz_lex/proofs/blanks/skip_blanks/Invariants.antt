use Rattle.std.proofs.Common.{◌≤◌, ◌-◌, length}
use Rattle.fz_language.specs.Tokens.{IsGap}
use Rattle.fz_lex.proofs.blanks.skip_blanks.Given as goal

abbrev pub invariant-blanks : goal.invariant-blanks
invariant-blanks l = (l.at ≤ length l.text) × IsGap l.text l.from l.at

abbrev pub decreases-blanks : goal.decreases-blanks
decreases-blanks l = length l.text - l.at
