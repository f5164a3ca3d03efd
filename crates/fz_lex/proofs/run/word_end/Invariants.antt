use Rattle.std.proofs.Common.{length, ◌-◌}
use Rattle.fz_language.specs.Tokens.{is_word_byte}
use Rattle.fz_lex.specs.Steps.{Passes}
use Rattle.fz_lex.proofs.run.word_end.Given as goal

abbrev pub invariant-word : goal.invariant-word
invariant-word l = Passes is_word_byte l.text l.from l.stop

abbrev pub decreases-word : goal.decreases-word
decreases-word l = length l.text - l.stop
