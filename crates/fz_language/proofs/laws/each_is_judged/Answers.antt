use Rattle.fz_language.specs.Reads.{program_faults}
use Rattle.fz_language.proofs.RuleLaws.{judged}
use Rattle.fz_language.proofs.laws.each_is_judged.Goals as goal

pub returns : goal.returns
returns c = λ p. judged (program_faults p)
