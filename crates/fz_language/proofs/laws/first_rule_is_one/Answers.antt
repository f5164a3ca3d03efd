use Rattle.fz_language.specs.Reads.{program_faults}
use Rattle.fz_language.proofs.RuleLaws.{one_first}
use Rattle.fz_language.proofs.laws.first_rule_is_one.Goals as goal

pub returns : goal.returns
returns c = λ p. one_first (program_faults p)
