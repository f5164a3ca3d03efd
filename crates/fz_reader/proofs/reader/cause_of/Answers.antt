use Rattle.std.proofs.Common.{subst}
use Rattle.fz_parse.specs.Parsed.{IsTextFault}
use Rattle.fz_reader.proofs.Readings.{unlexed_is, unspelt_is}
use Rattle.fz_reader.proofs.reader.cause_of.Goals as goal

pub returns-in-Token : goal.returns-in-Token
returns-in-Token c = λ text short h. unlexed_is text c.in-Token.fault _ _ short (subst (IsTextFault text) c.in-Token.is h) c.unlexed.ensures.code c.unlexed.ensures.at

pub returns-in-Syntax : goal.returns-in-Syntax
returns-in-Syntax c = λ text short h. unspelt_is text c.in-Syntax.fault _ _ short (subst (IsTextFault text) c.in-Syntax.is h) c.unspelt.ensures.code c.unspelt.ensures.at
