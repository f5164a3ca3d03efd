use Rattle.std.proofs.Common.{arith}
use Rattle.std.proofs.lemmas.Grind.{common_steps}
use Rattle.fz_resolve.proofs.resolve.integer_list.Goals as goal

pub returns-then-asked : goal.returns-then-asked
returns-then-asked c = λ env. grind (arith, common_steps, c.in_ok-terms.ensures env)

pub returns : goal.returns
returns c = λ env. grind (arith, common_steps, c.in_ok-numbers.ensures env)
