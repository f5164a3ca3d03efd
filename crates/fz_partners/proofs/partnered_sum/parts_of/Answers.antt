use Rattle.std.proofs.Common.{rules}
use Rattle.fz_partners.proofs.Parts.{two_said, three_said}
use Rattle.fz_partners.proofs.partnered_sum.parts_of.Goals as goal

pub returns-then-terms-eq2 : goal.returns-then-terms-eq2
returns-then-terms-eq2 c = two_said c.args.factors.now c.args.terms.now c.product_at-first.result c.product_at-second.result (search rules) (search rules)
    c.product_at-first.ensures.factor c.product_at-first.ensures.term c.product_at-second.ensures.factor c.product_at-second.ensures.term

pub returns-else-terms-eq2 : goal.returns-else-terms-eq2
returns-else-terms-eq2 c = three_said c.args.factors.now c.args.terms.now c.product_at-first.result c.product_at-second.result c.product_at.result (search rules) (search rules)
    c.product_at-first.ensures.factor c.product_at-first.ensures.term c.product_at-second.ensures.factor c.product_at-second.ensures.term c.product_at.ensures.factor c.product_at.ensures.term
