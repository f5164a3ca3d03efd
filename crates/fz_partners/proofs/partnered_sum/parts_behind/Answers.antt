use Rattle.std.proofs.Common.{rules}
use Rattle.fz_partners.proofs.Parts.{one_behind, two_behind}
use Rattle.fz_partners.proofs.partnered_sum.parts_behind.Goals as goal

pub returns-then-terms-eq1 : goal.returns-then-terms-eq1
returns-then-terms-eq1 c = one_behind c.args.variable c.args.factors.now c.args.terms.now c.product_at-first.result (search rules) (search rules) c.product_at-first.ensures.factor c.product_at-first.ensures.term

pub returns-else-terms-eq1 : goal.returns-else-terms-eq1
returns-else-terms-eq1 c = two_behind c.args.variable c.args.factors.now c.args.terms.now c.product_at-first.result c.product_at.result (search rules) (search rules)
    c.product_at-first.ensures.factor c.product_at-first.ensures.term c.product_at.ensures.factor c.product_at.ensures.term
