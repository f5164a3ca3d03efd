use Rattle.fz_ranges.proofs.Divisions.{sized_other}
use Rattle.fz_ranges.proofs.sizes.sizes_of_product.Goals as goal

pub returns-clause-sizes : goal.returns-clause-sizes
returns-clause-sizes c = λ m n is_m is_n is_product.
    (c.factor.ensures.sizes m n is_m is_n is_product, c.factor-2.ensures.sizes n m is_n is_m (sized_other c.args.value m n is_product), is_product)
