use Rattle.std.proofs.Common.{ℕ, subst}
use Rattle.fz_spec.specs.declared.shape.Operation.{Operation}
use Rattle.fz_ranges.specs.Sizes.{IsParted, IsSizedBy}
use Rattle.fz_ranges.proofs.sizes.sizes_by.Goals as goal

pub returns-in-Quotient-clause-sizes : goal.returns-in-Quotient-clause-sizes
returns-in-Quotient-clause-sizes c = λ m n k made is_m is_n is_k.
    let divided : (rest : ℕ) × IsParted m n k rest = subst (λ (o : Operation). IsSizedBy o m n k) c.in-Quotient.is made in
    c.sizes_of_quotient.ensures.sizes m n k divided.0 divided.1 is_m is_n is_k

pub returns-in-Remainder-clause-sizes : goal.returns-in-Remainder-clause-sizes
returns-in-Remainder-clause-sizes c = λ m n k made is_m is_n is_k.
    let divided : (times : ℕ) × IsParted m n times k = subst (λ (o : Operation). IsSizedBy o m n k) c.in-Remainder.is made in
    c.sizes_of_rest.ensures.sizes m n divided.0 k divided.1 is_m is_n is_k
