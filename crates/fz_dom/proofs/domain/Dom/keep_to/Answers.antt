use Rattle.std.proofs.Common.{◌≤ℤ◌, arith}
use Rattle.std.proofs.lemmas.Int.{ints}
use Rattle.fz_dom.proofs.Changes.{change_as}
use Rattle.fz_dom.proofs.Kept.{limits_of}
use Rattle.fz_dom.proofs.domain.Dom.keep_to.Goals as goal

pub returns-clause-change : goal.returns-clause-change
returns-clause-change c =
    change_as c.keep_range.result _ (λ x. x ≤ℤ c.args.value) c.args.self.now c.keep_range.new.self
    (λ x i. let l = limits_of c.args.self.now x c.keep_range.ensures.old_domain i in let l0 = l.0 in let l1 = l.1 in
    (λ m. (let a = m.1 in omega (arith, ints)), λ m. (omega (arith, ints), omega (arith, ints, m)))) c.keep_range.ensures.change
