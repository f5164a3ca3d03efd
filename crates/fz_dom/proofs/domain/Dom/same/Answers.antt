use Rattle.std.proofs.Common.{ap, arith}
use Rattle.std.proofs.lemmas.Bool.{false≢true}
use Rattle.fz_sets.specs.Sets.{set_size}
use Rattle.fz_dom.proofs.Ranges.{same_ranges, AreOneSet-same}
use Rattle.fz_dom.proofs.domain.Dom.same.Goals as goal

pub returns-clause-one_set : goal.returns-clause-one_set
returns-clause-one_set c =
    let e = c.has_ranges_of.ensures in (
      λ t. AreOneSet-same c.args.self.now c.args.other.now (e.same.0 t),
      λ s. e.same.1 (same_ranges c.args.self.now c.args.other.now e.domain.0 e.other_domain.0 s),
    )

pub returns-then-size-clause-one_set : goal.returns-then-size-clause-one_set
returns-then-size-clause-one_set c = (
  λ t. absurd (false≢true t),
  λ one. absurd (
      let a = c.size.ensures in
      let b = c.size-2.ensures in
      let e = ap set_size (same_ranges c.args.self.now c.args.other.now a.domain.0 b.domain.0 one) in
      let p = a.size in let q = b.size in let n = c.if-size.true in
      omega (arith, n)),
)
