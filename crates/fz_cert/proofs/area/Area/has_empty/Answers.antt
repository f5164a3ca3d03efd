use Rattle.std.proofs.Common.{sym, subst, arith}
use Rattle.std.proofs.lemmas.Bool.{lt-ltb, ltb-true}
use Rattle.fz_refutes.specs.Boxes.{HasEmpty}
use Rattle.fz_cert.proofs.Emptying.{some_is_empty}
use Rattle.fz_cert.proofs.area.Area.has_empty.Goals as goal

pub returns : goal.returns
returns c =
    let some = some_is_empty c.self.inside.sets.items in (
      (λ t. let more = ltb-true 0 c.self.inside.empty t in subst HasEmpty c.self.view_is (some.0 (omega (arith, more, c.self.invariant.count)))),
      (λ e. let more = some.1 (subst HasEmpty (sym c.self.view_is) e) in lt-ltb 0 c.self.inside.empty (omega (arith, more, c.self.invariant.count))),
    )
