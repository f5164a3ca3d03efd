use Rattle.std.proofs.Common.{arith}
use Rattle.std.proofs.lemmas.Int.{ints}
use Rattle.fz_dom.proofs.Kept.{seen, bounds_of}
use Rattle.fz_dom.proofs.domain.Dom.window_base.Goals as goal

pub returns-clause-window : goal.returns-clause-window
returns-clause-window c = λ x w i.
    let d = c.args.self.now in
    let h = c.self.inside.head in
    let f = seen h c.self.inside.rest.items d c.self.invariant c.self.view_is in
    let li = f.low_is in let hi = f.high_is in
    let b = bounds_of h d f _ i in
    let b0 = b.0 in let b1 = b.1 in
    let n = c.requires in
    let r = c.base_of.ensures.window x w (omega (arith, ints)) (omega (arith, ints)) in
    let r0 = r.0 in let r1 = r.1 in
    (omega (arith, ints), omega (arith, ints))
