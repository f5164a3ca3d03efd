use Rattle.std.proofs.Common.{◌≡◌, [], rules}
use Rattle.std.specs.Prelude.{◌≤ℤ◌, ◌↔◌, IsTrue}
use Rattle.fz_dom.specs.Shape.{least}
use Rattle.fz_refutes.specs.Boxes.{set_of}
use Rattle.fz_refutes.proofs.Hulls.{below_is}
use Rattle.fz_refutes.proofs.Insides.{ranges_of_term}
use Rattle.fz_cert.proofs.ends.is_below.Goals as goal

pub returns-else-is_none : goal.returns-else-is_none
returns-else-is_none c =
    let d = set_of c.args.area.now c.args.term in
    let some : d ≡ [] → ⊥ = λ e. let t = c.if-is_none.ensures.1 e in absurd (cc (t)) in
    let test : IsTrue c.is_most.result ↔ (c.args.number ≤ℤ least d) = search rules in
    below_is d c.args.number c.is_most.result (ranges_of_term c.args.area.now c.args.term c.sets.ensures.kept) some test
