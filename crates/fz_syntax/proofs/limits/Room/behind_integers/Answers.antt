use Rattle.std.proofs.Common.{◌-◌, length, ap, sym, ◌∙◌, arith}
use Rattle.std.specs.Prelude.{Some}
use Rattle.fz_syntax.proofs.Integers.{over_at, all_within}
use Rattle.fz_syntax.proofs.limits.Room.behind_integers.Goals as goal

pub returns-in-Some : goal.returns-in-Some
returns-in-Some c = λ n h.
    let at = c.in-Some.ensures.lookup in
    over_at c.args.integers.now n c.args.self.elements c.in-Some.first_over.now h.elements at.3.0 ∙ ap (λ i. Some i.at) (sym at.1)

pub returns-in-None : goal.returns-in-None
returns-in-None c = λ n h. all_within c.args.integers.now n c.args.self (c.args.self.elements - length c.args.integers.now) h (omega (arith, c.in-None.ensures.lookup.3))
