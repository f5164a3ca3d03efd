use Rattle.std.specs.Prelude.{ℤ}
use Rattle.fz_strength.specs.Domains.{dom_at}
use Rattle.fz_strength.specs.Events.{IsOnly}
use Rattle.fz_rel.proofs.Equality.{fixed_same, same_sets}
use Rattle.fz_rel.proofs.equal.same_now.Goals as goal

pub returns-then-is_fixed-clause-answer : goal.returns-then-is_fixed-clause-answer
returns-then-is_fixed-clause-answer c =
    let one : (v : ℤ) × IsOnly (dom_at c.args.store.now.doms c.args.x) v = rw c.dom.ensures.dom at (c.is_fixed.ensures.one.0 c.if-is_fixed.true) in
    fixed_same c.args.x c.args.y one.0 c.args.store.now.doms c.requires.x c.requires.y one.1 c.requires.back

pub returns-else-is_fixed-clause-answer : goal.returns-else-is_fixed-clause-answer
returns-else-is_fixed-clause-answer c = same_sets c.args.x c.args.y c.args.store.now.doms c.dom.ensures.store.domains c.requires.x c.requires.y c.requires.among c.requires.back
