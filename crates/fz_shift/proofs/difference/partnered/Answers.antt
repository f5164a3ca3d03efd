use Rattle.std.specs.Prelude.{ℤ}
use Rattle.fz_strength.specs.Domains.{dom_at}
use Rattle.fz_strength.specs.Events.{IsOnly}
use Rattle.fz_shift.proofs.Differences.{fixed_partners, partnered_line}
use Rattle.fz_shift.proofs.difference.partnered.Goals as goal

pub returns-then-is_fixed-clause-answer : goal.returns-then-is_fixed-clause-answer
returns-then-is_fixed-clause-answer c =
    let d = c.args.d in
    let one : (v : ℤ) × IsOnly (dom_at c.args.store.now.doms d.first) v = rw c.dom.ensures.dom at (c.is_fixed.ensures.one.0 c.if-is_fixed.true) in
    fixed_partners c.args.store.now.doms d.first d.second d.above one.0 c.requires.first c.requires.second one.1 c.requires.back

pub returns-else-is_fixed-clause-answer : goal.returns-else-is_fixed-clause-answer
returns-else-is_fixed-clause-answer c =
    let d = c.args.d in
    partnered_line c.args.store.now.doms d.first d.second d.above c.dom.ensures.store.domains c.requires.first c.requires.second c.requires.partners c.requires.back
