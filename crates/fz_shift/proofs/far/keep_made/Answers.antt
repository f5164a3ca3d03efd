use Rattle.std.proofs.Math.Facts.{to_z-of_z}
use Rattle.std.proofs.lemmas.Result.{IfOk-weaker}
use Rattle.fz_bits.specs.Windows.{IsBit}
use Rattle.fz_dom.proofs.Ranges.{within_limits}
use Rattle.fz_strength.specs.Domains.{dom_at}
use Rattle.fz_shift.specs.Points.{IsSpared}
use Rattle.fz_shift.proofs.Leaving.{keeps_as, lost_bits}
use Rattle.fz_shift.proofs.far.keep_made.Goals as goal

pub exclude-requires-clause-near : goal.exclude-requires-clause-near
exclude-requires-clause-near c = λ i small bit.
    let domain = c.dom.ensures.store.domains c.args.variable c.requires.variable in
    within_limits (dom_at c.args.store.now.doms c.args.variable) _ domain.0.1 (((rw c.dom.ensures.dom at c.word_at.ensures) i small).0 ((c.without-lost.ensures i small).0 bit).0)

pub returns-clause-kept : goal.returns-clause-kept
returns-clause-kept c =
    let v = c.args.variable in
    let ds = c.args.store.now.doms in
    let base = c.args.base in
    let lost = c.without-lost.result in
    let has = rw (to_z-of_z c.ranges.base, c.dom.ensures.dom) at c.word_at.ensures in
    IfOk-weaker c.exclude.result _ _
    (λ b kept yes. keeps_as v (λ x. IsBit base lost x → ⊥) (IsSpared base c.args.made) ds c.exclude.new.store.doms (lost_bits base (dom_at ds v) c.args.made c.word_at.result lost has c.without-lost.ensures) (kept yes))
    (rw (to_z-of_z c.ranges.base) at c.exclude.ensures.kept)
