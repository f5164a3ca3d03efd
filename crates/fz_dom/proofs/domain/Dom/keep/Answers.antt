use Rattle.std.proofs.Common.{refl}
use Rattle.std.specs.Prelude.{pos, ◌-ℤ◌}
use Rattle.std.proofs.lemmas.Result.{IfOk-weaker}
use Rattle.fz_sets.specs.Sets.{IsInSet}
use Rattle.fz_dom.specs.Changes.{IsChange}
use Rattle.fz_dom.specs.declared.change.Change.{Change}
use Rattle.fz_dom.proofs.Windows.{as_unmoved}
use Rattle.fz_dom.proofs.domain.Dom.keep.Goals as goal

pub returns-clause-change : goal.returns-clause-change
returns-clause-change c =
    IfOk-weaker c.keep_shifted.result (λ (r : Change). IsChange r (λ x. IsInSet c.args.other.now (x -ℤ pos 0)) c.args.self.now c.keep_shifted.new.self)
    (λ (r : Change). IsChange r (λ x. IsInSet c.args.other.now x) c.args.self.now c.keep_shifted.new.self)
    (λ r h. as_unmoved r c.args.other.now c.args.self.now c.keep_shifted.new.self (pos 0) refl h) c.keep_shifted.ensures.change
