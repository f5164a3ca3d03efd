use Rattle.std.proofs.Common.{refl}
use Rattle.std.specs.Prelude.{pos, ◌-ℤ◌}
use Rattle.std.proofs.lemmas.Result.{IfOk-weaker}
use Rattle.fz_sets.specs.Sets.{IsInSet}
use Rattle.fz_dom.specs.declared.change.Change.{Change}
use Rattle.fz_prop.specs.Stores.{IsChangeAt}
use Rattle.fz_prop.proofs.Steps.{change_unmoved}
use Rattle.fz_prop.proofs.store.Store.keep.Goals as goal

pub returns-clause-change : goal.returns-clause-change
returns-clause-change c =
    IfOk-weaker c.keep_shifted.result (λ (r : Change). IsChangeAt r c.args.variable (λ x. IsInSet c.args.other.now (x -ℤ pos 0)) c.args.self.now c.keep_shifted.new.self)
    (λ (r : Change). IsChangeAt r c.args.variable (λ x. IsInSet c.args.other.now x) c.args.self.now c.keep_shifted.new.self)
    (λ r h. change_unmoved r c.args.variable c.args.other.now (pos 0) c.args.self.now c.keep_shifted.new.self refl h) c.keep_shifted.ensures.change
