use Rattle.std.proofs.Common.{refl}
use Rattle.std.specs.Prelude.{pos, ◌-ℤ◌}
use Rattle.std.proofs.lemmas.Result.{IfOk-weaker}
use Rattle.fz_sets.specs.Sets.{IsInSet}
use Rattle.fz_dom.specs.declared.change.Change.{Change}
use Rattle.fz_strength.specs.Domains.{dom_at}
use Rattle.fz_prop.specs.Stores.{IsChangeAt}
use Rattle.fz_prop.proofs.Steps.{change_unmoved}
use Rattle.fz_rel.proofs.equal.keep_among.Goals as goal

pub returns-clause-change : goal.returns-clause-change
returns-clause-change c =
    let others = dom_at c.args.store.now.doms c.args.other in
    IfOk-weaker c.keep_partners.result (λ (r : Change). IsChangeAt r c.args.variable (λ x. IsInSet others (x -ℤ pos 0)) c.args.store.now c.keep_partners.new.self)
    (λ (r : Change). IsChangeAt r c.args.variable (λ x. IsInSet others x) c.args.store.now c.keep_partners.new.self)
    (λ r h. change_unmoved r c.args.variable others (pos 0) c.args.store.now c.keep_partners.new.self refl h) c.keep_partners.ensures.change
