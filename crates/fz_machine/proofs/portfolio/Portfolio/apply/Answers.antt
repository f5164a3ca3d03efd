use Rattle.std.proofs.Common.{◌<◌, length, subst, sym}
use Rattle.std.specs.Arc.{arc_value}
use Rattle.fz_machine.specs.Portfolios.{Portfolio}
use Rattle.fz_machine.proofs.Assets.{apply_law, apply_ok, apply_err}
use Rattle.fz_machine.proofs.portfolio.Portfolio.apply.Goals as goal

pub invariant_of-self : goal.invariant_of-self
invariant_of-self g c =
    let p : Portfolio = record { model = arc_value c.self.inside.model; mode = c.self.inside.mode; cores = c.self.inside.machines.items } in
    let within = subst (λ (q : Portfolio). c.args.asset < length q.cores) (sym c.self.view_is) c.requires in
    apply_law p c.args.asset c.args.event c.index_mut.result.now c.apply.new.self c.apply.result c.self.invariant within c.index_mut.ensures.value c.apply.ensures.ok c.apply.ensures.err

pub returns-clause-ok : goal.returns-clause-ok
returns-clause-ok g c =
    let p : Portfolio = record { model = arc_value c.self.inside.model; mode = c.self.inside.mode; cores = c.self.inside.machines.items } in
    let within = subst (λ (q : Portfolio). c.args.asset < length q.cores) (sym c.self.view_is) c.requires in
    apply_ok p c.args.self.now c.args.asset c.args.event c.index_mut.result.now c.apply.new.self c.apply.result c.self.view_is within c.index_mut.ensures.value c.apply.ensures.ok

pub returns-clause-err : goal.returns-clause-err
returns-clause-err g c =
    let p : Portfolio = record { model = arc_value c.self.inside.model; mode = c.self.inside.mode; cores = c.self.inside.machines.items } in
    let within = subst (λ (q : Portfolio). c.args.asset < length q.cores) (sym c.self.view_is) c.requires in
    apply_err p c.args.self.now c.args.asset c.args.event c.index_mut.result.now c.apply.new.self c.apply.result c.self.view_is within c.index_mut.ensures.value c.apply.ensures.err
