use Rattle.std.proofs.Common.{◌<◌, length, subst, sym}
use Rattle.std.specs.Arc.{arc_value}
use Rattle.fz_machine.specs.Portfolios.{Portfolio}
use Rattle.fz_machine.proofs.Assets.{asked, offered_kept, offered_ok, offered_err}
use Rattle.fz_machine.proofs.portfolio.Portfolio.offer.Goals as goal

pub offer-requires-clause-mode : goal.offer-requires-clause-mode
offer-requires-clause-mode g c =
    let p : Portfolio = record { model = arc_value c.self.inside.model; mode = c.self.inside.mode; cores = c.self.inside.machines.items } in
    let within = subst (λ (q : Portfolio). c.args.asset < length q.cores) (sym c.self.view_is) c.requires.asset in
    (asked p c.args.self.now c.args.asset c.index_mut.result.now c.args.best c.self.invariant c.self.view_is within c.index_mut.ensures.value c.requires.mode c.requires.satisfies).0

pub offer-requires-clause-satisfies : goal.offer-requires-clause-satisfies
offer-requires-clause-satisfies g c =
    let p : Portfolio = record { model = arc_value c.self.inside.model; mode = c.self.inside.mode; cores = c.self.inside.machines.items } in
    let within = subst (λ (q : Portfolio). c.args.asset < length q.cores) (sym c.self.view_is) c.requires.asset in
    (asked p c.args.self.now c.args.asset c.index_mut.result.now c.args.best c.self.invariant c.self.view_is within c.index_mut.ensures.value c.requires.mode c.requires.satisfies).1

pub invariant_of-self : goal.invariant_of-self
invariant_of-self g c =
    let p : Portfolio = record { model = arc_value c.self.inside.model; mode = c.self.inside.mode; cores = c.self.inside.machines.items } in
    let within = subst (λ (q : Portfolio). c.args.asset < length q.cores) (sym c.self.view_is) c.requires.asset in
    offered_kept p c.args.asset c.index_mut.result.now c.offer.new.self c.args.best c.offer.result c.self.invariant within c.index_mut.ensures.value
    (asked p c.args.self.now c.args.asset c.index_mut.result.now c.args.best c.self.invariant c.self.view_is within c.index_mut.ensures.value c.requires.mode c.requires.satisfies) c.offer.ensures.ok c.offer.ensures.err

pub returns-clause-ok : goal.returns-clause-ok
returns-clause-ok g c =
    let p : Portfolio = record { model = arc_value c.self.inside.model; mode = c.self.inside.mode; cores = c.self.inside.machines.items } in
    let within = subst (λ (q : Portfolio). c.args.asset < length q.cores) (sym c.self.view_is) c.requires.asset in
    offered_ok p c.args.self.now c.args.asset c.index_mut.result.now c.offer.new.self c.args.best c.offer.result c.self.view_is within c.index_mut.ensures.value c.offer.ensures.ok

pub returns-clause-err : goal.returns-clause-err
returns-clause-err g c =
    let p : Portfolio = record { model = arc_value c.self.inside.model; mode = c.self.inside.mode; cores = c.self.inside.machines.items } in
    offered_err p c.args.self.now c.args.asset c.index_mut.result.now c.offer.new.self c.offer.result c.self.view_is c.index_mut.ensures.value c.offer.ensures.err
