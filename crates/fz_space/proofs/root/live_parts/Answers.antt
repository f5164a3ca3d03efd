use Rattle.std.proofs.Common.{ap}
use Rattle.fz_prop.specs.Stores.{Stored}
use Rattle.fz_prop.proofs.Lasting.{none_told}
use Rattle.fz_space.proofs.Living.{covers_root, alive_root}
use Rattle.fz_space.proofs.root.live_parts.Goals as goal

pub returns-clause-alive : goal.returns-clause-alive
returns-clause-alive c = λ _.
    alive_root c.args.network.now c.in_ok-agenda.agenda.states c.args.store c.model.ensures.network (ap (λ (s : Stored). s.doms) c.requires) (c.in_ok-agenda.ensures.settled c.args.store)

pub returns-clause-covers : goal.returns-clause-covers
returns-clause-covers c = covers_root c.args.network.now.model c.args.store (ap (λ (s : Stored). s.doms) c.requires)

pub returns-clause-told : goal.returns-clause-told
returns-clause-told c = none_told c.args.network.now.sayings c.in_ok-kept.kept.items c.args.store.doms c.in_ok-kept.ensures
