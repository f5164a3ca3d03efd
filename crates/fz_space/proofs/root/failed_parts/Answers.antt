use Rattle.fz_prop.proofs.Lasting.{none_told}
use Rattle.fz_space.proofs.Living.{covers_empty}
use Rattle.fz_space.proofs.root.failed_parts.Goals as goal

pub returns-clause-covers : goal.returns-clause-covers
returns-clause-covers c = covers_empty c.args.network.now.model c.empty.result c.requires

pub returns-clause-told : goal.returns-clause-told
returns-clause-told c = none_told c.args.network.now.sayings c.in_ok-kept.kept.items c.empty.result.doms c.in_ok-kept.ensures
