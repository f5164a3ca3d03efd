use Rattle.std.proofs.Common.{◌<◌, length, rules}
use Rattle.std.specs.Prelude.{false}
use Rattle.fz_agenda.specs.Wakes.{watch}
use Rattle.fz_engine.proofs.Watching.{number_watched, watched_extends}
use Rattle.fz_engine.proofs.network.watch_number.Goals as goal

pub returns-clause-extends : goal.returns-clause-extends
returns-clause-extends c =
    let within : c.in-Var.variable < length c.args.wakes.now.watches = search rules in
    watched_extends c.watch.result c.args.wakes.now c.watch.new.self c.in-Var.variable (watch c.args.place c.args.term c.args.number false) within (search rules) c.watch.ensures.err

pub returns-clause-watched : goal.returns-clause-watched
returns-clause-watched c =
    let within : c.in-Var.variable < length c.args.wakes.now.watches = search rules in
    number_watched c.watch.result c.args.wakes.now c.watch.new.self c.in-Var.variable c.args.term (watch c.args.place c.args.term c.args.number false) within c.in-Var.is (search rules)
