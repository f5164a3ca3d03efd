use Rattle.std.proofs.Common.{◌<◌, length, rules}
use Rattle.std.specs.Prelude.{true}
use Rattle.fz_agenda.specs.Wakes.{watch}
use Rattle.fz_engine.proofs.Watching.{watched_extends, watches_it}
use Rattle.fz_engine.proofs.network.watch_term.Goals as goal

pub returns-in-Some-clause-extends : goal.returns-in-Some-clause-extends
returns-in-Some-clause-extends c =
    let within : c.in-Var.variable < length c.args.wakes.now.watches = search rules in
    watched_extends c.watch.result c.args.wakes.now c.watch.new.self c.in-Var.variable (watch c.args.place c.args.index c.in-Some.number true) within (search rules) c.watch.ensures.err

pub returns-in-Some-clause-watched : goal.returns-in-Some-clause-watched
returns-in-Some-clause-watched c =
    let within : c.in-Var.variable < length c.args.wakes.now.watches = search rules in
    watches_it c.watch.result c.args.wakes.now c.watch.new.self c.in-Var.variable c.args.place c.args.before c.args.term c.args.index c.in-Some.number within c.in-Var.is c.in-Some.ensures (search rules)
