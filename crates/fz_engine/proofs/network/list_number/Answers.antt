use Rattle.fz_engine.proofs.Listing.{extends_twice}
use Rattle.fz_engine.proofs.Watching.{number_listed}
use Rattle.fz_engine.proofs.network.list_number.Goals as goal

pub returns-in_err-list_term-2-clause-extends : goal.returns-in_err-list_term-2-clause-extends
returns-in_err-list_term-2-clause-extends c = extends_twice c.args.wakes.now c.list_term.new.wakes c.list_term-2.new.wakes c.list_term.ensures.extends c.list_term-2.ensures.extends

pub returns-clause-extends : goal.returns-clause-extends
returns-clause-extends c =
    extends_twice c.args.wakes.now c.list_term-2.new.wakes c.watch_number.new.wakes
    (extends_twice c.args.wakes.now c.list_term.new.wakes c.list_term-2.new.wakes c.list_term.ensures.extends c.list_term-2.ensures.extends) c.watch_number.ensures.extends

pub returns-clause-steady : goal.returns-clause-steady
returns-clause-steady c =
    number_listed c.watch_number.result c.list_term.new.wakes c.list_term-2.new.wakes c.watch_number.new.wakes c.args.place c.args.term c.args.truth c.list_term-2.ensures.extends c.watch_number.ensures.extends
    c.in_ok-list_term.ensures.listed c.in_ok-list_term-2.ensures.listed
