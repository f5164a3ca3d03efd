use Rattle.std.proofs.Common.{ap, sym}
use Rattle.fz_path.specs.Paths.{bare}
use Rattle.fz_machine.specs.Lawfulness.{is_free}
use Rattle.fz_machine.proofs.Tests.{none_there, free_read, held_not_free, empty_by}
use Rattle.fz_machine.proofs.slot.is_free.Goals as goal

pub returns-then-is_idle : goal.returns-then-is_idle
returns-then-is_idle g c = free_read c.args.workers.now c.args.worker (bare c.slot.inside.path) c.slot.inside.hand c.in-Some.slot.now c.in-Some.ensures.lookup.0 c.in-Some.ensures.lookup.1 c.slot.view_is c.is_idle.result c.is_none.result c.is_idle.ensures c.if-is_idle.true (empty_by c.slot.inside.hand c.is_none.result c.is_none.ensures)

pub returns-else-is_idle : goal.returns-else-is_idle
returns-else-is_idle g c = held_not_free c.args.workers.now c.args.worker (bare c.slot.inside.path) c.slot.inside.hand c.in-Some.slot.now c.in-Some.ensures.lookup.0 c.in-Some.ensures.lookup.1 c.slot.view_is c.is_idle.result c.is_idle.ensures c.if-is_idle.false

pub returns-in-None : goal.returns-in-None
returns-in-None g c = sym (ap is_free (none_there c.args.workers.now c.args.worker c.in-None.ensures.lookup.0))
