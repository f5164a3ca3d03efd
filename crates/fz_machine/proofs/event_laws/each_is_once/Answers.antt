use Rattle.fz_machine.proofs.Once.{each_is_once}
use Rattle.fz_machine.proofs.event_laws.each_is_once.Goals as goal

pub returns : goal.returns
returns c = each_is_once
