use Rattle.fz_tree.proofs.Books.{closed_lists}
use Rattle.fz_machine.proofs.Ends.{closes}
use Rattle.fz_machine.proofs.event_laws.quiet_lists_all.Goals as goal

pub returns : goal.returns
returns c = λ s law quiet all. closed_lists s.book law.book all (closes s law quiet)
