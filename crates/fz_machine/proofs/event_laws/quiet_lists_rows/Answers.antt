use Rattle.fz_tree.proofs.Books.{closed_lists_rows}
use Rattle.fz_machine.proofs.Ends.{closes}
use Rattle.fz_machine.proofs.event_laws.quiet_lists_rows.Goals as goal

pub returns : goal.returns
returns c = λ s law quiet rows. closed_lists_rows s.book law.book rows (closes s law quiet)
