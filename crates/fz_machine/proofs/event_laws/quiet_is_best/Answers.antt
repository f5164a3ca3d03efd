use Rattle.fz_tree.proofs.Books.{closed_is_best}
use Rattle.fz_machine.proofs.Ends.{closes}
use Rattle.fz_machine.proofs.event_laws.quiet_is_best.Goals as goal

pub returns : goal.returns
returns c = λ s a law quiet best satisfies better.
    closed_is_best s.book a law.book best (closes s law quiet) satisfies better
