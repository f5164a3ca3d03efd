use Rattle.std.proofs.Common.{◌≡◌, ℕ, ◌<◌, [], length}
use Rattle.std.specs.Prelude.{slice_index_or}
use Rattle.fz_agenda.proofs.agenda.clear_queues.Given as goal

-- those so far are empty
abbrev pub invariant-loop-i : goal.invariant-loop-i
invariant-loop-i l = record { size : length l.queues.items ≡ length l.initial.queues.items; empty : (k : ℕ) → k < l.i → slice_index_or l.queues.items k [] ≡ [] }
