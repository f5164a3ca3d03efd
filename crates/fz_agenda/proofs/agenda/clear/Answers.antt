use Rattle.std.proofs.Common.{◌∙◌, ℕ, subst, List, length, ◌≡◌, sym}
use Rattle.std.specs.Prelude.{slice_index}
use Rattle.fz_agenda.proofs.StateBits.{idle_zero}
use Rattle.fz_agenda.proofs.Standing.{agenda_idle}
use Rattle.fz_agenda.proofs.agenda.clear.Goals as goal

pub returns-clause-agenda : goal.returns-clause-agenda
returns-clause-agenda c =
    agenda_idle c.clear.new.self c.clear_queues.new.queues.items (c.clear_queues.ensures.size ∙ c.requires)
    (subst (λ (xs : List ℕ). (i : ℕ) → slice_index xs i ≡ 0) (sym c.clear.ensures) (idle_zero (length c.args.states.now))) c.clear_queues.ensures.empty
