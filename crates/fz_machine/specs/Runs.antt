-- What a machine answers, and what many events make of it.
use Rattle.std.specs.Prelude.{◌≡◌, ◌⊎◌, true, false, List, [], ◌∷◌}
use Rattle.fz_machine.specs.declared.event.Event.{Event}
use Rattle.fz_machine.specs.declared.event.Answer.{Answer}
use Rattle.fz_machine.specs.declared.event.Answer.TheVariants as answer
use Rattle.fz_machine.specs.Cores.{Core}
use Rattle.fz_machine.specs.Lawfulness.{is_lawful}
use Rattle.fz_machine.specs.Events.{Happens, Refuses}

-- An event that is lawful happens; one that isn't is handed back, and nothing changes.
abbrev pub Answers : Answer → Event → Core → Core → Type 0
Answers (answer.Applied outcome) event old new = (is_lawful old event ≡ true) × Happens event outcome old new
Answers (answer.Unlawful e) event old new = (is_lawful old event ≡ false) × (e ≡ event) × (new ≡ old)

-- what one call makes of a machine, whether it answers or has no memory
abbrev pub Turns : Event → Core → Core → Type 0
Turns event old new = ((a : Answer) × Answers a event old new) ⊎ Refuses event old new

-- what a list of calls makes of it, one after the other
abbrev pub Runs : List Event → Core → Core → Type 0
Runs [] old new = new ≡ old
Runs (event ∷ events) old new = (between : Core) × Turns event old between × Runs events between new
