use Rattle.std.proofs.Common.{take}
use Rattle.std.specs.List.{AllByRecursion, concat}
use Rattle.fz_prop.specs.Stores.{IsListed}
use Rattle.fz_agenda.specs.Queues.{IsWoken, AreAwake}
use Rattle.fz_agenda.proofs.wakes.wake_words.Given as goal

-- those of the words so far are awake
abbrev pub invariant-loop-members : goal.invariant-loop-members
invariant-loop-members l = record {
  woken : IsWoken (IsListed (concat l.words)) l.costs l.initial.agenda l.agenda;
  awake : AllByRecursion (AreAwake l.agenda.states) (take l.members-index l.words);
}
