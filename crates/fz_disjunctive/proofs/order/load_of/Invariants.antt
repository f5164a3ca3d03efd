use Rattle.std.specs.Prelude.{◌≤◌, ◌*◌, ◌^◌, unsigned_abs}
use Rattle.std.proofs.Common.{take}
use Rattle.fz_disjunctive.specs.Schedules.{IsLoad, chosen}
use Rattle.fz_disjunctive.proofs.order.load_of.Given as goal

-- the load of those so far, and that what they need fits
abbrev pub invariant-loop-index : goal.invariant-loop-index
invariant-loop-index l = record {
  load : IsLoad (chosen l.choice (take l.index l.jobs)) l.load.total l.load.first_end;
  near : unsigned_abs l.load.total ≤ l.index * 2 ^ 32;
}
