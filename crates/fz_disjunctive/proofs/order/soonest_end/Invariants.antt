use Rattle.std.specs.Prelude.{◌≤◌, ◌*◌, ◌^◌, unsigned_abs}
use Rattle.fz_disjunctive.proofs.Choosing.{IsSofar}
use Rattle.fz_disjunctive.proofs.order.soonest_end.Given as goal

-- what is known of the jobs so far, and that what they need fits
abbrev pub invariant-loop-index : goal.invariant-loop-index
invariant-loop-index l = record {
  sofar : IsSofar l.jobs l.choice l.floor l.index l.since l.total l.end;
  near : unsigned_abs l.total ≤ l.index * 2 ^ 32;
}
