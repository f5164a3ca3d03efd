use Rattle.std.proofs.Common.{length, take}
use Rattle.fz_engine.specs.Networks.{AreSaidOf, IsListing, sayings_of}
use Rattle.fz_engine.proofs.network.post_all.Given as goal

-- the propagators so far say what the constraints do
abbrev pub invariant-loop-number : goal.invariant-loop-number
invariant-loop-number l = record {
  said : AreSaidOf l.model.variables (take l.number l.constraints) (sayings_of l.posted.propagators.items);
  listing : IsListing (sayings_of l.posted.propagators.items) l.posted.wakes (length l.model.variables);
}
