use Rattle.fz_column.proofs.packed.packed_of.Goals as goal

pub fill-requires-clause-order : goal.fill-requires-clause-order
fill-requires-clause-order c = c.requires

pub fill-requires-clause-sized : goal.fill-requires-clause-sized
fill-requires-clause-sized c = c.in-Some.ensures.sized

pub fill-requires-clause-least : goal.fill-requires-clause-least
fill-requires-clause-least c = c.in-Some.ensures.least
