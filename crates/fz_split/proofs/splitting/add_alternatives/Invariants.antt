use Rattle.std.proofs.Common.{take}
use Rattle.fz_split.proofs.Fronts.{IsDividedTo}
use Rattle.fz_split.proofs.splitting.add_alternatives.Given as goal

-- the alternatives so far are at the front
abbrev pub invariant-alternatives : goal.invariant-alternatives
invariant-alternatives g l = IsDividedTo (g.S.SearchSpace.spaced l.space).model l.part (take l.alternative l.choice) l.fn.nodes l.nodes
