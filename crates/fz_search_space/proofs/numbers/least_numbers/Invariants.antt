use Rattle.std.proofs.Common.{◌≡◌, map, take}
use Rattle.fz_dom.specs.Shape.{least}
use Rattle.fz_model.specs.Kept.{AreNumbers}
use Rattle.fz_search_space.proofs.numbers.least_numbers.Given as goal

abbrev pub invariant-places : goal.invariant-places
invariant-places l = (l.numbers.items ≡ map least (take l.place l.doms)) × AreNumbers l.numbers.items
