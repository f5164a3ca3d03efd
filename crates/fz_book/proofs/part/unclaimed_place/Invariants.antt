use Rattle.std.proofs.Common.{◌≡◌, true, take}
use Rattle.std.specs.List.{list_all}
use Rattle.fz_tree.specs.Book.{is_claimed}
use Rattle.fz_book.proofs.part.unclaimed_place.Given as goal

-- all so far are claimed
abbrev pub invariant-loop-i : goal.invariant-loop-i
invariant-loop-i l = list_all is_claimed (take l.i l.parts) ≡ true
