use Rattle.std.proofs.Common.{◌≡◌, map, length}
use Rattle.std.specs.List.{AllByRecursion}
use Rattle.std.specs.Vec.Iter.{into_iter_items, into_iter_len}
use Rattle.fz_language.specs.Within.{ItemFits}
use Rattle.fz_syntax.specs.Trees.{program_of, item_of}
use Rattle.fz_check.specs.Drafts.{IsAhead}
use Rattle.fz_check.proofs.checker.check.Given as goal

-- the draft is of the items before, and the others fit
abbrev pub invariant-loop-item : goal.invariant-loop-item
invariant-loop-item l =
    IsAhead (program_of l.fn.program) l.draft (map item_of (into_iter_items l.item-iterator))
    × (AllByRecursion ItemFits (map item_of (into_iter_items l.item-iterator)) × (into_iter_len l.item-iterator ≡ length (into_iter_items l.item-iterator)))
