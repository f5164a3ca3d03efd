use Rattle.std.proofs.Common.{◌≡◌, ℕ, List, take}
use Rattle.fz_join.specs.Machine.{none_ran}
use Rattle.fz_join.proofs.Tallying.{AreOnce, found}
use Rattle.fz_join.proofs.tally.Tally.new.Given as goal

-- the texts of the parts so far are in the map, and no two of them are the same
abbrev pub invariant-loop-part : goal.invariant-loop-part
invariant-loop-part l = record {
  none : (text : List ℕ) → found l.times text ≡ none_ran (take l.part-index l.parts) text;
  once : AreOnce (take l.part-index l.parts) (take l.part-index l.parts);
}
