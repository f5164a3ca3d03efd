use Rattle.std.proofs.Common.{◌≡◌, ◌++◌, take}
use Rattle.fz_part.specs.Texts.{part_text}
use Rattle.fz_part.proofs.print.push_part.Given as goal

-- the decisions so far
abbrev pub invariant-later : goal.invariant-later
invariant-later l = l.text.items ≡ l.fn.text.items ++ part_text (take l.place l.decisions)
