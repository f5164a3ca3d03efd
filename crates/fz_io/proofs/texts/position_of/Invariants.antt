use Rattle.std.proofs.Common.{◌≡◌, drop}
use Rattle.fz_io.specs.Texts.{text_of}
use Rattle.fz_io.proofs.texts.position_of.Given as goal

abbrev pub invariant-loop-index : goal.invariant-loop-index
invariant-loop-index l = text_of (drop l.index l.texts) l.name ≡ text_of l.texts l.name
