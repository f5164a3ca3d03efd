use Rattle.std.proofs.Common.{◌≡◌, take}
use Rattle.std.specs.Prelude.{flat_map}
use Rattle.fz_spec.specs.Run.{line}
use Rattle.fz_print.proofs.block.block.Given as goal

-- the lines of the output items so far
abbrev pub invariant-loop-output : goal.invariant-loop-output
invariant-loop-output l = l.text.items ≡ flat_map (line l.values) (take l.output-index l.output-items)
