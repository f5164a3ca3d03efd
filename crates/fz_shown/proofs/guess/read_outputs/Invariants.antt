use Rattle.std.proofs.Common.{◌≡◌, drop}
use Rattle.fz_shown.specs.Guesses.{with_outputs}
use Rattle.fz_shown.proofs.guess.read_outputs.Given as goal

-- the items that are left make of it what all of them make
abbrev pub invariant-loop-output : goal.invariant-loop-output
invariant-loop-output l = with_outputs (drop l.output-index l.outputs) (record { values = l.values; left = l.left }) ≡ with_outputs l.outputs (record { values = l.fn.values; left = l.text })
