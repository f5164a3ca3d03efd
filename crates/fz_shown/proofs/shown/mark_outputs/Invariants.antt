use Rattle.std.proofs.Common.{◌≡◌, drop, true}
use Rattle.fz_shown.specs.Guesses.{outputs_told}
use Rattle.fz_shown.proofs.shown.mark_outputs.Given as goal

-- the items that are left make of it what all of them make
abbrev pub invariant-loop-output : goal.invariant-loop-output
invariant-loop-output l = outputs_told (λ t. true) (drop l.output-index l.outputs) l.marks ≡ outputs_told (λ t. true) l.outputs l.fn.marks
